use Rattle.std.{proofs.{Common.{◌+◌, ◌++◌, drop, append_assoc, ap, sym, ◌∙◌}, lemmas.List.{drop_more, drop_all}}, specs.List.flat_map}
use Rattle.npf_check.specs.Duplicate.{first_again, ruleset_given}
use Rattle.npf_check.proofs.duplicate.Repeated.meet_rulesets.Goals as goal

pub loop-item-preserved : goal.loop-item-preserved
loop-item-preserved c = λ names.
    let now = c.loop-item.self in
    let i = c.loop-item.item-index in
    let behind = flat_map ruleset_given (drop (i + 1) c.args.items.now) in
    c.loop-item.invariant names
    ∙ ap (λ items. first_again now (flat_map ruleset_given items ++ names)) (drop_more c.args.items.now i c.item-item.result c.loop-item-test.true)
    ∙ ap (λ item. first_again now ((ruleset_given item ++ behind) ++ names)) (sym c.item-item.is)
    ∙ ap (first_again now) (append_assoc (ruleset_given c.item-item.result) behind names)
    ∙ ap (λ given. first_again now (given ++ (behind ++ names))) (sym c.ruleset_given.ensures)
    ∙ c.in_ok-meet.ensures (behind ++ names)

pub returns : goal.returns
returns c = λ names.
    c.loop-item.invariant names
    ∙ ap (λ items. first_again c.loop-item.self (flat_map ruleset_given items ++ names)) (drop_all c.loop-item.item-index c.args.items.now c.loop-item-test.false)
