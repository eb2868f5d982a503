use Rattle.std.{proofs.{Common.{◌+◌, ◌++◌, length, map, ap, ◌∙◌, sym}, lemmas.List.map-append}, specs.Prelude.{ℕ, Option}}
use Rattle.npf_types.specs.declared.direction.Dir.{Dir}
use Rattle.npf_model.specs.{Verdict.{PlacedRule, rules_at}, declared.rule.{OnIf.OnIf, Rule.Rule}}
use Rattle.npf_precedence.{specs.{Entry.ordered_rule, Precedence.{rules_from}}, proofs.EntryLemmas.{lays_all, lays_entry}}
use Rattle.npf_precedence.proofs.order.add_item.Goals as goal

-- a rule of a ruleset that is bound to these
abbrev placed_in : Option Dir → Option OnIf → ℕ × Rule → PlacedRule
placed_in dir on numbered = record { within_dir = dir; within_on = on; rule = numbered.1 }

pub loop-entry-preserved : goal.loop-entry-preserved
loop-entry-preserved c =
    lays_entry (placed_in c.in-Dynamic.dir c.in-Dynamic.on) c.args.group.now c.args.first c.as_slice-entry-items.result.now c.loop-entry.entry-index c.entry-item.result
    c.args.rules.now.items c.loop-entry.rules.items c.push-in-loop-entry.new.self.items (c.args.first + c.len-in-loop-entry.result) c.loop-entry-test.true c.entry-item.is
    c.loop-entry.invariant (ap (λ k. c.args.first + k) (c.len-in-loop-entry.ensures ∙ c.loop-entry.rules.ok.0))
    (simp map-append at (ap (map ordered_rule) c.in_ok-push-in-Dynamic.ensures.items))

pub returns-after-loop-entry : goal.returns-after-loop-entry
returns-after-loop-entry c =
    let placed = placed_in c.in-Dynamic.dir c.in-Dynamic.on in
    let before = map ordered_rule c.args.rules.now.items in
    let from = c.args.first + length c.args.rules.now.items in
    lays_all placed c.args.group.now from c.as_slice-entry-items.result.now c.loop-entry.entry-index before (map ordered_rule c.loop-entry.rules.items)
    c.loop-entry-test.false c.loop-entry.invariant
    ∙ ap (λ rules. before ++ rules_from c.args.group.now from (map placed rules)) c.as_slice-entry-items.ensures
    ∙ ap (λ item. before ++ rules_from c.args.group.now from (rules_at item)) (sym c.in-Dynamic.is)
