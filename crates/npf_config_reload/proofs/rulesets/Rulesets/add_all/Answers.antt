use Rattle.std.proofs.Common.{List, ◌++◌, append-nil, append_assoc, flat_map, sym, ap, take, ◌∙◌}
use Rattle.npf_types.specs.declared.name.Name.{Name}
use Rattle.npf_config_changes.specs.Rulesets.{Ruleset, rulesets_at}
use Rattle.npf_config_reload.{specs.Taken.first_of, proofs.EachLemmas.parts_more}
use Rattle.npf_config_reload.proofs.rulesets.Rulesets.add_all.Goals as goal

pub loop-item-init : goal.loop-item-init
loop-item-init c = λ before finds name. finds name ∙ ap first_of (sym (append-nil (before name)))

pub loop-item-preserved : goal.loop-item-preserved
loop-item-preserved c = λ before finds name.
    let items = c.args.items.now in
    let i = c.loop-item.item-index in
    let item = c.item-item.result in
    let front : Name → List Ruleset = λ other. flat_map (rulesets_at other) (take i items) in
    c.in_ok-add.ensures (λ other. before other ++ front other) (c.loop-item.invariant before finds) name
    ∙ ap first_of (append_assoc (before name) (front name) (rulesets_at name item)
    ∙ ap (λ here. before name ++ here) (sym (parts_more (rulesets_at name) items i item c.loop-item-test.true c.item-item.is)))
