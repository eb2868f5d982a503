use Rattle.std.proofs.Common.{List, ◌++◌, flat_map, sym, ap, take, ◌∙◌}
use Rattle.npf_types.specs.declared.name.Name.{Name}
use Rattle.npf_model.specs.declared.group.Item.{Item}
use Rattle.npf_config_changes.specs.Rulesets.{Ruleset, rulesets_at, rulesets_in}
use Rattle.npf_config_reload.{specs.Taken.first_of, proofs.EachLemmas.parts_more}
use Rattle.npf_config_reload.proofs.rulesets.Rulesets.of.Goals as goal

pub loop-group-preserved : goal.loop-group-preserved
loop-group-preserved c = λ name.
    let groups = c.args.groups.now in
    let i = c.loop-group.group-index in
    let before : Name → List Ruleset = λ other. flat_map (rulesets_in other) (take i groups) in
    c.in_ok-add_all.ensures before c.loop-group.invariant name
    ∙ ap (λ (items : List Item). first_of (before name ++ flat_map (rulesets_at name) items)) c.as_slice.ensures
    ∙ ap first_of (sym (parts_more (rulesets_in name) groups i c.group-item.result c.loop-group-test.true c.group-item.is))
