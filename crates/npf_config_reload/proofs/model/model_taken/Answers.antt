use Rattle.std.proofs.{Common.{◌≡◌, List, flat_map, map, ap, ◌∙◌}, lemmas.Result.IfOk-weaker}
use Rattle.npf_types.specs.declared.name.Name.{Name}
use Rattle.npf_model.specs.declared.group.Group.{Group}
use Rattle.npf_config_changes.specs.Rulesets.{rulesets_in}
use Rattle.npf_config_reload.{specs.{Before.{again_of, found_by}, Taken.{Again, again_in, first_of, group_taken, ruleset_in}}, proofs.TakenLemmas.same_groups}
use Rattle.npf_config_reload.proofs.model.model_taken.Goals as goal

pub returns : goal.returns
returns c =
    let old = c.args.old.now in
    let file = c.args.file.now in
    let rulesets = c.in_ok-of.field-0 in
    let places = c.in_ok-of-2.field-0 in
    let found : (name : Name) → found_by rulesets name ≡ ruleset_in old name =
    λ name. c.in_ok-of.ensures name ∙ ap (λ (groups : List Group). first_of (flat_map (rulesets_in name) groups)) c.as_slice.ensures in
    let groups =
    c.in_ok-groups.ensures ∙ ap (map (group_taken (again_of places) (found_by rulesets))) c.as_slice-2.ensures
    ∙ ap (λ (again : Again). map (group_taken again (found_by rulesets)) file.groups) c.in_ok-of-2.ensures
    ∙ same_groups (again_in old file) (found_by rulesets) (ruleset_in old) found file.groups in
    IfOk-weaker c.with_groups.result _ _ (λ model is. is ∙ ap (λ (all : List Group). record file { groups = all }) groups) c.with_groups.ensures
