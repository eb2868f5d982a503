use Rattle.std.{proofs.Common.{◌≡◌, [], List, map, sym, ap, subst, ◌∙◌}, specs.List.AllZip}
use Rattle.npf_model.specs.{declared.{group.Group.Group, model.Model.Model}, Verdict.all_rules}
use Rattle.npf_ruleset.specs.{declared.flat.FlatRule.FlatRule, Flat.programs_of}
use Rattle.npf_config_changes.{specs.{Kept.{Keeps, Serves, ruleset_change}, Rulesets.{group_with_ruleset, model_with_ruleset}}, proofs.NextLemmas.old_serve}
use Rattle.npf_config_changes.proofs.next.changed.Goals as goal

pub changed_programs-requires-clause-serve : goal.changed_programs-requires-clause-serve
changed_programs-requires-clause-serve c =
    let config = c.args.config.now in
    let groups_are : c.as_slice-groups.result.now ≡ config.model.groups = c.as_slice-groups.ensures ∙ ap (λ m. m.groups) c.model.ensures in
    subst (λ (groups : List Group). AllZip Serves (all_rules groups) (programs_of c.rules.result.now)) (sym groups_are)
    (subst (λ (flats : List FlatRule). AllZip Serves (all_rules config.model.groups) (programs_of flats)) (sym c.rules.ensures) (old_serve config))

pub returns-clause-keeps : goal.returns-clause-keeps
returns-clause-keeps c =
    let config = c.args.config.now in
    let change = c.args.change in
    let changed = group_with_ruleset c.args.name.now (ruleset_change change) in
    let ps = c.in_ok-programs.programs.items in
    let groups_are : c.as_slice-groups.result.now ≡ config.model.groups = c.as_slice-groups.ensures ∙ ap (λ m. m.groups) c.model.ensures in
    let of_model : c.in_ok-model.model ≡ model_with_ruleset c.args.name.now (ruleset_change change) config.model =
    c.in_ok-model.ensures ∙ ap (model_with_ruleset c.args.name.now (ruleset_change change)) c.model-2.ensures in
    subst (λ (m : Model). Keeps change (all_rules m.groups) config.rules [] [] ps) (sym of_model)
    (subst (λ (flats : List FlatRule). Keeps change (all_rules (map changed config.model.groups)) flats [] [] ps) c.rules.ensures
    (subst (λ (groups : List Group). Keeps change (all_rules (map changed groups)) c.rules.result.now [] [] ps) groups_are c.in_ok-programs.ensures))
