use Rattle.std.proofs.Common.{◌≡◌, true, false, Ok, Err, List, flat_map, refl, rules, sym, ap, ◌∙◌}
use Rattle.npf_model.specs.declared.group.Group.{Group}
use Rattle.npf_types.specs.Stages.{goes_on, stops}
use Rattle.npf_config_changes.specs.{declared.fault.ChangeFault.TheVariants.UnknownRuleset, Changes.found_ruleset, Found.{ruleset_of, told_ruleset}}
use Rattle.npf_config_changes.specs.Rulesets.{has_rule, rulesets_in, rulesets_named}
use Rattle.npf_config_changes.proofs.removal.rule_rem.Goals as goal

pub returns-in_default-clause-err : goal.returns-in_default-clause-err
returns-in_default-clause-err c = λ _.
    let groups = c.as_slice.ensures ∙ ap (λ m. m.groups) c.model.ensures in
    let none : Err UnknownRuleset ≡ found_ruleset (rulesets_named c.args.name c.args.config.now.model) =
    ap told_ruleset (sym c.in_default.is) ∙ c.find_ruleset.ensures ∙ ap (λ (all : List Group). found_ruleset (flat_map (rulesets_in c.args.name) all)) groups in
    stops none

pub returns-then-not-has_rule-clause-err : goal.returns-then-not-has_rule-clause-err
returns-then-not-has_rule-clause-err c = λ _.
    let found = c.in-Some.found in
    let groups = c.as_slice.ensures ∙ ap (λ m. m.groups) c.model.ensures in
    let some : Ok (ruleset_of found) ≡ found_ruleset (rulesets_named c.args.name c.args.config.now.model) =
    ap told_ruleset (sym c.in-Some.is) ∙ c.find_ruleset.ensures ∙ ap (λ (all : List Group). found_ruleset (flat_map (rulesets_in c.args.name) all)) groups in
    let hasnt : has_rule c.args.id (ruleset_of found) ≡ false = search rules in
    goes_on some (stops (rw hasnt refl))

pub returns-clause-ok : goal.returns-clause-ok
returns-clause-ok c =
    let found = c.in-Some.found in
    let groups = c.as_slice.ensures ∙ ap (λ m. m.groups) c.model.ensures in
    let some : Ok (ruleset_of found) ≡ found_ruleset (rulesets_named c.args.name c.args.config.now.model) =
    ap told_ruleset (sym c.in-Some.is) ∙ c.find_ruleset.ensures ∙ ap (λ (all : List Group). found_ruleset (flat_map (rulesets_in c.args.name) all)) groups in
    let has : has_rule c.args.id (ruleset_of found) ≡ true = search rules in
    goes_on some (goes_on (rw has refl) (ap Ok c.in_ok-without.ensures.is))
