use Rattle.std.proofs.Common.{◌≡◌, Ok, Err, List, flat_map, rules, sym, ap, subst, ◌∙◌}
use Rattle.npf_model.specs.{declared.{group.Group.Group, model.Model.Model}, Configuration.Configuration}
use Rattle.npf_types.specs.Stages.{goes_on, stops}
use Rattle.npf_ruleset.specs.Configuration.{configuration}
use Rattle.npf_config_changes.specs.{declared.fault.ChangeFault.TheVariants.UnknownRuleset, Additions.{AddsRule, KeepsLimits, MeansRule}, Changes.found_ruleset}
use Rattle.npf_config_changes.specs.{Found.{ruleset_of, told_ruleset}, Rulesets.{rulesets_in, rulesets_named}, Told.EndsUnlessMemory}
use Rattle.npf_config_changes.proofs.AdditionLemmas.{rule_tables}
use Rattle.npf_config_changes.proofs.addition.rule_add.Goals as goal

pub returns-in_default-clause-err : goal.returns-in_default-clause-err
returns-in_default-clause-err c = λ _.
    let groups = c.as_slice.ensures ∙ ap (λ m. m.groups) c.model.ensures in
    let none : Err UnknownRuleset ≡ found_ruleset (rulesets_named c.args.name c.args.config.now.model) =
    ap told_ruleset (sym c.in_default.is) ∙ c.find_ruleset.ensures ∙ ap (λ (all : List Group). found_ruleset (flat_map (rulesets_in c.args.name) all)) groups in
    stops none

pub returns-in_err-tree-clause-err : goal.returns-in_err-tree-clause-err
returns-in_err-tree-clause-err c =
    let found = c.in-Some.found in
    let groups = c.as_slice.ensures ∙ ap (λ m. m.groups) c.model.ensures in
    let some : Ok (ruleset_of found) ≡ found_ruleset (rulesets_named c.args.name c.args.config.now.model) =
    ap told_ruleset (sym c.in-Some.is) ∙ c.find_ruleset.ensures ∙ ap (λ (all : List Group). found_ruleset (flat_map (rulesets_in c.args.name) all)) groups in
    let fault = c.in_err-tree.field-0.0 in
    let same : c.from_residual.result ≡ Err fault = search rules in
    let ends : EndsUnlessMemory (AddsRule (configuration c.args.config.now) c.args.name c.args.ifaces.now.list c.args.text.now) fault =
    λ other. goes_on some (stops (c.in_err-tree.ensures.err other)) in
    rw same ends

pub returns-in_err-rule-clause-err : goal.returns-in_err-rule-clause-err
returns-in_err-rule-clause-err c =
    let found = c.in-Some.found in
    let groups = c.as_slice.ensures ∙ ap (λ m. m.groups) c.model.ensures in
    let some : Ok (ruleset_of found) ≡ found_ruleset (rulesets_named c.args.name c.args.config.now.model) =
    ap told_ruleset (sym c.in-Some.is) ∙ c.find_ruleset.ensures ∙ ap (λ (all : List Group). found_ruleset (flat_map (rulesets_in c.args.name) all)) groups in
    let fault = c.in_err-rule.field-0.0 in
    let same : c.from_residual-in_err-rule.result ≡ Err fault = search rules in
    let refuses = subst (λ (m : Model). EndsUnlessMemory (MeansRule c.args.ifaces.now.list m c.in_ok-tree.tree) fault) c.model-2.ensures c.in_err-rule.ensures.err in
    let ends : EndsUnlessMemory (AddsRule (configuration c.args.config.now) c.args.name c.args.ifaces.now.list c.args.text.now) fault =
    λ other. goes_on some (goes_on c.in_ok-tree.ensures.ok (stops (refuses other))) in
    rw same ends

pub with_rule-requires-clause-tables : goal.with_rule-requires-clause-tables
with_rule-requires-clause-tables c =
    let means : MeansRule c.args.ifaces.now.list c.args.config.now.model c.in_ok-tree.tree (Ok c.in_ok-rule.rule) =
    subst (λ (m : Model). MeansRule c.args.ifaces.now.list m c.in_ok-tree.tree (Ok c.in_ok-rule.rule)) c.model-2.ensures c.in_ok-rule.ensures.ok in
    rule_tables c.args.config.now c.args.ifaces.now.list c.in_ok-tree.tree c.in_ok-rule.rule means

pub returns-in_err-next-clause-err : goal.returns-in_err-next-clause-err
returns-in_err-next-clause-err c =
    let found = c.in-Some.found in
    let groups = c.as_slice.ensures ∙ ap (λ m. m.groups) c.model.ensures in
    let some : Ok (ruleset_of found) ≡ found_ruleset (rulesets_named c.args.name c.args.config.now.model) =
    ap told_ruleset (sym c.in-Some.is) ∙ c.find_ruleset.ensures ∙ ap (λ (all : List Group). found_ruleset (flat_map (rulesets_in c.args.name) all)) groups in
    let means : MeansRule c.args.ifaces.now.list c.args.config.now.model c.in_ok-tree.tree (Ok c.in_ok-rule.rule) =
    subst (λ (m : Model). MeansRule c.args.ifaces.now.list m c.in_ok-tree.tree (Ok c.in_ok-rule.rule)) c.model-2.ensures c.in_ok-rule.ensures.ok in
    let fault = c.in_err-next.field-0.0 in
    let same : c.from_residual-in_err-next.result ≡ Err fault = search rules in
    let ends : EndsUnlessMemory (AddsRule (configuration c.args.config.now) c.args.name c.args.ifaces.now.list c.args.text.now) fault =
    λ other. goes_on some (goes_on c.in_ok-tree.ensures.ok (goes_on means (stops (c.in_err-next.ensures.err other)))) in
    rw same ends

pub returns-clause-ok : goal.returns-clause-ok
returns-clause-ok c =
    let found = c.in-Some.found in
    let groups = c.as_slice.ensures ∙ ap (λ m. m.groups) c.model.ensures in
    let some : Ok (ruleset_of found) ≡ found_ruleset (rulesets_named c.args.name c.args.config.now.model) =
    ap told_ruleset (sym c.in-Some.is) ∙ c.find_ruleset.ensures ∙ ap (λ (all : List Group). found_ruleset (flat_map (rulesets_in c.args.name) all)) groups in
    let means : MeansRule c.args.ifaces.now.list c.args.config.now.model c.in_ok-tree.tree (Ok c.in_ok-rule.rule) =
    subst (λ (m : Model). MeansRule c.args.ifaces.now.list m c.in_ok-tree.tree (Ok c.in_ok-rule.rule)) c.model-2.ensures c.in_ok-rule.ensures.ok in
    let next = c.in_ok-next.next in
    let is = c.in_ok-next.ensures.is in
    let limits = subst (λ (m : Model). KeepsLimits c.in_ok-tree.tree.span c.in_ok-rule.rule m (Ok tt)) (ap (λ (config : Configuration). config.model) is) c.in_ok-next.ensures.limits in
    goes_on some (goes_on c.in_ok-tree.ensures.ok (goes_on means (goes_on limits (ap (λ (config : Configuration). Ok (config, found.next_id)) is))))
