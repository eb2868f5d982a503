use Rattle.std.proofs.Common.{◌++◌, ◌∷◌, [], sym, ap, subst, ◌∙◌}
use Rattle.npf_syntax.specs.declared.group.ItemTree.{ItemTree as WrittenItem}
use Rattle.npf_model.specs.declared.group.Item.{Item}
use Rattle.npf_expand_values.specs.Scope.{declared_of_scope, env_of_scope, ifaces_of_scope}
use Rattle.npf_expand.specs.{Group.{item_elements, item_faults, item_of_tree}, Meets.Meets, Rule.{filter_count, passing_faults, rule_faults}}
use Rattle.npf_expand.proofs.StepLemmas.{few_gathered}
use Rattle.npf_expand.proofs.group.read_item.Goals as goal

pub add_rule-requires : goal.add_rule-requires
add_rule-requires c =
    let scope = c.args.scope.now in
    let rule = c.in-Rule.rule in
    let faults = rule_faults (ifaces_of_scope scope) (env_of_scope scope) rule in
    let elements = filter_count (ifaces_of_scope scope) (env_of_scope scope) rule.filter in
    few_gathered c.args.met.now c.meet_rule.new.self (faults ++ passing_faults c.args.met.now.elements elements rule.span) elements
    (c.meet_rule.ensures faults elements c.rule_fault.ensures c.in_ok-more-in-Rule.ensures) (sym c.is_some.ensures ∙ c.if-is_some.false)

pub returns-then-is_some-clause-met : goal.returns-then-is_some-clause-met
returns-then-is_some-clause-met c =
    let scope = c.args.scope.now in
    let ifaces = ifaces_of_scope scope in
    let env = env_of_scope scope in
    let declared = declared_of_scope scope in
    subst (λ (item : WrittenItem). Meets c.args.met.now c.meet_rule.new.self (item_faults ifaces env declared c.args.met.now.elements item) (item_elements ifaces env declared item))
    (sym c.in-Rule.is)
    (c.meet_rule.ensures (rule_faults ifaces env c.in-Rule.rule) (filter_count ifaces env c.in-Rule.rule.filter) c.rule_fault.ensures c.in_ok-more-in-Rule.ensures)

pub returns-in_ok-add_rule-in-Rule-clause-met : goal.returns-in_ok-add_rule-in-Rule-clause-met
returns-in_ok-add_rule-in-Rule-clause-met c =
    let scope = c.args.scope.now in
    let ifaces = ifaces_of_scope scope in
    let env = env_of_scope scope in
    let declared = declared_of_scope scope in
    subst (λ (item : WrittenItem). Meets c.args.met.now c.meet_rule.new.self (item_faults ifaces env declared c.args.met.now.elements item) (item_elements ifaces env declared item))
    (sym c.in-Rule.is)
    (c.meet_rule.ensures (rule_faults ifaces env c.in-Rule.rule) (filter_count ifaces env c.in-Rule.rule.filter) c.rule_fault.ensures c.in_ok-more-in-Rule.ensures)

pub returns-in_ok-push-in-Ruleset-clause-built : goal.returns-in_ok-push-in-Ruleset-clause-built
returns-in_ok-push-in-Ruleset-clause-built c =
    let scope = c.args.scope.now in
    λ none. c.in_ok-push-in-Ruleset.ensures.items
    ∙ ap (λ (item : Item). c.args.built.now.items ++ item ∷ [])
    (c.ruleset_of.ensures ∙ ap (item_of_tree (ifaces_of_scope scope) (env_of_scope scope) (declared_of_scope scope)) (sym c.in-Ruleset.is))
