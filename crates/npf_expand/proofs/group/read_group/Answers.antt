use Rattle.std.proofs.Common.{◌∙◌}
use Rattle.npf_expand_values.specs.Scope.{declared_of_scope, env_of_scope, ifaces_of_scope}
use Rattle.npf_expand.{specs.Group.{head_faults, items_elements}, proofs.StepLemmas.{group_is, group_met}}
use Rattle.npf_expand.proofs.group.read_group.Goals as goal

pub returns-clause-met : goal.returns-clause-met
returns-clause-met c =
    let scope = c.args.scope.now in
    let ifaces = ifaces_of_scope scope in
    let env = env_of_scope scope in
    let declared = declared_of_scope scope in
    group_met ifaces env declared c.args.met.now c.meet.new.self c.read_items.new.met (head_faults ifaces env declared c.args.head.now) c.args.items.now
    (items_elements ifaces env declared c.args.items.now) (c.meet.ensures (head_faults ifaces env declared c.args.head.now) c.head_fault.ensures) c.in_ok-items.ensures.met

pub returns-clause-built : goal.returns-clause-built
returns-clause-built c =
    let scope = c.args.scope.now in
    λ none. c.in_ok-group.ensures
    ∙ group_is (ifaces_of_scope scope) (env_of_scope scope) (declared_of_scope scope) c.args.head.now c.args.items.now c.in_ok-items.items (c.in_ok-items.ensures.built none)
