use Rattle.std.proofs.Common.{refl, ◌∙◌, rules}
use Rattle.npf_expand_values.specs.Scope.{declared_of_scope, env_of_scope, ifaces_of_scope}
use Rattle.npf_expand.proofs.StepLemmas.{items_built, items_met, items_step}
use Rattle.npf_expand.proofs.group.read_items.Goals as goal

pub loop-item-init : goal.loop-item-init
loop-item-init c = record { left = record { faults = refl; count = refl; model = λ none. search rules } }

pub loop-item-preserved : goal.loop-item-preserved
loop-item-preserved c =
    let scope = c.args.scope.now in
    record {
      left = items_step (ifaces_of_scope scope) (env_of_scope scope) (declared_of_scope scope) c.args.met.now c.loop-item.met c.read_item.new.met
          c.loop-item.built.items c.read_item.new.built.items c.args.items.now c.loop-item.item-index c.item-item.result _ c.loop-item-test.true c.item-item.is
          c.loop-item.invariant.left c.in_ok-read_item.ensures.met c.in_ok-read_item.ensures.built;
    }

pub returns-clause-met : goal.returns-clause-met
returns-clause-met c =
    let scope = c.args.scope.now in
    items_met (ifaces_of_scope scope) (env_of_scope scope) (declared_of_scope scope) c.args.met.now c.loop-item.met c.loop-item.built.items c.args.items.now c.loop-item.item-index
    c.loop-item-test.false c.loop-item.invariant.left

pub returns-clause-built : goal.returns-clause-built
returns-clause-built c =
    let scope = c.args.scope.now in
    λ none. c.of_vec.ensures ∙ items_built (ifaces_of_scope scope) (env_of_scope scope) (declared_of_scope scope) c.args.met.now c.loop-item.met c.loop-item.built.items c.args.items.now
    c.loop-item.item-index c.loop-item-test.false c.loop-item.invariant.left none
