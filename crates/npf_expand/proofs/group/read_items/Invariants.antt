use Rattle.npf_expand_values.specs.Scope.{declared_of_scope, env_of_scope, ifaces_of_scope}
use Rattle.npf_expand.proofs.StepLemmas.{ItemsLeft}
use Rattle.npf_expand.proofs.group.read_items.Given as goal

abbrev pub invariant-loop-item : goal.invariant-loop-item
invariant-loop-item l = record {
  left : ItemsLeft (ifaces_of_scope l.scope) (env_of_scope l.scope) (declared_of_scope l.scope) l.fn.met l.met l.built.items l.fn.items l.item-index;
}
