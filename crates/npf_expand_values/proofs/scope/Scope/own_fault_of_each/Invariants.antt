use Rattle.std.{proofs.Common.{◌≡◌, drop}, specs.List.flat_map}
use Rattle.npf_faults.specs.First.{earlier, first_fault}
use Rattle.npf_expand_values.specs.{Scope.{env_of_scope, ifaces_of_scope}, Variable.own_faults}
use Rattle.npf_expand_values.proofs.scope.Scope.own_fault_of_each.Given as goal

abbrev pub invariant-loop-value : goal.invariant-loop-value
invariant-loop-value l = record {
  left : first_fault (flat_map (own_faults (ifaces_of_scope l.self) (env_of_scope l.self)) l.fn.values) ≡ earlier l.first
      (first_fault (flat_map (own_faults (ifaces_of_scope l.self) (env_of_scope l.self)) (drop l.value-index l.fn.values)));
}
