use Rattle.std.{proofs.Common.{◌≡◌, drop}, specs.List.flat_map}
use Rattle.npf_faults.specs.First.{earlier, first_fault}
use Rattle.npf_expand_values.specs.{Scope.{env_of_scope, ifaces_of_scope}, Variable.each_value_faults}
use Rattle.npf_expand_values.proofs.scope.Scope.each_fault.Given as goal

abbrev pub invariant-loop-value : goal.invariant-loop-value
invariant-loop-value l = record {
  left : first_fault (flat_map (each_value_faults (ifaces_of_scope l.self) (env_of_scope l.self) l.role) l.fn.values) ≡ earlier l.first
      (first_fault (flat_map (each_value_faults (ifaces_of_scope l.self) (env_of_scope l.self) l.role) (drop l.value-index l.fn.values)));
}
