use Rattle.std.{proofs.Common.{◌≡◌, drop}, specs.List.flat_map}
use Rattle.npf_faults.specs.First.{earlier, first_fault}
use Rattle.npf_expand_values.specs.{Scope.env_of_scope, Protocol.protocol_faults}
use Rattle.npf_expand.proofs.filter.ones_fault.Given as goal

abbrev pub invariant-loop-one : goal.invariant-loop-one
invariant-loop-one l = record {
  left : first_fault (flat_map (protocol_faults (env_of_scope l.scope)) l.fn.ones) ≡ earlier l.first (first_fault (flat_map (protocol_faults (env_of_scope l.scope)) (drop l.one-index l.fn.ones)));
}
