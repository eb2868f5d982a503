use Rattle.std.{proofs.Common.{◌≡◌, drop}, specs.List.flat_map}
use Rattle.npf_faults.specs.First.{earlier, first_fault}
use Rattle.npf_check.specs.Unbuilt.{unbuilt_call}
use Rattle.npf_check.proofs.unbuilt.unbuilt_in_calls.Given as goal

abbrev pub invariant-loop-call : goal.invariant-loop-call
invariant-loop-call l = first_fault (flat_map unbuilt_call l.calls) ≡ earlier l.first (first_fault (flat_map unbuilt_call (drop l.call-index l.calls)))
