use Rattle.std.{proofs.Common.{◌≡◌, drop}, specs.List.flat_map}
use Rattle.npf_faults.specs.First.{earlier, first_fault}
use Rattle.npf_check.specs.Unbuilt.{unbuilt}
use Rattle.npf_check.proofs.unbuilt.unbuilt_in_stmts.Given as goal

abbrev pub invariant-loop-stmt : goal.invariant-loop-stmt
invariant-loop-stmt l = first_fault (flat_map unbuilt l.stmts) ≡ earlier l.first (first_fault (flat_map unbuilt (drop l.stmt-index l.stmts)))
