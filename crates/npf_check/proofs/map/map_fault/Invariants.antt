use Rattle.std.proofs.Common.{◌≡◌, drop}
use Rattle.npf_faults.specs.First.{first_fault}
use Rattle.npf_check.specs.Map.{bad_map_faults, first_bad}
use Rattle.npf_check.proofs.map.map_fault.Given as goal

abbrev pub invariant-loop-stmt : goal.invariant-loop-stmt
invariant-loop-stmt l = first_fault (bad_map_faults l.fn.tree l.fn.model) ≡ first_bad l.so_far (drop l.stmt-index l.stmt-items)
