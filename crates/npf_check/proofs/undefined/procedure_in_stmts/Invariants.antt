use Rattle.std.{proofs.Common.{◌≡◌, drop}, specs.List.flat_map}
use Rattle.npf_faults.specs.First.{earlier, first_fault}
use Rattle.npf_check.specs.{Name.holds, Undefined.procedures_of_stmt}
use Rattle.npf_check.proofs.undefined.procedure_in_stmts.Given as goal

abbrev pub invariant-loop-stmt : goal.invariant-loop-stmt
invariant-loop-stmt l = first_fault (flat_map (procedures_of_stmt (holds l.procedures)) l.stmts) ≡ earlier l.first
    (first_fault (flat_map (procedures_of_stmt (holds l.procedures)) (drop l.stmt-index l.stmts)))
