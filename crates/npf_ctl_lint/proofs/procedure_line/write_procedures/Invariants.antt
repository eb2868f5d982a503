use Rattle.std.proofs.Common.{◌≡◌, ◌++◌, drop, length, zip}
use Rattle.std.specs.List.{flat_map}
use Rattle.npf_ctl_lint.specs.ProcedureLine.{found_procedure_line}
use Rattle.npf_ctl_lint.proofs.procedure_line.write_procedures.Given as goal

-- what was told, and then the lines that are left
abbrev pub invariant-loop-procedure : goal.invariant-loop-procedure
invariant-loop-procedure l = record {
  can : (goal.iterator-loop-procedure).can_next l.procedure-iterator;
  finite : (goal.iterator-loop-procedure).is_finite l.procedure-iterator;
  so_far : l.initial.into.items ++ flat_map found_procedure_line (zip l.procedures l.used)
      ≡ l.into.items ++ flat_map found_procedure_line (drop (length l.yielded) (zip l.procedures l.used));
}
