use Rattle.std.proofs.Common.{◌≡◌, drop}
use Rattle.npf_faults.specs.First.{earlier, first_fault}
use Rattle.npf_model.specs.Settings.{default_settings}
use Rattle.npf_check.specs.Parameter.{range_faults}
use Rattle.npf_check.proofs.parameter.range_fault.Given as goal

abbrev pub invariant-loop-stmt : goal.invariant-loop-stmt
invariant-loop-stmt l =
    first_fault (range_faults default_settings l.stmts) ≡ earlier l.first (first_fault (range_faults l.settings (drop l.stmt-index l.stmts)))
