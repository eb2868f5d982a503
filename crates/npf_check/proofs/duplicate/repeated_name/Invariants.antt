use Rattle.std.proofs.Common.{◌≡◌, drop}
use Rattle.npf_faults.specs.First.{first_fault}
use Rattle.npf_check.specs.{Duplicate.{first_again, repeated}, Name.{names_given, no_text}}
use Rattle.npf_check.proofs.duplicate.repeated_name.Given as goal

abbrev pub invariant-loop-stmt : goal.invariant-loop-stmt
invariant-loop-stmt l = first_fault (repeated no_text (names_given l.kind l.stmts)) ≡ first_again l.so_far (names_given l.kind (drop l.stmt-index l.stmts))
