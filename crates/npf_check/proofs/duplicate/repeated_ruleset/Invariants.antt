use Rattle.std.{proofs.Common.{◌≡◌, drop}, specs.List.flat_map}
use Rattle.npf_faults.specs.First.{first_fault}
use Rattle.npf_check.specs.{Duplicate.{first_again, repeated, rulesets_of_stmt}, Name.no_text}
use Rattle.npf_check.proofs.duplicate.repeated_ruleset.Given as goal

abbrev pub invariant-loop-stmt : goal.invariant-loop-stmt
invariant-loop-stmt l = first_fault (repeated no_text (flat_map rulesets_of_stmt l.stmts)) ≡ first_again l.so_far (flat_map rulesets_of_stmt (drop l.stmt-index l.stmts))
