use Rattle.npf_paths.specs.Digits.{SharesDigits}
use Rattle.npf_paths.proofs.digits.parting_level.Given as goal

abbrev pub invariant-loop-level : goal.invariant-loop-level
invariant-loop-level l = SharesDigits l.hash l.key l.other_hash l.other l.level
