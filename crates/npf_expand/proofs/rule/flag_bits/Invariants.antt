use Rattle.std.proofs.Common.{◌≡◌, ◌≤◌, length, drop}
use Rattle.npf_expand.specs.Rule.{flag_bits}
use Rattle.npf_expand.proofs.rule.flag_bits.Given as goal

abbrev pub invariant-loop-at : goal.invariant-loop-at
invariant-loop-at l = record { within : l.at ≤ length l.letters; so_far : l.bits ≡ flag_bits (drop l.at l.letters) }

abbrev pub decreases-loop-at : goal.decreases-loop-at
decreases-loop-at l = l.at
