use Rattle.std.proofs.Common.{◌≡◌, ℕ, ◌<◌, get_or, w64}
use Rattle.std.specs.{Prelude.{bit_and}, Int.{bit_not}}
use Rattle.npf_bits.proofs.compare.is_within.Given as goal

abbrev pub invariant-loop-at : goal.invariant-loop-at
invariant-loop-at l = (k : ℕ) → k < l.at → bit_and (get_or l.a k 0) (bit_not w64 (get_or l.b k 0)) ≡ 0
