use Rattle.std.proofs.Common.{◌≡◌, ℕ, ◌<◌, ◌-◌, ◌*◌, ◌^◌, get_or, min}
use Rattle.npf_bits.proofs.make.fill.Given as goal

abbrev pub invariant-loop-word : goal.invariant-loop-word
invariant-loop-word l = record {
  left : l.left ≡ l.count - 64 * l.word-index;
  filled : (k : ℕ) → k < l.word-index → get_or l.words k 0 ≡ 2 ^ min (l.count - 64 * k) 64 - 1;
}
