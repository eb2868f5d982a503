use Rattle.std.proofs.Common.{◌≡◌, ℕ, ◌<◌, ◌≤◌, get_or}
use Rattle.std.specs.Prelude.{bit_and}
use Rattle.npf_bits.proofs.combine.intersect_with.Given as goal

abbrev pub invariant-loop-at : goal.invariant-loop-at
invariant-loop-at l = record {
  changed : (k : ℕ) → k < l.at → get_or l.a k 0 ≡ bit_and (get_or l.fn.a k 0) (get_or l.b k 0);
  kept : (k : ℕ) → l.at ≤ k → get_or l.a k 0 ≡ get_or l.fn.a k 0;
}
