use Rattle.std.proofs.Common.{◌≡◌, ℕ, ◌+◌, ◌*◌, ◌/◌, ◌<◌, ◌≤◌, length, get_or}
use Rattle.npf_boxes.proofs.shape.Shape.new.Given as goal

abbrev pub invariant-loop-dimension : goal.invariant-loop-dimension
invariant-loop-dimension l = record {
  len : length l.starts ≡ 7;
  begins : get_or l.starts 0 0 ≡ 0;
  goes_on : (d : ℕ) → d < l.dimension → get_or l.starts (d + 1) 0 ≡ get_or l.starts d 0 + (get_or l.counts d 0 + 63) / 64;
  bounded : get_or l.starts l.dimension 0 ≤ 67108864 * l.dimension;
}
