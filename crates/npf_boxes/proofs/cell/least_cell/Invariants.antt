use Rattle.std.proofs.Common.{◌≡◌, ℕ, ◌<◌, true, false, length, get_or}
use Rattle.npf_bits.specs.Bits.{has}
use Rattle.npf_boxes.specs.Cell.{section}
use Rattle.npf_boxes.proofs.cell.least_cell.Given as goal

abbrev pub invariant-loop-dimension : goal.invariant-loop-dimension
invariant-loop-dimension l = record {
  len : length l.cell ≡ 6;
  there : (d : ℕ) → d < l.dimension → has (section l.shape d l.words) (get_or l.cell d 0) ≡ true;
  least : (d n : ℕ) → d < l.dimension → n < get_or l.cell d 0 → has (section l.shape d l.words) n ≡ false;
}
