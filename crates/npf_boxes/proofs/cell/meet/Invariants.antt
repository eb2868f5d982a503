use Rattle.std.proofs.Common.{◌≡◌, ℕ, ◌<◌, true}
use Rattle.npf_bits.specs.Bits.{has}
use Rattle.npf_boxes.specs.Cell.{section}
use Rattle.npf_boxes.proofs.cell.meet.Given as goal

abbrev pub invariant-loop-dimension : goal.invariant-loop-dimension
invariant-loop-dimension l =
    (d : ℕ) → d < l.dimension → (n : ℕ) × (has (section l.shape d l.a) n ≡ true) × (has (section l.shape d l.b) n ≡ true)
