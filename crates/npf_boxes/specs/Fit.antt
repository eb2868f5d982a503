-- How one box lies to another.
use Rattle.std.specs.Prelude.{◌≡◌, ◌≢◌, ◌≤◌, ◌<◌, ℕ, true, List}
use Rattle.npf_bits.specs.Bits.{has}
use Rattle.npf_boxes.specs.declared.fit.Fit.{Fit}
use Rattle.npf_boxes.specs.declared.fit.Fit.TheVariants.{Apart, Open, Unit as UnitOf, Within}
use Rattle.npf_boxes.specs.declared.shape.Shape.{Shape}
use Rattle.npf_boxes.specs.Cell.{IsPart, in_box, section}

-- the set of this dimension lies within the other's
abbrev pub IsWithinAt : Shape → List ℕ → List ℕ → ℕ → Type 0
IsWithinAt shape box other dimension = (class : ℕ) → has (section shape dimension box) class ≡ true → has (section shape dimension other) class ≡ true

-- no cell is in both; the other has all of the box; it has all of it but for one dimension; more are open
abbrev pub IsFit : Shape → List ℕ → List ℕ → Fit → Type 0
IsFit shape box other Apart = (cell : List ℕ) → in_box shape box cell ≡ true → in_box shape other cell ≡ true → ⊥
IsFit shape box other Within = IsPart shape box other
IsFit shape box other (UnitOf dimension) = (dimension < 6) × ((d : ℕ) → d < 6 → d ≢ dimension → IsWithinAt shape box other d)
IsFit shape box other (Open dimensions) = 2 ≤ dimensions
