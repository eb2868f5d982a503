-- A dimension in classes, and the sets by which it is cut.
use Rattle.std.specs.Prelude.{◌≡◌, ◌<◌, ◌+◌, ◌*◌, ◌/◌, ◌↔◌, ℕ, true, List, [], ◌∷◌, drop, length, slice_index, slice_index_or}
use Rattle.std.specs.List.{sum_by}
use Rattle.npf_bits.specs.Bits.{has}
use Rattle.npf_boxes.specs.declared.shape.Shape.{Shape}
use Rattle.npf_cut.specs.declared.range.Range.{Range}
use Rattle.npf_cut.specs.declared.set_bits.SetBits.{SetBits}
use Rattle.npf_cut.specs.Dimension.{HasClass, IsCutBy, class_at, class_count}
use Rattle.npf_cut.specs.SetBits.{set_words}
use Rattle.npf_products.specs.declared.axis.Axis.{Axis}
use Rattle.npf_products.specs.declared.condition.Condition.{Condition}
use Rattle.npf_products.specs.declared.kind.PacketKind.{PacketKind}
use Rattle.npf_products.specs.Condition.{Ranges}
use Rattle.npf_products.specs.Number.{tops_of}
use Rattle.npf_products.specs.Sets.{AreSets}

-- the axis is that of a dimension, cut by the sets of the tables and of the conditions
pub record IsAxis (top dimension : ℕ) (tables : List Ranges) (lists : List (List Condition)) (axis : Axis) : Type 0 where
  pub ranges : List Range
  pub cut : IsCutBy ranges top axis.dimension
  pub sets : AreSets dimension tables lists ranges axis.count axis.numbers.items

-- the rows of an axis' sets
pub record AreAxisRows (axis : Axis) (bits : SetBits) : Type 0 where
  pub sets : bits.sets ≡ axis.count
  pub words : bits.per_set ≡ (class_count axis.dimension + 63) / 64
  pub classes : (set class : ℕ) → set < axis.count → (has (set_words bits set) class ≡ true) ↔ HasClass axis.dimension set class

-- the cell of numbers: the class of each, axis by axis
unfoldable pub cell_of_numbers : List Axis → List ℕ → List ℕ
cell_of_numbers [] numbers = []
cell_of_numbers (axis ∷ axes) numbers = class_at axis.dimension (slice_index numbers 0) ∷ cell_of_numbers axes (drop 1 numbers)

-- a cell's classes are the axes'
abbrev pub IsCell : List Axis → List ℕ → Type 0
IsCell axes cell = (d : ℕ) (none : Axis) → d < 6 → slice_index cell d < class_count (slice_index_or axes d none).dimension

-- the axes of a space, in the order of the dimensions
abbrev pub AreAxes : PacketKind → List Ranges → List (List Condition) → List Axis → Type 0
AreAxes kind tables lists axes = (d : ℕ) (none : Axis) → d < 6 → IsAxis (slice_index (tops_of kind) d) d tables lists (slice_index_or axes d none)

-- boxes have a word for each 64 classes of each axis
abbrev pub IsShapeOf : Shape → List Axis → Type 0
IsShapeOf shape axes = (d : ℕ) (none : Axis) → d < 6
    → slice_index shape.starts (d + 1) ≡ slice_index shape.starts d + (class_count (slice_index_or axes d none).dimension + 63) / 64

-- the rows of all axes
abbrev pub AreAllRows : List Axis → List SetBits → Type 0
AreAllRows axes rows = (d : ℕ) (none : Axis) (no_bits : SetBits) → d < length axes → AreAxisRows (slice_index_or axes d none) (slice_index_or rows d no_bits)

-- how many words the rows of all axes have
abbrev pub row_words : List Axis → ℕ
row_words axes = sum_by (λ axis. axis.count * ((class_count axis.dimension + 63) / 64)) axes
