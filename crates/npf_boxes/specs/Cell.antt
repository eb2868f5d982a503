-- Boxes and the cells that they have. A cell is the list of its six class numbers, in the order of the dimensions.
use Rattle.std.specs.Prelude.{◌≡◌, ◌+◌, ◌*◌, ℕ, Bool, true, List, slice_index}
use Rattle.std.specs.List.{list_all, list_any, range_with_len, slice_range}
use Rattle.npf_bits.specs.Bits.{has}
use Rattle.npf_boxes.specs.declared.box_list.Boxes.{Boxes}
use Rattle.npf_boxes.specs.declared.shape.Shape.{Shape}

-- how many words a box has
abbrev pub words_of : Shape → ℕ
words_of shape = slice_index shape.starts 6

-- the set of a dimension
unfoldable pub section : Shape → ℕ → List ℕ → List ℕ
section shape dimension box = slice_range box (slice_index shape.starts dimension) (slice_index shape.starts (dimension + 1))

-- a box has a cell where the set of each dimension has the cell's class
unfoldable pub in_box : Shape → List ℕ → List ℕ → Bool
in_box shape box cell = list_all (λ d. has (section shape d box) (slice_index cell d)) (range_with_len 0 6)

-- the box of a number
unfoldable pub box_at : Boxes → ℕ → List ℕ
box_at boxes number = slice_range boxes.words.items (number * words_of boxes.shape) (number * words_of boxes.shape + words_of boxes.shape)

-- one of these boxes has the cell
abbrev pub any_has : Boxes → List ℕ → List ℕ → Bool
any_has boxes numbers cell = list_any (λ number. in_box boxes.shape (box_at boxes number) cell) numbers

-- each cell of the part is one of the box
abbrev pub IsPart : Shape → List ℕ → List ℕ → Type 0
IsPart shape part box = (cell : List ℕ) → in_box shape part cell ≡ true → in_box shape box cell ≡ true

abbrev pub HasCell : Shape → List ℕ → Type 0
HasCell shape box = (cell : List ℕ) × (in_box shape box cell ≡ true)
