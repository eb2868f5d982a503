-- The words of cells: the last two bits say what stands there, and the others which.
use Rattle.std.specs.Prelude.{◌≡◌, ℕ, ◌+◌, ◌*◌, ◌/◌, ◌%◌, ◌^◌, ◌<◌, ◌==◌, if◌then◌else◌}
use Rattle.npf_types.specs.declared.key.Way.{Way}
use Rattle.npf_types.specs.declared.key.Way.TheVariants.{Forward, Backward, Port}
use Rattle.npf_paths.specs.declared.cell.Cell.{Cell}
use Rattle.npf_paths.specs.declared.cell.Cell.TheVariants.{Empty, Leaf, Node, Mark}

-- the ways in order
abbrev pub way_number : Way → ℕ
way_number Forward = 0
way_number Backward = 1
way_number Port = 2

-- the way with this number; every number but 0 and 1 counts as the last way's
abbrev pub way_numbered : ℕ → Way
way_numbered number = if number == 0 then Forward else if number == 1 then Backward else Port

-- the word of a cell
abbrev pub cell_word : Cell → ℕ
cell_word Empty = 0
cell_word (Leaf slot way) = (slot * 3 + way_number way) * 4 + 1
cell_word (Node node) = node * 4 + 2
cell_word Mark = 3

-- the cell that a word says: a multiple of 4 says that nothing stands there, and each word with remainder 3 is a mark
abbrev pub cell_of : ℕ → Cell
cell_of word =
    if word % 4 == 1 then Leaf (word / 4 / 3) (way_numbered (word / 4 % 3))
    else if word % 4 == 2 then Node (word / 4)
    else if word % 4 == 3 then Mark
    else Empty

-- the slot or the node that the word names is a number of 32 bits
pub record IsCellWord (word : ℕ) : Type 0 where
  pub slot_fits : word % 4 ≡ 1 → word / 4 / 3 < 2 ^ 32
  pub node_fits : word % 4 ≡ 2 → word / 4 < 2 ^ 32

-- the slot or the node of the cell is a number of 32 bits
abbrev pub FitsCell : Cell → Type 0
FitsCell Empty = Unit {0}
FitsCell (Leaf slot _) = slot < 2 ^ 32
FitsCell (Node node) = node < 2 ^ 32
FitsCell Mark = Unit {0}
