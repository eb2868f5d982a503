-- A cell and its word are one another's code.
use Rattle.std.specs.Prelude.{◌≡◌, ◌^◌, ◌<◌}
use Rattle.npf_paths.specs.declared.cell.Cell.{Cell}
use Rattle.npf_paths.specs.CellWords.{cell_word, cell_of, FitsCell, IsCellWord}

-- the word of a cell says that cell
abbrev pub WordsSayCells : Type 0
WordsSayCells = (c : Cell) → cell_of (cell_word c) ≡ c

-- the word of a cell with a number of 32 bits is one of 64 bits, from which the cell can be made
abbrev pub WordsFit : Type 0
WordsFit = (c : Cell) → FitsCell c → IsCellWord (cell_word c) × (cell_word c < 2 ^ 64)
