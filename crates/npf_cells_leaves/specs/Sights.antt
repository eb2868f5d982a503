-- What a pass knows of a place whose lock it has.
use Rattle.std.specs.Prelude.{◌≡◌, Some, Contains}
use Rattle.npf_paths.specs.declared.cell.Cell.{Cell}
use Rattle.npf_paths.specs.declared.place.Place.{Place}
use Rattle.npf_paths.specs.Places.{lock_of}
use Rattle.npf_cells_leaves.specs.declared.trie.SeenCell.{SeenCell}
use Rattle.npf_cells_leaves.specs.declared.trie.TrieSide.{TrieSide}

-- the place was the last that the pass loaded, under its lock, and this stood there
pub record SeesLocked (side : TrieSide) (p : Place) (cell : Cell) : Type 0 where
  pub locked : Contains side.locks (lock_of p)
  pub saw : SeenCell
  pub seen : side.seen ≡ Some saw
  pub there : saw.place ≡ p
  pub was : saw.cell ≡ cell
