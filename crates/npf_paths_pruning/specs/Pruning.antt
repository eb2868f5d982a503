-- An emptied node is taken off the place in which it hangs, and the mark that stands there then is
-- cleared.
use Rattle.std.specs.Prelude.{◌≡◌, ◌≢◌, ℕ, ◌<◌}
use Rattle.npf_paths.specs.declared.cell.Cell.{Cell}
use Rattle.npf_paths.specs.declared.cell.Cell.TheVariants as Cells
use Rattle.npf_paths.specs.declared.place.Place.{Place}
use Rattle.npf_paths.specs.declared.place.Place.TheVariants.{Node}
use Rattle.npf_paths.specs.Paths.{IsEnd}

-- the node hung in the place p, and nothing stood in its own places; now no path goes on from p.
-- Other places keep what stands there
pub record PrunesNode (cell cell' : Place → Cell) (p : Place) (node : ℕ) : Type 0 where
  pub hung : cell p ≡ Cells.Node node
  pub emptied : (digit : ℕ) → digit < 16 → cell (Node node digit) ≡ Cells.Empty
  pub ends_now : IsEnd (cell' p)
  pub others : (q : Place) → q ≢ p → cell' q ≡ cell q

-- a mark stood in the place p, and nothing does now. Other places keep what stands there
pub record ClearsMark (cell cell' : Place → Cell) (p : Place) : Type 0 where
  pub marked : cell p ≡ Cells.Mark
  pub cleared : cell' p ≡ Cells.Empty
  pub others : (q : Place) → q ≢ p → cell' q ≡ cell q
