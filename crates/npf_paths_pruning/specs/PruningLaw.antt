-- Where an emptied node is taken off, the paths that met it end where it hung, and the others stay.
use Rattle.std.specs.Prelude.{◌≡◌, ◌≢◌, ℕ, ◌+◌}
use Rattle.npf_paths.specs.declared.cell.Cell.{Cell}
use Rattle.npf_paths.specs.declared.cell.Cell.TheVariants as Cells
use Rattle.npf_paths.specs.declared.place.Place.{Place}
use Rattle.npf_paths.specs.declared.place.Place.TheVariants.{Node}
use Rattle.npf_paths.specs.FillingLaw.{FillsPlace}
use Rattle.npf_paths.specs.LevelLaw.{MeetsAtOneLevel}
use Rattle.npf_paths.specs.Paths.{AreDigits, IsOnPath, EndsAt}
use Rattle.npf_paths_pruning.specs.Pruning.{PrunesNode, ClearsMark}

-- the place is that of the node which the path would meet behind the place p, at the level below it
pub record IsPrunedPlace (digits : ℕ → ℕ) (cell : Place → Cell) (p : Place) (node level : ℕ) (q : Place) : Type 0 where
  pub above : ℕ
  pub from : IsOnPath digits cell above p
  pub below : level ≡ above + 1
  pub is : q ≡ Node node (digits level)

-- where an old place of the path now lies: on the path still, or in the node that was taken off
pub data IsPlaceLeft (digits : ℕ → ℕ) (cell' : Place → Cell) (p : Place) (node level : ℕ) (q : Place) : Type 0 where
  place_left : IsOnPath digits cell' level q → IsPlaceLeft digits cell' p node level q
  place_pruned : IsPrunedPlace digits cell' p node level q → IsPlaceLeft digits cell' p node level q

-- where the path now ends: as it did, or where the node hung, and then it ended in the node
pub data IsEndLeft (digits : ℕ → ℕ) (cell cell' : Place → Cell) (p : Place) (node level : ℕ) (q : Place) : Type 0 where
  end_left : EndsAt digits cell level q → q ≢ p → cell' q ≡ cell q → IsEndLeft digits cell cell' p node level q
  end_pruned : q ≡ p → EndsAt digits cell (level + 1) (Node node (digits (level + 1))) → cell (Node node (digits (level + 1))) ≡ Cells.Empty → IsEndLeft digits cell cell' p node level q

-- where an old end of the path now lies: it is the end still, or was in the node, and the path ends
-- where that hung
pub data IsOldEnd (digits : ℕ → ℕ) (cell' : Place → Cell) (p : Place) (node level : ℕ) (q : Place) : Type 0 where
  old_end_left : EndsAt digits cell' level q → IsOldEnd digits cell' p node level q
  old_end_pruned : (above : ℕ) → level ≡ above + 1 → q ≡ Node node (digits level) → EndsAt digits cell' above p → IsOldEnd digits cell' p node level q

-- what becomes of each path: its places are old ones, and its end; and old places and ends are
-- left, but those in the node
pub record PathsAfterPruning (cell cell' : Place → Cell) (p : Place) (node : ℕ) : Type 0 where
  pub places : (digits : ℕ → ℕ) (level : ℕ) (q : Place) → IsOnPath digits cell' level q → IsOnPath digits cell level q
  pub old_places : (digits : ℕ → ℕ) (level : ℕ) (q : Place) → AreDigits digits → IsOnPath digits cell level q → IsPlaceLeft digits cell' p node level q
  pub ends : (digits : ℕ → ℕ) (level : ℕ) (q : Place) → AreDigits digits → EndsAt digits cell' level q → IsEndLeft digits cell cell' p node level q
  pub old_ends : (digits : ℕ → ℕ) (level : ℕ) (q : Place) → AreDigits digits → EndsAt digits cell level q → IsOldEnd digits cell' p node level q

-- that becomes of them wherever an emptied node is taken off
abbrev pub PruningIsTold : Type 0
PruningIsTold = (cell cell' : Place → Cell) (p : Place) (node : ℕ) → PrunesNode cell cell' p node → PathsAfterPruning cell cell' p node

-- each place keeps its level
abbrev pub PruningKeepsLevels : Type 0
PruningKeepsLevels = (cell cell' : Place → Cell) (p : Place) (node : ℕ) → PrunesNode cell cell' p node → MeetsAtOneLevel cell → MeetsAtOneLevel cell'

-- paths met the node in this place alone
abbrev pub HangsThereAlone : (Place → Cell) → Place → ℕ → Type 0
HangsThereAlone cell p node = (digits : ℕ → ℕ) (level : ℕ) (q : Place) → AreDigits digits → IsOnPath digits cell level q → cell q ≡ Cells.Node node → q ≡ p

-- then no path meets it any more
abbrev pub PrunedIsUnmet : Type 0
PrunedIsUnmet =
    (cell cell' : Place → Cell) (p : Place) (node : ℕ) → PrunesNode cell cell' p node → HangsThereAlone cell p node →
    (digits : ℕ → ℕ) (level digit : ℕ) → AreDigits digits → ¬ (IsOnPath digits cell' level (Node node digit))

-- a place whose mark is cleared is one that is filled, so each path stays as it was
abbrev pub ClearingFills : Type 0
ClearingFills = (cell cell' : Place → Cell) (p : Place) → ClearsMark cell cell' p → FillsPlace cell cell' p
