-- A place whose cell is changed for another that is no node, as one that is filled, leaves each path as it was.
use Rattle.std.specs.Prelude.{◌≡◌, ◌≢◌, ◌↔◌, ℕ}
use Rattle.npf_paths.specs.declared.cell.Cell.{Cell}
use Rattle.npf_paths.specs.declared.place.Place.{Place}
use Rattle.npf_paths.specs.Paths.{IsOnPath, IsEnd, EndsAt}

-- the two differ in this place at most, and no node stands there in either
pub record FillsPlace (cell cell' : Place → Cell) (p : Place) : Type 0 where
  pub was_end : IsEnd (cell p)
  pub ends_now : IsEnd (cell' p)
  pub others : (q : Place) → q ≢ p → cell' q ≡ cell q

-- each path has the same places
abbrev pub FillsKeepPlaces : Type 0
FillsKeepPlaces =
    (digits : ℕ → ℕ) (cell cell' : Place → Cell) (level : ℕ) (p q : Place) →
    FillsPlace cell cell' p → IsOnPath digits cell' level q ↔ IsOnPath digits cell level q

-- and the same end
abbrev pub FillsKeepEnds : Type 0
FillsKeepEnds =
    (digits : ℕ → ℕ) (cell cell' : Place → Cell) (level : ℕ) (p q : Place) →
    FillsPlace cell cell' p → EndsAt digits cell' level q ↔ EndsAt digits cell level q
