-- A path has one place a level and one end, and depends on what stands in its own places alone.
use Rattle.std.specs.Prelude.{◌≡◌, ◌↔◌, ℕ, ◌≤◌}
use Rattle.npf_paths.specs.declared.cell.Cell.{Cell}
use Rattle.npf_paths.specs.declared.place.Place.{Place}
use Rattle.npf_paths.specs.Paths.{IsOnPath, EndsAt}

-- two places of one level are one
abbrev pub HasOnePlaceALevel : Type 0
HasOnePlaceALevel =
    (digits : ℕ → ℕ) (cell : Place → Cell) (level : ℕ) (p q : Place) → IsOnPath digits cell level p → IsOnPath digits cell level q → p ≡ q

-- two ends are one
abbrev pub HasOneEnd : Type 0
HasOneEnd =
    (digits : ℕ → ℕ) (cell : Place → Cell) (level level' : ℕ) (p q : Place) →
    EndsAt digits cell level p → EndsAt digits cell level' q → (level ≡ level') × (p ≡ q)

-- no place of the path is met past its end
abbrev pub HasNoneBehindEnd : Type 0
HasNoneBehindEnd =
    (digits : ℕ → ℕ) (cell : Place → Cell) (level level' : ℕ) (p q : Place) →
    EndsAt digits cell level p → IsOnPath digits cell level' q → level' ≤ level

-- in each place of the path the same stands in both
abbrev pub AgreesOnPath : (ℕ → ℕ) → (Place → Cell) → (Place → Cell) → Type 0
AgreesOnPath digits cell cell' = (level : ℕ) (p : Place) → IsOnPath digits cell level p → cell' p ≡ cell p

-- then the path has the same places
abbrev pub HasSamePlaces : Type 0
HasSamePlaces =
    (digits : ℕ → ℕ) (cell cell' : Place → Cell) (level : ℕ) (p : Place) →
    AgreesOnPath digits cell cell' → IsOnPath digits cell' level p ↔ IsOnPath digits cell level p

-- and the same end
abbrev pub HasSameEnd : Type 0
HasSameEnd =
    (digits : ℕ → ℕ) (cell cell' : Place → Cell) (level : ℕ) (p : Place) →
    AgreesOnPath digits cell cell' → EndsAt digits cell' level p ↔ EndsAt digits cell level p
