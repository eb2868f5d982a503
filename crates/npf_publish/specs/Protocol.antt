-- The rule over what is shown, and over what each seat knows of it.
use Rattle.std.specs.Prelude.{◌≡◌, ℕ, ◌≤◌, ◌+◌, List}
use mathlib.Core.Option.{some}
use lib.ListN.{get_elem?}
use Rattle.npf_publish.specs.declared.protocol.Published.{Published}
use Rattle.npf_publish.specs.declared.protocol.SeatView.{SeatView}

-- what a seat knows that has never looked: the least and the greatest number of 64 bits
abbrev pub unseated : SeatView
unseated = record { seen = 0; last = 18446744073709551615; looks = 0 }

-- what is shown after a number is published
abbrev pub renumbered : Published → ℕ → Published
renumbered shown number = record shown { number = number }

-- what a seat knows is true of what is shown: no less than it saw
pub record IsKnown (shown : Published) (view : SeatView) : Type 0 where
  pub seen : view.seen ≤ shown.number
  pub last : shown.last ≤ view.last

-- the number isn't past the last one, and never below what a seat saw
pub record NeverFalls (shown : Published) (views : List SeatView) : Type 0 where
  pub within : shown.number ≤ shown.last
  pub fits : shown.last ≤ 18446744073709551615
  pub known : (seat : ℕ) (view : SeatView) → get_elem? views seat ≡ some view → IsKnown shown view

-- a look: the number isn't below what the seat saw, nor past its last one, and the seat has then seen it and looked once more
pub record SeesNumber (view : SeatView) (before shown : Published) (next : SeatView) : Type 0 where
  pub seen : view.seen ≤ before.number
  pub last : shown.number ≤ view.last
  pub now : next.seen ≡ shown.number
  pub same : next.last ≡ view.last
  pub looks : next.looks ≡ view.looks + 1

-- the first look: the seat has then seen the number and the last one
pub record SeesFirst (view : SeatView) (before shown : Published) (next : SeatView) : Type 0 where
  pub now : next.seen ≡ shown.number
  pub last : next.last ≡ shown.last
