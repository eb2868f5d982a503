-- What the part on seats says of any two of them.
use Rattle.std.specs.Prelude.{◌≡◌, ◌⊎◌, ℕ, ◌≤◌, true, List, [], length}
use mathlib.Core.Option.{some}
use lib.ListN.{get_elem?}
use Rattle.npf_seats.specs.declared.side.SeatSide.{SeatSide}
use Rattle.npf_seats.specs.Seats.{by_seat, AnswersFor, Seats}
use Rattle.npf_seats.specs.Sums.{occurs}

-- two seats that own one place are one seat
abbrev pub OwnsPlaceAlone : {K E : Type 0} → (E → ℕ) → K → ℕ → List E → List (SeatSide K E) → Type 0
OwnsPlaceAlone {K} {E} seat_of about all log sides = (i j place : ℕ) (v w : SeatSide K E) → Seats seat_of about all log sides → get_elem? sides i ≡ some v → get_elem? sides j ≡ some w →
    1 ≤ occurs place v.readers → 1 ≤ occurs place w.readers → i ≡ j

-- who owns all places answers for each number that has an entry
abbrev pub AnswersForAll : {K E : Type 0} → (E → ℕ) → K → ℕ → List E → List (SeatSide K E) → Type 0
AnswersForAll {K} {E} seat_of about all log sides = (j n : ℕ) (v : SeatSide K E) → Seats seat_of about all log sides → get_elem? sides j ≡ some v → v.lives ≡ true →
    length v.readers ≡ all → (by_seat seat_of n log ≡ []) ⊎ AnswersFor j v n
