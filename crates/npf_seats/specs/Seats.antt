-- The part of the rule on seats: which numbers exist, whose the entries of each are, and which reader places each seat owns.
use Rattle.std.specs.Prelude.{◌≡◌, ◌≢◌, ◌⊎◌, ℕ, ◌≤◌, ◌<◌, true, false, List, ◌++◌, [], length, Contains, sum_by, filter, ◌==◌}
use mathlib.Core.Option.{some}
use lib.ListN.{get_elem?}
use Rattle.npf_core.specs.History.{IsPrefix}
use Rattle.npf_seats.specs.declared.side.SeatSide.{SeatSide}
use Rattle.npf_seats.specs.Sums.{occurs}

-- the entries of a number, where each says whose it is
abbrev pub by_seat : {E : Type 0} → (E → ℕ) → ℕ → List E → List E
by_seat seat_of number = filter (λ entry. seat_of entry == number)

-- the seat of this number owns no reader place: it was joined into another
pub record IsSpentSeat {K E : Type 0} (sides : List (SeatSide K E)) (n : ℕ) : Type 0 where
  pub side : SeatSide K E
  pub there : get_elem? sides n ≡ some side
  pub none : length side.readers ≡ 0

-- the entries of a number are all seen, and its seat is spent
pub record IsWhollySeen {K E : Type 0} (seat_of : E → ℕ) (sides : List (SeatSide K E)) (log seen : List E) (n : ℕ) : Type 0 where
  pub same : by_seat seat_of n log ≡ by_seat seat_of n seen
  pub spent : IsSpentSeat sides n

-- a seat with its number has seen all its own entries
pub record IsNumbered {K E : Type 0} (seat_of : E → ℕ) (log : List E) (j : ℕ) (v : SeatSide K E) : Type 0 where
  pub number : v.number ≡ j
  pub own : by_seat seat_of j log ≡ by_seat seat_of j v.history

-- what the part says of one seat
pub record FitsSeats {K E : Type 0} (seat_of : E → ℕ) (about : K) (sides : List (SeatSide K E)) (log : List E) (j : ℕ) (v : SeatSide K E) : Type 0 where
  pub sized : 1 ≤ length v.readers → v.about ≡ about
  pub others : (n : ℕ) → Contains v.others n → n ≢ j
  pub seen : IsPrefix v.history log
  pub told : IsPrefix v.told log
  pub unborn : v.lives ≡ false → 1 ≤ length v.readers → by_seat seat_of j log ≡ []
  pub lives : v.lives ≡ true → IsNumbered seat_of log j v
  pub joined : (n : ℕ) → Contains v.joined n → IsWhollySeen seat_of sides log v.history n
  pub theirs : (n : ℕ) → Contains v.theirs n → IsWhollySeen seat_of sides log v.told n

-- the number is that of the seat j, or of one that was joined into it
abbrev pub AnswersFor : {K E : Type 0} → ℕ → SeatSide K E → ℕ → Type 0
AnswersFor j v n = (n ≡ j) ⊎ Contains (v.theirs ++ v.joined) n

-- a seat that owns a reader place answers for the number
pub record HasSeat {K E : Type 0} (sides : List (SeatSide K E)) (n : ℕ) : Type 0 where
  pub seat : ℕ
  pub side : SeatSide K E
  pub there : get_elem? sides seat ≡ some side
  pub place : 1 ≤ length side.readers
  pub answers : AnswersFor seat side n

-- how many seats own a reader place, and how many places they own in all
abbrev pub owners : {K E : Type 0} → ℕ → List (SeatSide K E) → ℕ
owners reader sides = sum_by (λ v. occurs reader v.readers) sides

abbrev pub places_owned : {K E : Type 0} → List (SeatSide K E) → ℕ
places_owned sides = sum_by (λ v. length v.readers) sides

-- each seat fits, each reader place has one owner, and each number with entries has a seat that answers for it
pub record Seats {K E : Type 0} (seat_of : E → ℕ) (about : K) (all : ℕ) (log : List E) (sides : List (SeatSide K E)) : Type 0 where
  pub each : (j : ℕ) (v : SeatSide K E) → get_elem? sides j ≡ some v → FitsSeats seat_of about sides log j v
  pub owned : (reader : ℕ) → reader < all → owners reader sides ≡ 1
  pub beyond : (reader : ℕ) → all ≤ reader → owners reader sides ≡ 0
  pub total : places_owned sides ≡ all
  pub known : (n : ℕ) → (by_seat seat_of n log ≡ []) ⊎ HasSeat sides n
