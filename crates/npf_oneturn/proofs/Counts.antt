-- How many passes are entered, beside the reader places that they own, and who has the turn.
use Rattle.std.proofs.Common.{◌≡◌, ◌≢◌, ℕ, zero, suc, ◌+◌, ◌≤◌, Bool, true, false, true≢false, List, [], ◌∷◌, ◌++◌, length, map, set, refl, sym, ap, ◌∙◌, arith}
use Rattle.std.proofs.lemmas.List.Sums.{sum_by-cons}
use Rattle.atomic_table.proofs.Lists.{set_else, at_longer}
use mathlib.Core.Option.{some, some-injective, some-ne-none}
use lib.ListN.{get_elem?}
use Rattle.npf_core.specs.declared.entry.Entry.{Entry}
use Rattle.npf_seats.{specs.{declared.side.SeatSide.SeatSide, Seats.places_owned}, proofs.SumLemmas.one_there}
use Rattle.npf_oneturn.specs.{declared.view.View.View, Views.{seat_of_view, one_if, crowd_of, IsTidy, HasHolder}}

module _ {S A R : Type 0} where
  pub crowd-set : (vs : List (View S A R)) (j : ℕ) (v w : View S A R) → get_elem? vs j ≡ some v → crowd_of (set vs j w) + one_if v.entered ≡ crowd_of vs + one_if w.entered
  crowd-set [] j v w e = absurd (some-ne-none v (sym e))
  crowd-set (x ∷ xs) zero v w e =
      let same : one_if x.entered ≡ one_if v.entered = ap (λ (u : View S A R). one_if u.entered) (some-injective x v e) in
      omega (arith, same)
  crowd-set (x ∷ xs) (suc j) v w e = let more = crowd-set xs j v w e in omega (arith, more)

  pub crowd-append : (vs : List (View S A R)) (w : View S A R) → crowd_of (vs ++ w ∷ []) ≡ crowd_of vs + one_if w.entered
  crowd-append [] w = omega arith
  crowd-append (x ∷ xs) w = let more = crowd-append xs w in omega (arith, more)

  abbrev AllTidy : List (View S A R) → Type 0
  AllTidy vs = (j : ℕ) (v : View S A R) → get_elem? vs j ≡ some v → IsTidy v

  -- the reader places that the passes own
  abbrev places_of : List (View S A R) → ℕ
  places_of vs = places_owned (map seat_of_view vs)

  places-cons : (x : View S A R) (xs : List (View S A R)) → places_of (x ∷ xs) ≡ length x.seats.readers + places_of xs
  places-cons x xs = sum_by-cons (λ (u : SeatSide ℕ (Entry S A R)). length u.readers) x.seats (map seat_of_view xs)

  one_place : (v : View S A R) → IsTidy v → one_if v.entered ≤ length v.seats.readers
  one_place v tidy = by_entered v.entered refl
    where
      by_entered : (b : Bool) → v.entered ≡ b → one_if b ≤ length v.seats.readers
      by_entered true e = tidy.place e
      by_entered false e = omega arith

  pub crowd-few : (vs : List (View S A R)) → AllTidy vs → crowd_of vs ≤ places_of vs
  crowd-few [] tidy = omega arith
  crowd-few (x ∷ xs) tidy =
      let here = one_place x (tidy 0 x refl) in
      let more = crowd-few xs (λ j v e. tidy (suc j) v e) in
      let all = places-cons x xs in
      omega (arith, here, more, all)

  -- who owns places leaves the fewer to others
  pub crowd-apart : (vs : List (View S A R)) → AllTidy vs → (j : ℕ) (v : View S A R) → get_elem? vs j ≡ some v → crowd_of vs + length v.seats.readers ≤ places_of vs + one_if v.entered
  crowd-apart [] tidy j v e = absurd (some-ne-none v (sym e))
  crowd-apart (x ∷ xs) tidy zero v e =
      let same : one_if x.entered ≡ one_if v.entered = ap (λ (u : View S A R). one_if u.entered) (some-injective x v e) in
      let owns : length x.seats.readers ≡ length v.seats.readers = ap (λ (u : View S A R). length u.seats.readers) (some-injective x v e) in
      let more = crowd-few xs (λ j v e. tidy (suc j) v e) in
      let all = places-cons x xs in
      omega (arith, same, owns, more, all)
  crowd-apart (x ∷ xs) tidy (suc j) v e =
      let here = one_place x (tidy 0 x refl) in
      let more = crowd-apart xs (λ j v e. tidy (suc j) v e) j v e in
      let all = places-cons x xs in
      omega (arith, here, more, all)

  pub crowd-there : (vs : List (View S A R)) (j : ℕ) (u : View S A R) → get_elem? vs j ≡ some u → one_if u.entered ≤ crowd_of vs
  crowd-there [] j u e = absurd (some-ne-none u (sym e))
  crowd-there (x ∷ xs) zero u e =
      let same : one_if x.entered ≡ one_if u.entered = ap (λ (y : View S A R). one_if y.entered) (some-injective x u e) in omega (arith, same)
  crowd-there (x ∷ xs) (suc j) u e = let more = crowd-there xs j u e in omega (arith, more)

  -- where nobody is entered, no pass is
  pub crowd-none : (vs : List (View S A R)) → crowd_of vs ≡ 0 → (j : ℕ) (v : View S A R) → get_elem? vs j ≡ some v → v.entered ≡ false
  crowd-none vs none j v e = by_entered v.entered refl
    where
      by_entered : (b : Bool) → v.entered ≡ b → b ≡ false
      by_entered false f = refl
      by_entered true f =
          let one : one_if v.entered ≡ 1 = ap one_if f in
          let there = crowd-there vs j v e in
          absurd (omega (arith, one, there, none))

  -- the holder of the turn keeps it, whatever becomes of a pass without it
  pub holder-set : (vs : List (View S A R)) (j : ℕ) (v w : View S A R) → get_elem? vs j ≡ some v → v.turn ≡ false →
      HasHolder vs → HasHolder (set vs j w)
  holder-set vs j v w e turn h = record {
    seat = h.seat;
    view = h.view;
    there = set_else vs j h.seat w apart ∙ h.there;
    turn = h.turn;
  }
    where
      apart : h.seat ≢ j
      apart same =
          let is : h.view ≡ v = one_there vs j h.seat v h.view e h.there same in
          true≢false (sym h.turn ∙ (ap (λ (u : View S A R). u.turn) is ∙ turn))

  pub holder-append : (vs : List (View S A R)) (w : View S A R) → HasHolder vs → HasHolder (vs ++ w ∷ [])
  holder-append vs w h = record { seat = h.seat; view = h.view; there = at_longer vs (w ∷ []) h.seat h.view h.there; turn = h.turn }
