-- Who owns all places has seen every offer, and finds each class's offers in its slot.
use Rattle.std.proofs.Common.{◌≡◌, ◌≢◌, ℕ, zero, suc, ◌+◌, ◌<◌, Bool, true, false, get_or, set, take, List, [], ◌∷◌, ◌++◌, map, length}
use Rattle.std.{proofs.Common.{None, refl, sym, ap, ◌∙◌, subst, ⊎_elim, inl, inr, arith, append-nil}, specs.{Prelude.slice_index, List.Contains}}
use Rattle.std.proofs.lemmas.{Bool.cases_eq, List.{Elements.{Contains-append_left, Contains-push}, map-append}}
use mathlib.Core.Option.{some, some-injective, some-ne-none}
use lib.ListN.{get_elem?}
use Rattle.atomic_table.{specs.Table.{Final, Seen, State}, proofs.Lists.at_map}
use Rattle.npf_seats.specs.{declared.side.SeatSide.SeatSide, Seats.{AnswersFor, FitsSeats, HasSeat, by_seat}}
use Rattle.npf_seats.proofs.{PrefixLemmas.{none_in_prefix, rest_none, seen_entry}, SeatLemmas.only_seat, SumLemmas.two_of_sum}
use Rattle.npf_reass.specs.{declared.{offer.{Gathered.Gathered, Offer.Offer, ReassSize.ReassSize}, view.ReassView.ReassView}, Class.{of_class, offer_seat}}
use Rattle.npf_reass.specs.{Gathering.{HasClassHolder, IsClassHome, IsGathering, reass_seat}, Passes.view_sight, Sight.IsOwnNumber}
use Rattle.npf_reass.proofs.TurnsLemmas.{no_turn, turn_there}

pub set_false : (xs : List Bool) (i : ℕ) → get_or (set xs i false) i false ≡ false
set_false [] i = refl
set_false (x ∷ xs) zero = refl
set_false (x ∷ xs) (suc i) = set_false xs i

take_suc : (slots : List Gathered) (i : ℕ) (g : Gathered) → get_elem? slots i ≡ some g → take (suc i) slots ≡ take i slots ++ g ∷ []
take_suc [] i g e = absurd (some-ne-none g (sym e))
take_suc (x ∷ slots) zero g e = ap (λ (y : Gathered). y ∷ []) (some-injective x g e)
take_suc (x ∷ slots) (suc i) g e = ap (λ (ys : List Gathered). x ∷ ys) (take_suc slots i g e)

-- the offers of one more slot
pub offers_more : (slots : List Gathered) (i : ℕ) (g : Gathered) → get_elem? slots i ≡ some g
    → map (λ slot. slot.offers) (take (i + 1) slots) ≡ map (λ slot. slot.offers) (take i slots) ++ g.offers ∷ []
offers_more slots i g e =
    let next : i + 1 ≡ suc i = omega arith in
    ap (λ (n : ℕ). map (λ slot. slot.offers) (take n slots)) next
    ∙ ap (map (λ (slot : Gathered). slot.offers)) (take_suc slots i g e)
    ∙ map-append (λ (slot : Gathered). slot.offers) (take i slots) (g ∷ [])

-- a list in which no number has an entry is empty
none_left : (rest : List Offer) → ((n : ℕ) → by_seat offer_seat n rest ≡ []) → rest ≡ []
none_left [] none = refl
none_left (offer ∷ rest) none =
    absurd (seen_entry offer_seat (offer ∷ rest) offer (none offer.seat) (Contains-append_left (offer ∷ []) rest offer (Contains-push [] offer)))

module _ (size : ReassSize) (s : State Gathered ReassView) (id : ℕ) (v : ReassView) (kept : IsGathering size s) (at : get_elem? s.views id ≡ some v)
    (lives : v.seats.lives ≡ true) (rests : v.turn ≡ None) (settled : v.seats.theirs ≡ []) (all : length v.seats.readers ≡ size.passes) where
  abbrev sides : List (SeatSide ReassSize Offer)
  sides = map reass_seat s.views

  there : get_elem? sides id ≡ some v.seats
  there = at_map reass_seat s.views id v at

  fits : FitsSeats offer_seat size sides kept.log id v.seats
  fits = kept.seats.each id v.seats there

  nobody : (class : ℕ) → HasClassHolder s.views (kept.holder class) class → ⊥
  nobody class has = ⊎_elim
      (λ (e : kept.holder class ≡ id). no_turn rests (turn_there s.views id (kept.holder class) v has.view at has.there e ∙ has.turn))
      (λ (ne : kept.holder class ≢ id).
      let had = kept.turns.turns (kept.holder class) class has.view has.there has.turn in
      let two = two_of_sum (λ (u : SeatSide ReassSize Offer). length u.readers) sides id (kept.holder class) v.seats has.view.seats there
      (at_map reass_seat s.views (kept.holder class) has.view has.there) (λ h. ne (sym h)) in
      omega (arith, two, had.place, all, kept.seats.total))
      (cases_eq (kept.holder class) id)

  free : (class : ℕ) → class < size.classes → slice_index s.words class ≡ 0
  free class h = ⊎_elim (λ (e : slice_index s.words class ≡ 0). e) (λ has. absurd (nobody class has)) (kept.turns.busy class h)

  -- a number that has an entry is the pass's own
  answers : (n : ℕ) → HasSeat sides n → AnswersFor id v.seats n
  answers n has = only_seat offer_seat size size.passes kept.log sides id v.seats kept.seats there lives all n has

  seen_of : (n : ℕ) → AnswersFor id v.seats n → by_seat offer_seat n kept.log ≡ by_seat offer_seat n v.seats.history
  seen_of n own = ⊎_elim
      (λ (e : n ≡ id). subst (λ (k : ℕ). by_seat offer_seat k kept.log ≡ by_seat offer_seat k v.seats.history) (sym e) (fits.lives lives).own)
      (λ (c : Contains (v.seats.theirs ++ v.seats.joined) n). (fits.joined n (subst (λ (xs : List ℕ). Contains (xs ++ v.seats.joined) n) settled c)).same)
      own

  rest_of : (n : ℕ) → by_seat offer_seat n fits.seen.rest ≡ []
  rest_of n = ⊎_elim
      (λ (none : by_seat offer_seat n kept.log ≡ []).
      rest_none offer_seat n v.seats.history kept.log fits.seen (none ∙ sym (none_in_prefix offer_seat n v.seats.history kept.log fits.seen none)))
      (λ has. rest_none offer_seat n v.seats.history kept.log fits.seen (seen_of n (answers n has)))
      (kept.seats.known n)

  whole : kept.log ≡ v.seats.history
  whole = fits.seen.goes_on ∙ ap (λ (xs : List Offer). v.seats.history ++ xs) (none_left fits.seen.rest rest_of) ∙ append-nil v.seats.history

  pub all_home : (class : ℕ) → class < size.classes → IsClassHome size.classes s.homes v.seats.history class
  all_home class h = subst (λ (log : List Offer). IsClassHome size.classes s.homes log class) whole (kept.home class h (free class h))

  pub alone : (offer : Offer) → Contains v.seats.history offer → IsOwnNumber (view_sight v) offer.seat
  alone offer c = ⊎_elim
      (λ (none : by_seat offer_seat offer.seat kept.log ≡ []). absurd (seen_entry offer_seat kept.log offer none (subst (λ (xs : List Offer). Contains xs offer) (sym whole) c)))
      (λ has. ⊎_elim
      (λ (e : offer.seat ≡ id). inl (e ∙ sym (fits.lives lives).number))
      (λ (d : Contains (v.seats.theirs ++ v.seats.joined) offer.seat). inr (subst (λ (xs : List ℕ). Contains (xs ++ v.seats.joined) offer.seat) settled d))
      (answers offer.seat has))
      (kept.seats.known offer.seat)

-- what a closed table has of a class
pub record HasOffers (classes : ℕ) (slots : List Gathered) (history : List Offer) (class : ℕ) : Type 0 where
  pub slot : Gathered
  pub there : get_elem? slots class ≡ some slot
  pub has : slot.offers.items ≡ of_class classes class history

module _ (size : ReassSize) (id : ℕ) (v : ReassView) (words : List ℕ) (slots : List Gathered) (final : Final (Seen (IsGathering size) id v) words slots)
    (lives : v.seats.lives ≡ true) (rests : v.turn ≡ None) (settled : v.seats.theirs ≡ []) (all : length v.seats.readers ≡ size.passes) where
  pub closed_has : (class : ℕ) → class < size.classes → HasOffers size.classes slots v.seats.history class
  closed_has class h =
      let home = all_home size final.0 id v final.1.0 final.1.1 lives rests settled all class h in
      record { slot = home.slot; there = final.4 class home.slot home.there; has = home.has }

  pub closed_alone : (offer : Offer) → Contains v.seats.history offer → IsOwnNumber (view_sight v) offer.seat
  closed_alone = alone size final.0 id v final.1.0 final.1.1 lives rests settled all
