-- A new object keeps the rule.
use Rattle.std.proofs.Common.{◌≡◌, ℕ, zero, suc, ◌<◌, true≢false, List, [], ◌∷◌, length, map, None, Some, sum_by, refl, sym, subst, inl, arith}
use Rattle.std.{specs.Prelude.{All, slice_index}, proofs.lemmas.List.{Elements.{All-head, All-tail}, Sums.sum_by-cons}}
use mathlib.Core.Option.{some, some-injective, some-ne-none}
use lib.ListN.{get_elem?}
use Rattle.atomic_table.specs.Table.{opening}
use Rattle.npf_seats.{specs.{declared.side.SeatSide.SeatSide, Seats.{FitsSeats, Seats}, Sums.occurs}, proofs.PrefixLemmas.{none_listed, prefix_of_none}}
use Rattle.npf_seats.proofs.SumLemmas.{length-numbers_below, occurs_below, occurs_beyond}
use Rattle.npf_reass.specs.{declared.{offer.{Gathered.Gathered, Offer.Offer, ReassSize.ReassSize}, view.ReassView.ReassView}, Class.offer_seat}
use Rattle.npf_reass.{specs.Gathering.{IsClassHome, IsGathering, first_reass_view}, proofs.TurnsLemmas.no_turn}

-- a slot without offers is at home
empty_home : (classes : ℕ) (homes : List Gathered) (class : ℕ) → class < length homes → All (λ (slot : Gathered). slot.offers.items ≡ []) homes
    → IsClassHome classes (map some homes) [] class
empty_home classes [] class h empty = absurd (omega (arith, h))
empty_home classes (slot ∷ homes) zero h empty = record { slot = slot; there = refl; has = All-head (λ (slot : Gathered). slot.offers.items ≡ []) slot homes empty }
empty_home classes (slot ∷ homes) (suc class) h empty =
    let more = empty_home classes homes class (omega (arith, h)) (All-tail (λ (slot : Gathered). slot.offers.items ≡ []) slot homes empty) in
    record { slot = more.slot; there = more.there; has = more.has }

module _ (size : ReassSize) where
  abbrev view : ReassView
  view = first_reass_view size

  first_fits : FitsSeats offer_seat size (view.seats ∷ []) [] 0 view.seats
  first_fits = record {
    sized = λ _. refl;
    others = λ n c. absurd (none_listed n c);
    seen = prefix_of_none [];
    told = prefix_of_none [];
    unborn = λ e. absurd (true≢false e);
    lives = λ _. record { number = refl; own = refl };
    joined = λ n c. absurd (none_listed n c);
    theirs = λ n c. absurd (none_listed n c);
  }

  first_seats : Seats offer_seat size size.passes [] (view.seats ∷ [])
  first_seats = record {
    each = each;
    owned = λ reader h. let a = alone (λ (u : SeatSide ReassSize Offer). occurs reader u.readers) in let b = occurs_below size.passes reader h in omega (arith, a, b);
    beyond = λ reader h. let a = alone (λ (u : SeatSide ReassSize Offer). occurs reader u.readers) in let b = occurs_beyond size.passes reader h in omega (arith, a, b);
    total = let a = alone (λ (u : SeatSide ReassSize Offer). length u.readers) in let b = length-numbers_below size.passes in omega (arith, a, b);
    known = λ n. inl refl;
  }
    where
      alone : (f : SeatSide ReassSize Offer → ℕ) → sum_by f (view.seats ∷ []) ≡ f view.seats
      alone f = let a = sum_by-cons f view.seats [] in omega (arith, a)

      each : (j : ℕ) (v : SeatSide ReassSize Offer) → get_elem? (view.seats ∷ []) j ≡ some v → FitsSeats offer_seat size (view.seats ∷ []) [] j v
      each zero v e = subst (λ (u : SeatSide ReassSize Offer). FitsSeats offer_seat size (view.seats ∷ []) [] 0 u) (some-injective _ _ e) first_fits
      each (suc j) v e = absurd (some-ne-none v (sym e))

  nobody : (j class : ℕ) (v : ReassView) → get_elem? (view ∷ []) j ≡ some v → v.turn ≡ Some class → ⊥
  nobody zero class v e t = no_turn (subst (λ (u : ReassView). u.turn ≡ None) (some-injective _ _ e) refl) t
  nobody (suc j) class v e t = some-ne-none v (sym e)

  pub opens : (words : List ℕ) (homes : List Gathered) → length words ≡ size.classes → length homes ≡ size.classes → ((class : ℕ) → class < size.classes → slice_index words class ≡ 0)
      → All (λ (slot : Gathered). slot.offers.items ≡ []) homes → IsGathering size (opening words homes (first_reass_view size))
  opens words homes wide count free empty = record {
    log = [];
    holder = λ class. 0;
    seats = first_seats;
    wide = wide;
    home = λ class h e. empty_home size.classes homes class (omega (arith, h, count)) empty;
    turns = record {
      busy = λ class h. inl (free class h);
      turns = λ j class v e t. absurd (nobody j class v e t);
    };
  }
