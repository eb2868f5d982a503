-- The end of a turn keeps the rule.
use Rattle.std.proofs.Common.{◌≡◌, ◌≢◌, ℕ, Bool, true, false, ◌==◌, cond, List, [], ◌∷◌, ◌++◌, map, set, length, Option, Some, None, refl, sym, ap}
use Rattle.std.{proofs.Common.{◌∙◌, subst, ⊎_elim, inl, inr, arith, append-nil, append_assoc, length-set}, specs.Prelude.{filter, slice_index}}
use Rattle.std.proofs.lemmas.{Bool.{cases_eq, false_from_ne_true, Decides.Decides-eqb}, List.{get_or-set_same, get_or-set_other, map-append, map-set}}
use Rattle.std.proofs.lemmas.List.Elements.{filter-append}
use mathlib.Core.Option.{some}
use lib.ListN.{get_elem?}
use Rattle.atomic_table.{specs.Table.{State, Me, Step, stepped, Allows, gives, rest}, proofs.Lists.{at_map, at_set, set_else, set_here}}
use Rattle.npf_pieces.specs.declared.piece.Piece.{Piece}
use Rattle.npf_seats.{specs.Seats.Seats, proofs.{PrefixLemmas.rest_none, SeatLemmas.seats-adds, SumLemmas.side_same}}
use Rattle.npf_reass.specs.declared.{offer.{Gathered.Gathered, Offer.Offer, ReassSize.ReassSize}, view.ReassView.ReassView}
use Rattle.npf_reass.specs.{Class.{class_of, of_class, offer_seat, offered}, Gathering.{HasClassHolder, HasClassTurn, IsGathering, reass_seat}}
use Rattle.npf_reass.specs.{Passes.view_sight, Sight.AddsOffer, Turn.{EndsClassTurn, HasTakenClass, IsOfClass, MayEndClass, added}}
use Rattle.npf_reass.proofs.TurnsLemmas.{no_turn, one_turn, turn_there}

-- what is offered of a class, with one more offer
of_class-append : (classes class : ℕ) (xs ys : List Offer) → of_class classes class (xs ++ ys) ≡ of_class classes class xs ++ of_class classes class ys
of_class-append classes class xs ys =
    ap (map offered) (filter-append (λ (offer : Offer). class_of classes offer.piece.key == class) xs ys)
    ∙ map-append offered (filter (λ (offer : Offer). class_of classes offer.piece.key == class) xs) (filter (λ (offer : Offer). class_of classes offer.piece.key == class) ys)

class_more : (classes class : ℕ) (log : List Offer) (offer : Offer) → class_of classes offer.piece.key ≡ class
    → of_class classes class (log ++ offer ∷ []) ≡ of_class classes class log ++ offered offer ∷ []
class_more classes class log offer e =
    let here : (class_of classes offer.piece.key == class) ≡ true = (Decides-eqb (class_of classes offer.piece.key) class).1 e in
    of_class-append classes class log (offer ∷ [])
    ∙ ap (λ (b : Bool). of_class classes class log ++ map offered (cond b (offer ∷ []) [])) here

class_other : (classes class : ℕ) (log : List Offer) (offer : Offer) → class_of classes offer.piece.key ≢ class
    → of_class classes class (log ++ offer ∷ []) ≡ of_class classes class log
class_other classes class log offer ne =
    let apart : (class_of classes offer.piece.key == class) ≡ false =
    false_from_ne_true (class_of classes offer.piece.key == class) (λ e. ne ((Decides-eqb (class_of classes offer.piece.key) class).0 e)) in
    of_class-append classes class log (offer ∷ [])
    ∙ ap (λ (b : Bool). of_class classes class log ++ map offered (cond b (offer ∷ []) [])) apart
    ∙ append-nil (of_class classes class log)

module _ (size : ReassSize) (s : State Gathered ReassView) (id : ℕ) (v : ReassView) (slot : Gathered) (class : ℕ) (kept : IsGathering size s)
    (homed : length s.homes ≡ size.classes) (at : get_elem? s.views id ≡ some v) (turn : v.turn ≡ Some class) where
  had : HasClassTurn size.classes s.words kept.log kept.holder class id v
  had = kept.turns.turns id class v at turn

  -- the turn ends with this history, of which the slot has what is of the class
  module _ (log : List Offer) (w : ReassView) (rests : w.turn ≡ None) (sides : Seats offer_seat size size.passes log (map reass_seat (set s.views id w)))
      (here : slot.offers.items ≡ of_class size.classes class log) (kept_else : (k : ℕ) → k ≢ class → of_class size.classes k log ≡ of_class size.classes k kept.log) where
    abbrev words : List ℕ
    words = set s.words class 0

    abbrev views : List ReassView
    views = set s.views id w

    word_here : slice_index words class ≡ 0
    word_here = get_or-set_same s.words class 0 0 (omega (arith, kept.wide, had.inside))

    word_other : (k : ℕ) → k ≢ class → slice_index words k ≡ slice_index s.words k
    word_other k ne = get_or-set_other s.words class k 0 0 ne

    held_other : (k : ℕ) → k ≢ class → HasClassHolder s.views (kept.holder k) k → HasClassHolder views (kept.holder k) k
    held_other k ne has = record {
      view = has.view;
      there = set_else s.views id (kept.holder k) w (λ e. ne (one_turn has.turn (sym (turn_there s.views id (kept.holder k) v has.view at has.there e) ∙ turn))) ∙ has.there;
      turn = has.turn;
    }

    others : (j k : ℕ) (u : ReassView) → j ≢ id → HasClassTurn size.classes s.words kept.log kept.holder k j u → HasClassTurn size.classes words log kept.holder k j u
    others j k u apart old =
        let ne : k ≢ class = λ e. apart (old.alone ∙ ap kept.holder e ∙ sym had.alone) in
        record {
          inside = old.inside;
          taken = word_other k ne ∙ old.taken;
          alone = old.alone;
          lives = old.lives;
          place = old.place;
          held = old.held ∙ sym (kept_else k ne);
        }

    ends_turn : IsGathering size (stepped s class 0 id ((class, slot) ∷ []) w gives)
    ends_turn = record {
      log = log;
      holder = kept.holder;
      seats = sides;
      wide = length-set s.words class 0 ∙ kept.wide;
      home = λ k h e. ⊎_elim
          (λ (same : k ≡ class). record {
            slot = slot;
            there = ap (λ (n : ℕ). get_elem? (set s.homes class (some slot)) n) same ∙ set_here s.homes class (some slot) (omega (arith, homed, had.inside));
            has = here ∙ ap (λ (n : ℕ). of_class size.classes n log) (sym same);
          })
          (λ (ne : k ≢ class).
          let old = kept.home k h (sym (word_other k ne) ∙ e) in
          record { slot = old.slot; there = set_else s.homes class k (some slot) ne ∙ old.there; has = old.has ∙ sym (kept_else k ne) })
          (cases_eq k class);
      turns = record {
        busy = λ k h. ⊎_elim
            (λ (same : k ≡ class). inl (ap (slice_index words) same ∙ word_here))
            (λ (ne : k ≢ class). ⊎_elim
            (λ (free : slice_index s.words k ≡ 0). inl (word_other k ne ∙ free))
            (λ (has : HasClassHolder s.views (kept.holder k) k). inr (held_other k ne has))
            (kept.turns.busy k h))
            (cases_eq k class);
        turns = λ j k u e t. ⊎_elim
            (λ (x : (j ≡ id) × (w ≡ u)). absurd (no_turn (ap (λ (y : ReassView). y.turn) (sym x.1) ∙ rests) t))
            (λ (x : (j ≢ id) × (get_elem? s.views j ≡ some u)). others j k u x.0 (kept.turns.turns j k u x.1 t))
            (at_set s.views id j w u e);
      };
    }

  sides_there : get_elem? (map reass_seat s.views) id ≡ some v.seats
  sides_there = at_map reass_seat s.views id v at

  -- without an offer
  abbrev rested : ReassView
  rested = record v { turn = None; held = [] }

  ends_so : slot.offers.items ≡ v.held ++ [] → IsGathering size (stepped s class 0 id ((class, slot) ∷ []) rested gives)
  ends_so fills =
      ends_turn kept.log rested refl (subst (λ sides. Seats offer_seat size size.passes kept.log sides) (sym (side_same reass_seat s.views id v rested at refl)) kept.seats)
      (fills ∙ append-nil v.held ∙ had.held) (λ k ne. refl)

  -- with an offer
  module _ (x : ℕ × Piece) (classed : class_of size.classes x.1.key ≡ class) where
    abbrev entry : Offer
    entry = record { seat = v.seats.number; n = x.0; piece = x.1 }

    abbrev longer : List Offer
    longer = kept.log ++ entry ∷ []

    abbrev offering : ReassView
    offering = record v { seats = record v.seats { history = longer }; turn = None; held = [] }

    number : v.seats.number ≡ id
    number = ((kept.seats.each id v.seats sides_there).lives had.lives).number

    ends_with : slot.offers.items ≡ v.held ++ x ∷ [] → IsGathering size (stepped s class 0 id ((class, slot) ∷ []) offering gives)
    ends_with fills =
        ends_turn longer offering refl
        (subst (λ sides. Seats offer_seat size size.passes longer sides) (sym (map-set reass_seat s.views id offering))
        (seats-adds offer_seat size size.passes kept.log (map reass_seat s.views) id v.seats kept.seats sides_there had.lives had.place entry number))
        (fills ∙ ap (λ (xs : List (ℕ × Piece)). xs ++ x ∷ []) had.held ∙ sym (class_more size.classes class kept.log entry classed))
        (λ k ne. class_other size.classes k kept.log entry (λ e. ne (sym e ∙ classed)))

    adds_offer : AddsOffer (view_sight v) (view_sight offering) x.0 x.1
    adds_offer =
        let fits = kept.seats.each id v.seats sides_there in
        record {
          others = fits.seen.rest;
          goes_on = ap (λ (xs : List Offer). view_sight (record v { seats = record v.seats { history = xs }; turn = None; held = [] }))
              (ap (λ (xs : List Offer). xs ++ entry ∷ []) fits.seen.goes_on ∙ append_assoc v.seats.history fits.seen.rest (entry ∷ []));
          own = rest_none offer_seat v.seats.number v.seats.history kept.log fits.seen (rw number (fits.lives had.lives).own);
          listed = λ n c. rest_none offer_seat n v.seats.history kept.log fits.seen (fits.joined n c).same;
        }

-- the turn may be ended so
pub end_turn : (size : ReassSize) (id n class : ℕ) (o : Option (ℕ × Piece)) (st : Step Gathered) (me : Me Gathered ReassView) → n ≡ size.classes
    → MayEndClass size.classes class o me → Allows (IsGathering size) n id me class (λ k. 0) (λ k. EndsClassTurn o st me 0)
end_turn size id n class o st me count may =
    subst (λ (carried : List (ℕ × Gathered)). Allows (IsGathering size) n id (me.0, carried) class (λ k. 0) (λ k. EndsClassTurn o st (me.0, carried) 0))
    (sym may.has) (by_offer o may.fills may.classed)
  where
    by_offer : (o : Option (ℕ × Piece)) → may.slot.offers.items ≡ me.0.held ++ added o → IsOfClass size.classes class o
        → Allows (IsGathering size) n id (me.0, (class, may.slot) ∷ []) class (λ k. 0) (λ k. EndsClassTurn o st (me.0, (class, may.slot) ∷ []) 0)
    by_offer None fills classed s kept homes at bound = (
      rested size s id me.0 may.slot class kept (homes ∙ count) at may.turn,
      gives,
      tt,
      ends_so size s id me.0 may.slot class kept (homes ∙ count) at may.turn fills,
      record { history = me.0.seats.history; is = refl; adds = refl },
    )
    by_offer (Some x) fills classed s kept homes at bound = (
      offering size s id me.0 may.slot class kept (homes ∙ count) at may.turn x classed,
      gives,
      tt,
      ends_with size s id me.0 may.slot class kept (homes ∙ count) at may.turn x classed fills,
      record {
        history = longer size s id me.0 may.slot class kept (homes ∙ count) at may.turn x classed;
        is = refl;
        adds = adds_offer size s id me.0 may.slot class kept (homes ∙ count) at may.turn x classed;
      },
    )

-- the slot that was taken first
carried_slot : Gathered → List (ℕ × Gathered) → Gathered
carried_slot d [] = d
carried_slot d (x ∷ xs) = x.1

slot_same : (n : ℕ) (x y : Gathered) (xs ys : List (ℕ × Gathered)) → (n, x) ∷ xs ≡ (n, y) ∷ ys → x ≡ y
unfolding carried_slot
slot_same n x y xs ys e = ap (carried_slot x) e

-- a pass that took the turn may end it, once the slot has the offer, if there is one
pub may_end : (classes class : ℕ) (o : Option (ℕ × Piece)) (v : ReassView) (me : Me Gathered ReassView) (lent slot : Gathered) → HasTakenClass v class me
    → me.1 ≡ (class, lent) ∷ rest me.1 → slot.offers.items ≡ lent.offers.items ++ added o → IsOfClass classes class o
    → MayEndClass classes class o (me.0, (class, slot) ∷ rest me.1)
may_end classes class o v me lent slot taken lends fills classed =
    let carried : me.1 ≡ (class, taken.slot) ∷ [] = ap (λ (y : Me Gathered ReassView). y.1) taken.is in
    let same : taken.slot ≡ lent = slot_same class taken.slot lent [] (rest me.1) (sym carried ∙ lends) in
    record {
      slot = slot;
      has = ap (λ (y : Me Gathered ReassView). (class, slot) ∷ rest y.1) taken.is;
      turn = ap (λ (y : Me Gathered ReassView). y.0.turn) taken.is;
      fills = fills ∙ ap (λ (g : Gathered). g.offers.items ++ added o) (sym same) ∙ ap (λ (xs : List (ℕ × Piece)). xs ++ added o) (sym (ap (λ (y : Me Gathered ReassView). y.0.held) taken.is));
      classed = classed;
    }

-- what the end of such a turn leaves
pub ended_me : (v : ReassView) (class : ℕ) (me : Me Gathered ReassView) (slot : Gathered) (taken : HasTakenClass v class me)
    → (let x : Me Gathered ReassView = (me.0, (class, slot) ∷ rest me.1) in x) ≡ (record v { turn = Some class; held = taken.slot.offers.items }, (class, slot) ∷ [])
ended_me v class me slot taken = ap (λ (y : Me Gathered ReassView). let x : Me Gathered ReassView = (y.0, (class, slot) ∷ rest y.1) in x) taken.is
