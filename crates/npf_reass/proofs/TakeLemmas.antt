-- A try to take the turn of a class keeps the rule.
use Rattle.std.proofs.Common.{◌≡◌, ◌≢◌, ℕ, ◌<◌, ◌≤◌, true, false, ◌==◌, eqb, if◌then◌else◌, List, [], set, length, Some, None, refl, sym, ap, ◌∙◌, subst, ⊎_elim, inl, inr, arith, length-set}
use Rattle.std.{specs.Prelude.slice_index, proofs.lemmas.Bool.{cases_eq, false_from_ne_true, Decides.Decides-eqb}}
use Rattle.std.proofs.lemmas.List.{get_or-set_same, get_or-set_other, set-get_or}
use mathlib.Core.Option.{some, none}
use lib.ListN.{get_elem?}
use prog.Atomic.{either}
use Rattle.atomic_table.specs.Table.{State, Me, Act, step, stepped, Allows, carried_after, Valid, keeps, takes}
use Rattle.atomic_table.proofs.Lists.{at_set, set_again, set_else, exchanged}
use Rattle.npf_seats.{specs.Seats.Seats, proofs.SumLemmas.{set_there, side_same}}
use Rattle.npf_reass.specs.{declared.{offer.{Gathered.Gathered, ReassSize.ReassSize}, view.ReassView.ReassView}, Class.offer_seat}
use Rattle.npf_reass.specs.{Gathering.{HasClassHolder, HasClassTurn, IsClassHome, IsGathering, reass_seat}, Passes.IsRestingPass, Turn.TakesTurn}
use Rattle.npf_reass.proofs.TurnsLemmas.{no_turn, one_turn, turn_there}

module _ (size : ReassSize) where
  -- the same step in which nothing changes
  stays_put : (s : State Gathered ReassView) (i id : ℕ) (v : ReassView) → IsGathering size s → get_elem? s.views id ≡ some v
      → IsGathering size (stepped s i (slice_index s.words i) id [] v keeps)
  stays_put s i id v kept at =
      subst (λ (vs : List ReassView). IsGathering size (record { words = set s.words i (slice_index s.words i); homes = s.homes; views = vs })) (sym (set_again s.views id v at))
      (subst (λ (ws : List ℕ). IsGathering size (record { words = ws; homes = s.homes; views = s.views })) (sym (set-get_or s.words i 0)) kept)

  module _ (s : State Gathered ReassView) (id : ℕ) (v : ReassView) (class : ℕ) (kept : IsGathering size s) (at : get_elem? s.views id ≡ some v) (inside : class < size.classes)
      (lives : v.seats.lives ≡ true) (rests : v.turn ≡ None) (place : 1 ≤ length v.seats.readers) (free : slice_index s.words class ≡ 0) where
    home : IsClassHome size.classes s.homes kept.log class
    home = kept.home class inside free

    -- the view of the pass that took the turn
    abbrev taker : ReassView
    taker = record v { turn = Some class; held = home.slot.offers.items }

    abbrev words : List ℕ
    words = set s.words class 1

    abbrev views : List ReassView
    views = set s.views id taker

    abbrev holder : ℕ → ℕ
    holder k = if k == class then id else kept.holder k

    holder_here : holder class ≡ id
    holder_here = let here : (class == class) ≡ true = (Decides-eqb class class).1 refl in rw here refl

    holder_other : (k : ℕ) → k ≢ class → holder k ≡ kept.holder k
    holder_other k ne = let other : (k == class) ≡ false = false_from_ne_true (k == class) (λ e. ne ((Decides-eqb k class).0 e)) in rw other refl

    word_here : slice_index words class ≡ 1
    word_here = get_or-set_same s.words class 1 0 (omega (arith, kept.wide, inside))

    word_other : (k : ℕ) → k ≢ class → slice_index words k ≡ slice_index s.words k
    word_other k ne = get_or-set_other s.words class k 1 0 ne

    mine : HasClassTurn size.classes words kept.log holder class id taker
    mine = record {
      inside = inside;
      taken = word_here;
      alone = sym holder_here;
      lives = lives;
      place = place;
      held = home.has;
    }

    others : (j k : ℕ) (u : ReassView) → HasClassTurn size.classes s.words kept.log kept.holder k j u → HasClassTurn size.classes words kept.log holder k j u
    others j k u old =
        let ne : k ≢ class = λ e. let same = ap (slice_index s.words) e in omega (arith, same, old.taken, free) in
        record {
          inside = old.inside;
          taken = word_other k ne ∙ old.taken;
          alone = old.alone ∙ sym (holder_other k ne);
          lives = old.lives;
          place = old.place;
          held = old.held;
        }

    held_here : HasClassHolder views (holder class) class
    held_here = record { view = taker; there = ap (λ (n : ℕ). get_elem? views n) holder_here ∙ set_there s.views id v taker at; turn = refl }

    held_other : (k : ℕ) → k ≢ class → HasClassHolder s.views (kept.holder k) k → HasClassHolder views (holder k) k
    held_other k ne has = record {
      view = has.view;
      there = ap (λ (n : ℕ). get_elem? views n) (holder_other k ne)
          ∙ set_else s.views id (kept.holder k) taker (λ e. no_turn rests (turn_there s.views id (kept.holder k) v has.view at has.there e ∙ has.turn))
          ∙ has.there;
      turn = has.turn;
    }

    takes_turn : IsGathering size (stepped s class 1 id [] taker (takes class home.slot))
    takes_turn = record {
      log = kept.log;
      holder = holder;
      seats = subst (λ sides. Seats offer_seat size size.passes kept.log sides) (sym (side_same reass_seat s.views id v taker at refl)) kept.seats;
      wide = length-set s.words class 1 ∙ kept.wide;
      home = λ k h e. ⊎_elim
          (λ (same : k ≡ class). let one = ap (slice_index words) same in absurd (omega (arith, one, word_here, e)))
          (λ (ne : k ≢ class).
          let old = kept.home k h (sym (word_other k ne) ∙ e) in
          record { slot = old.slot; there = set_else s.homes class k none ne ∙ old.there; has = old.has })
          (cases_eq k class);
      turns = record {
        busy = λ k h. ⊎_elim
            (λ (same : k ≡ class). inr (subst (λ n. HasClassHolder views (holder n) n) (sym same) held_here))
            (λ (ne : k ≢ class). ⊎_elim
            (λ (none' : slice_index s.words k ≡ 0). inl (word_other k ne ∙ none'))
            (λ (has : HasClassHolder s.views (kept.holder k) k). inr (held_other k ne has))
            (kept.turns.busy k h))
            (cases_eq k class);
        turns = λ j k u e t. ⊎_elim
            (λ (x : (j ≡ id) × (taker ≡ u)).
            let same : class ≡ k = one_turn (ap (λ (y : ReassView). y.turn) (sym x.1)) t in
            subst (λ (y : ℕ × ReassView). HasClassTurn size.classes words kept.log holder k y.0 y.1) (λ i. (sym x.0 i, x.1 i))
            (subst (λ n. HasClassTurn size.classes words kept.log holder n id taker) same mine))
            (λ (x : (j ≢ id) × (get_elem? s.views j ≡ some u)). others j k u (kept.turns.turns j k u x.1 t))
            (at_set s.views id j taker u e);
      };
    }

  -- a try to take the turn, that makes the word this
  abbrev Try : (n id class : ℕ) (v : ReassView) (s : State Gathered ReassView) → ℕ → Type 0
  Try n id class v s k =
      (w : ReassView) × (a : Act Gathered) × Valid s.homes [] a × IsGathering size (stepped s class k id [] w a)
      × TakesTurn (step n class 0 1 none) (v, []) (slice_index s.words class) (w, carried_after [] a)

  takes_or_not : (id n class : ℕ) (v : ReassView) → class < size.classes → v.seats.lives ≡ true → v.turn ≡ None → 1 ≤ length v.seats.readers
      → Allows (IsGathering size) n id (v, []) class (λ k. either (eqb k 0) 1 k) (TakesTurn (step n class 0 1 none) (v, []))
  takes_or_not id n class v inside lives rests place s kept homes at bound = exchanged (slice_index s.words class) 0 1 (Try n id class v s) hit miss
    where
      hit : slice_index s.words class ≡ 0 → Try n id class v s 1
      hit e =
          let here = home s id v class kept at inside lives rests place e in (
            taker s id v class kept at inside lives rests place e,
            takes class here.slot,
            here.there,
            takes_turn s id v class kept at inside lives rests place e,
            record { won = λ _. record { slot = here.slot; is = refl }; lost = λ ne. absurd (ne e) },
          )

      miss : slice_index s.words class ≢ 0 → Try n id class v s (slice_index s.words class)
      miss ne = (v, keeps, tt, stays_put s class id v kept at, record { won = λ e. absurd (ne e); lost = λ _. refl })

  -- the same of a resting seat
  pub try_turn : (id n class : ℕ) (me : Me Gathered ReassView) → class < size.classes → IsRestingPass size me
      → Allows (IsGathering size) n id me class (λ k. either (eqb k 0) 1 k) (TakesTurn (step n class 0 1 none) me)
  try_turn id n class me inside rests =
      subst (λ (y : Me Gathered ReassView). Allows (IsGathering size) n id y class (λ k. either (eqb k 0) 1 k) (TakesTurn (step n class 0 1 none) y)) (λ i. (me.0, sym rests.free i))
      (takes_or_not id n class me.0 inside rests.lives rests.turn rests.place)
