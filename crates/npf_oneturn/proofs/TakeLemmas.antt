-- A try to take the turn keeps the rule.
use Rattle.std.proofs.Common.{◌≡◌, ◌≢◌, ℕ, ◌≤◌, true, eqb, List, [], ◌∷◌, map, length, set, refl, sym, ◌∙◌, subst, ⊎_elim, inl, inr, arith, length-set}
use Rattle.std.{specs.Prelude.slice_index, proofs.lemmas.List.{get_or-set_same, map-set}}
use mathlib.Core.Option.{some}
use lib.ListN.{get_elem?}
use prog.Atomic.{either}
use Rattle.atomic_table.{specs.Table.{State, Me, Act, Step, stepped, Allows, carried_after, Valid, keeps, takes}, proofs.Lists.{at_map, at_set, exchanged}}
use Rattle.npf_core.specs.{declared.entry.Entry.Entry, History.state_of, Meaning.Meaning}
use Rattle.npf_connections.specs.Pass.{all_places}
use Rattle.npf_seats.{specs.{declared.side.SeatSide.SeatSide, Seats.{FitsSeats, Seats}}, proofs.SeatLemmas.{unspent, seats-sees, only_seat, most_places}}
use Rattle.npf_seats.proofs.SumLemmas.{set_there}
use Rattle.npf_oneturn.specs.{declared.{contents.Contents.Contents, view.View.View}, Rule.{FitsRule, IsHome, HasTurn, IsRuled}}
use Rattle.npf_oneturn.specs.{Taking.{Taken, TakesOrNot, IsResting}, Views.{entry_seat, seat_of_view, crowd_of, IsTidy}}
use Rattle.npf_oneturn.proofs.{Counts.{crowd-set, crowd-few, crowd-apart, crowd-there}, ViewLemmas.{each-set, stays_put}}

module _ {S A R : Type 0} (m : Meaning S A R) (slots : ℕ) where
  module _ (s : State (Contents S) (View S A R)) (id : ℕ) (v : View S A R) (kept : IsRuled m slots s) (at : get_elem? s.views id ≡ some v)
      (lives : v.seats.lives ≡ true) (theirs : v.seats.theirs ≡ []) (place : 1 ≤ length v.seats.readers) where
    abbrev sides : List (SeatSide ℕ (Entry S A R))
    sides = map seat_of_view s.views

    there : get_elem? sides id ≡ some v.seats
    there = at_map seat_of_view s.views id v at

    fits : FitsSeats entry_seat slots sides kept.log id v.seats
    fits = kept.seats.each id v.seats there

    mine : FitsRule (state_of m kept.log) v
    mine = kept.each id v at

    -- the view of a pass that took the turn
    abbrev taker : View S A R
    taker = record v { seats = record v.seats { history = kept.log }; turn = true; crowd = crowd_of s.views }

    -- the turn is free: nobody has it
    nobody : slice_index s.words 0 ≡ 0 → (j : ℕ) (u : View S A R) → get_elem? s.views j ≡ some u → u.turn ≡ true → ⊥
    nobody free j u e t = let taken = (kept.turns j u e t).taken in absurd (omega (arith, free, taken))

    same_crowd : crowd_of (set s.views id taker) ≡ crowd_of s.views
    same_crowd = let more = crowd-set s.views id v taker at in omega (arith, more)

    taker_fits : FitsRule (state_of m kept.log) taker
    taker_fits = record {
      tidy = record { unanswered = mine.tidy.unanswered; idle = mine.tidy.idle; place = mine.tidy.place };
      stays = λ l. let stays = mine.stays l in record { claimed = stays.claimed; built = stays.built };
    }

    takes_turn : slice_index s.words 0 ≡ 0 → (c : List (ℕ × Contents S)) (contents : Contents S) → IsRuled m slots (stepped s 0 1 id c taker (takes 0 contents))
    takes_turn free c contents = record {
      log = kept.log;
      holder = id;
      legal = kept.legal;
      bare = kept.bare;
      words = length-set s.words 0 1 ∙ kept.words;
      home = λ e. absurd (let no : 1 ≡ 0 = sym one ∙ e in omega (arith, no));
      held = λ _. record { seat = id; view = taker; there = set_there s.views id v taker at; turn = refl };
      turns = λ j u e t. ⊎_elim
          (λ (x : (j ≡ id) × (taker ≡ u)). subst (λ (y : ℕ × View S A R). HasTurn (stepped s 0 1 id c taker (takes 0 contents)) kept.log id y.0 y.1) (λ i. (sym x.0 i, x.1 i))
          (record { taken = one; alone = refl; lives = lives; place = place; newest = refl; crowd = sym same_crowd }))
          (λ (x : (j ≢ id) × (get_elem? s.views j ≡ some u)). absurd (nobody free j u x.1 t))
          (at_set s.views id j taker u e);
      seats = subst (λ y. Seats entry_seat slots all_places kept.log y) (sym (map-set seat_of_view s.views id taker))
          (seats-sees entry_seat slots all_places kept.log sides id v.seats kept.seats there lives);
      each = each-set (state_of m kept.log) s.views id taker taker_fits kept.each;
    }
      where
        one : slice_index (set s.words 0 1) 0 ≡ 1
        one = get_or-set_same s.words 0 1 0 (omega (arith, kept.words))

    tidy_all : (j : ℕ) (u : View S A R) → get_elem? s.views j ≡ some u → IsTidy u
    tidy_all j u e = (kept.each j u e).tidy

    took : slice_index s.words 0 ≡ 0 → (home : IsHome m slots s kept.log) → Taken m v (taker, (0, home.contents) ∷ [])
    took free home =
        let seated = fits.lives lives in
        record {
          log = kept.log;
          crowd = crowd_of s.views;
          contents = home.contents;
          is = refl;
          goes_on = fits.seen;
          own = rw seated.number seated.own;
          listed = λ n c. (fits.joined n c).same;
          apart = λ n c e. unspent entry_seat slots all_places kept.log sides id n v.seats there place (fits.joined n c).spent (e ∙ seated.number);
          legal = rw (fits.sized place) kept.legal;
          bare = kept.bare;
          tidy = mine.tidy;
          stays = mine.stays lives;
          represents = rw (fits.sized place) home.represents;
          counted = home.counted;
          sole = λ all n. ⊎_elim
              (λ none. inl none)
              (λ seat. inr (⊎_elim (λ e. inl (e ∙ sym seated.number)) (λ c. inr (rw theirs at c)) (only_seat entry_seat slots all_places kept.log sides id v.seats kept.seats there lives all n seat)))
              (kept.seats.known n);
          most = most_places entry_seat slots all_places kept.log sides id v.seats kept.seats there lives;
          few = let all = crowd-few s.views tidy_all in omega (arith, all, kept.seats.total);
          counts = crowd-there s.views id v at;
          alone = λ all.
              let apart = crowd-apart s.views tidy_all id v at in
              let there = crowd-there s.views id v at in
              omega (arith, apart, there, kept.seats.total, all);
        }

  -- a try to take the turn, that makes the word this
  abbrev Try : (st : Step (Contents S)) (id : ℕ) (v : View S A R) (s : State (Contents S) (View S A R)) → ℕ → Type 0
  Try st id v s k =
      (w : View S A R) × (a : Act (Contents S)) × Valid s.homes [] a × IsRuled m slots (stepped s 0 k id [] w a)
      × TakesOrNot m st (v, []) (slice_index s.words 0) (w, carried_after [] a)

  takes_or_not : (st : Step (Contents S)) (id : ℕ) (v : View S A R) → v.seats.lives ≡ true → v.seats.theirs ≡ [] → 1 ≤ length v.seats.readers →
      Allows (IsRuled m slots) 1 id (v, []) 0 (λ n. either (eqb n 0) 1 n) (TakesOrNot m st (v, []))
  takes_or_not st id v lives theirs place s kept homes at bound = exchanged (slice_index s.words 0) 0 1 (Try st id v s) hit miss
    where
      hit : slice_index s.words 0 ≡ 0 → Try st id v s 1
      hit e =
          let home = kept.home e in (
            taker s id v kept at lives theirs place,
            takes 0 home.contents,
            home.there,
            takes_turn s id v kept at lives theirs place e [] home.contents,
            record { won = λ _. took s id v kept at lives theirs place e home; lost = λ ne. absurd (ne e) },
          )

      miss : slice_index s.words 0 ≢ 0 → Try st id v s (slice_index s.words 0)
      miss ne = (v, keeps, tt, stays_put m slots s kept id v [] at, record { won = λ e. absurd (ne e); lost = λ _. refl })

  -- the same of a resting seat
  pub try_turn : (st : Step (Contents S)) (id n : ℕ) (me : Me (Contents S) (View S A R)) → n ≡ 1 → IsResting me →
      Allows (IsRuled m slots) n id me 0 (λ k. either (eqb k 0) 1 k) (TakesOrNot m st me)
  try_turn st id n me one rests =
      subst (λ (k : ℕ). Allows (IsRuled m slots) k id me 0 (λ k. either (eqb k 0) 1 k) (TakesOrNot m st me)) (sym one)
      (subst (λ (y : Me (Contents S) (View S A R)). Allows (IsRuled m slots) 1 id y 0 (λ k. either (eqb k 0) 1 k) (TakesOrNot m st y)) (λ i. (me.0, sym rests.free i))
      (takes_or_not st id me.0 rests.lives rests.theirs rests.place))
