-- The end of a turn keeps the rule.
use Rattle.std.proofs.Common.{◌≡◌, ◌≢◌, ℕ, true, false, true≢false, ◌==◌, List, [], ◌∷◌, ◌++◌, length, map, set, refl, sym, ap, ◌∙◌, subst, ⊎_elim, arith, length-set}
use Rattle.std.proofs.lemmas.{List.{get_or-set_same, map-set}, Bool.{Decides.Decides-eqb, false_from_ne_true}}
use mathlib.Core.Option.{some}
use lib.ListN.{get_elem?}
use Rattle.atomic_table.{specs.Table.{State, Me, Step, stepped, Allows, gives}, proofs.Lists.{at_map, at_set, set_here}}
use Rattle.npf_core.specs.{declared.{act.Act.Act, conn_id.ConnId.ConnId, entry.Entry.Entry}, History.{LegalFrom, state_of, state_from, by, frees}}
use Rattle.npf_core.specs.{Machine.{Machine, opening}, Meaning.Meaning, NextState.after_act, Replies.reply_of}
use Rattle.npf_core.proofs.{BuildingLemmas.{builds_after, claimed_after}, HistoryLemmas.{state_from-append, LegalFrom-append}}
use Rattle.npf_connections.specs.Pass.{all_places}
use Rattle.npf_seats.{specs.{declared.side.SeatSide.SeatSide, Seats.{FitsSeats, Seats}}, proofs.{PrefixLemmas.none_listed, SeatLemmas.seats-adds-all}}
use Rattle.npf_oneturn.specs.declared.{contents.Contents.Contents, rule.CallEnding.CallEnding, view.View.View}
use Rattle.npf_oneturn.specs.{Endings.{entries_from, Plan, planned_entries, ended, MayEnd, MayEndTurn, Ends}, Rule.{FitsRule, HasTurn, IsRuled}}
use Rattle.npf_oneturn.{specs.Views.{entry_seat, seat_of_view, crowd_of, Stays}, proofs.Counts.{crowd-set, crowd-none}}

module _ {S A R : Type 0} (m : Meaning S A R) (seat : ℕ) where
  -- all entries of acts under a seat are the seat's, and no other's
  pub own_entries : (k : Machine S) (acts : List (Act S A)) → by seat (entries_from m k seat acts) ≡ entries_from m k seat acts
  own_entries k [] = refl
  own_entries k (act ∷ acts) =
      let here : (seat == seat) ≡ true = (Decides-eqb seat seat).1 refl in
      rw here (ap (λ (xs : List (Entry S A R)). record { seat = seat; act = act; reply = reply_of m k act } ∷ xs) (own_entries (after_act m k seat act) acts))

  pub no_entries : (other : ℕ) → other ≢ seat → (k : Machine S) (acts : List (Act S A)) → by other (entries_from m k seat acts) ≡ []
  no_entries other ne k [] = refl
  no_entries other ne k (act ∷ acts) =
      let apart : (seat == other) ≡ false = false_from_ne_true (seat == other) (λ e. ne (sym ((Decides-eqb seat other).0 e))) in
      rw apart (no_entries other ne (after_act m k seat act) acts)

module _ {S A R : Type 0} (m : Meaning S A R) (slots : ℕ) (s : State (Contents S) (View S A R)) (id : ℕ) (v : View S A R) (contents : Contents S) (p : Plan S A)
    (kept : IsRuled m slots s) (homed : length s.homes ≡ 1) (at : get_elem? s.views id ≡ some v) (turn : v.turn ≡ true) (may : MayEnd m p v contents) where
  had : HasTurn s kept.log kept.holder id v
  had = kept.turns id v at turn

  abbrev sides : List (SeatSide ℕ (Entry S A R))
  sides = map seat_of_view s.views

  there : get_elem? sides id ≡ some v.seats
  there = at_map seat_of_view s.views id v at

  mine : FitsSeats entry_seat slots sides kept.log id v.seats
  mine = kept.seats.each id v.seats there

  number : v.seats.number ≡ id
  number = (mine.lives had.lives).number

  sized : v.seats.about ≡ slots
  sized = mine.sized had.place

  abbrev after : View S A R
  after = ended m p v

  abbrev added : List (Entry S A R)
  added = planned_entries m p v

  abbrev log : List (Entry S A R)
  log = v.seats.history ++ added

  others_none : (n : ℕ) → n ≢ id → by n added ≡ []
  others_none n ne = no_entries m v.seats.number n (λ e. ne (e ∙ number)) (state_of m v.seats.history) p.acts

  legal : LegalFrom m slots (state_of m v.seats.history) added
  legal = rw (← sized) may.legal

  now_crowd : contents.entered ≡ crowd_of (set s.views id after)
  now_crowd = let more = crowd-set s.views id v after at in omega (arith, more, may.counted, had.crowd)

  seats_after : Seats entry_seat slots all_places log (map seat_of_view (set s.views id after))
  seats_after =
      let here : Seats entry_seat slots all_places v.seats.history sides = subst (λ h. Seats entry_seat slots all_places h sides) (sym had.newest) kept.seats in
      subst (λ y. Seats entry_seat slots all_places log y) (sym (map-set seat_of_view s.views id after))
      (seats-adds-all entry_seat slots all_places v.seats.history sides id v.seats here there had.lives had.place added others_none)

  module _ (j : ℕ) (u : View S A R) (ne : j ≢ id) (at_j : get_elem? s.views j ≡ some u) where
    theirs : FitsRule (state_of m kept.log) u
    theirs = kept.each j u at_j

    seated : u.seats.lives ≡ true → u.seats.number ≡ j
    seated lives = ((kept.seats.each j u.seats (at_map seat_of_view s.views j u at_j)).lives lives).number

    on : state_of m log ≡ state_from m (state_of m v.seats.history) added
    on = state_from-append m opening v.seats.history added

    claims_stay : ((i : ConnId) → frees i added ≡ []) → u.seats.lives ≡ true → Stays (state_of m log) u
    claims_stay free lives =
        let here : Stays (state_of m v.seats.history) u = rw had.newest (theirs.stays lives) in
        record {
          claimed = λ i known. rw on (claimed_after m slots (state_of m v.seats.history) added i legal (free i) (here.claimed i known));
          built = λ i known. rw on (builds_after m slots (state_of m v.seats.history) added u.seats.number i legal (rw (seated lives) (others_none j ne)) (here.built i known));
        }

    nobody_stays : v.crowd ≡ 0 → Stays (state_of m log) u
    nobody_stays few =
        let out = crowd-none s.views (sym had.crowd ∙ few) j u at_j in
        record {
          claimed = λ i known. absurd (none_listed i (rw (theirs.tidy.unanswered out) at known));
          built = λ i known. absurd (none_listed i (rw (theirs.tidy.idle out) at known));
        }

    other_fits : FitsRule (state_of m log) u
    other_fits = record { tidy = theirs.tidy; stays = λ lives. ⊎_elim (λ free. claims_stay free lives) nobody_stays may.frees }

  end_keeps : (c : List (ℕ × Contents S)) → c ≡ (0, contents) ∷ [] → IsRuled m slots (stepped s 0 0 id c after gives)
  end_keeps c is = record {
    log = log;
    holder = id;
    legal = LegalFrom-append m slots opening v.seats.history added (rw had.newest kept.legal) legal;
    bare = may.bare;
    words = length-set s.words 0 0 ∙ kept.words;
    home = λ _. record {
      contents = contents;
      there = rw is (set_here s.homes 0 (some contents) (omega (arith, homed)));
      represents = rw (← sized) may.represents;
      counted = now_crowd;
    };
    held = λ taken. absurd (taken (get_or-set_same s.words 0 0 0 (omega (arith, kept.words))));
    turns = λ j u e t. ⊎_elim
        (λ (x : (j ≡ id) × (after ≡ u)). absurd (true≢false (sym t ∙ ap (λ (y : View S A R). y.turn) (sym x.1))))
        (λ (x : (j ≢ id) × (get_elem? s.views j ≡ some u)). absurd (x.0 ((kept.turns j u x.1 t).alone ∙ sym had.alone)))
        (at_set s.views id j after u e);
    seats = seats_after;
    each = λ j u e. ⊎_elim
        (λ (x : (j ≡ id) × (after ≡ u)). subst (λ (y : View S A R). FitsRule (state_of m log) y) x.1 (record { tidy = may.tidy; stays = λ _. may.stays }))
        (λ (x : (j ≢ id) × (get_elem? s.views j ≡ some u)). other_fits j u x.0 x.1)
        (at_set s.views id j after u e);
  }

-- the end of a call
pub end_turn : {S A R : Type 0} (m : Meaning S A R) (slots : ℕ) (ending : CallEnding S A) (st : Step (Contents S)) (id n : ℕ) (me : Me (Contents S) (View S A R)) → n ≡ 1 →
    MayEndTurn m ending me → Allows (IsRuled m slots) n id me 0 (λ _. 0) (λ _. Ends m ending st me 0)
end_turn m slots ending st id n me one may s kept homes at bound = (
  ended m may.plan me.0,
  gives,
  tt,
  end_keeps m slots s id me.0 may.contents may.plan kept (homes ∙ one) at may.turn may.may me.1 may.has,
  record { plan = may.plan; by_plan = may.by_plan; may = (may.contents, may.may); is = refl },
)
