-- A new table keeps the rule, and so does a pass that gives up a place.
use Rattle.std.proofs.Common.{◌≡◌, ℕ, zero, suc, ◌-◌, ◌≤◌, true, false, true≢false, ◌==◌, [], ◌∷◌, ◌++◌, length, take, drop, map, set, refl, sym, ap, ◌∙◌, subst, arith, append-nil}
use Rattle.std.proofs.lemmas.List.{length-drop, length-take-le, map-append, map-set, Elements.{Contains-append_left, Contains-append_right, Contains-push}}
use mathlib.Core.Option.{some, some-injective, some-ne-none}
use lib.ListN.{get_elem?}
use Rattle.atomic_table.{specs.Table.{Me, Step, opening as table_opening, Allows, Splits, keeps}, proofs.Lists.at_map}
use Rattle.npf_shelf.proofs.BoolLemmas.{cond-same}
use Rattle.npf_core.specs.{declared.{conn_id.ConnId.ConnId, stage.Stage.TheVariants.Vacant}, History.state_of, Machine.{opening, stage_of}, Meaning.Meaning}
use Rattle.npf_core.proofs.HistoryLemmas.{Legal-prefix}
use Rattle.npf_connections.specs.{Pass.{IsPass, all_places}, Joining.IsSplit}
use Rattle.npf_seats.{specs.{Moves.given_seat, Seats.Seats, Sums.numbers_below}, proofs.PrefixLemmas.none_listed}
use Rattle.npf_seats.proofs.{SeatLemmas.{seats-first, seats-split, seats-born, none_seen}, SumLemmas.{occurs_below, occurs_beyond, length-numbers_below}}
use Rattle.npf_oneturn_store.specs.Represents.{Represents}
use Rattle.npf_oneturn.specs.{declared.{contents.Contents.Contents, view.View.View}, Moves.{giver, newcomer, GetsNumber}}
use Rattle.npf_oneturn.specs.{Rule.{FitsRule, HasTurn, IsRuled, first_view}, Taking.IsResting, Views.{entry_seat, seat_of_view, crowd_of, show}}
use Rattle.npf_oneturn.proofs.Counts.{crowd-set, crowd-append, holder-set, holder-append}
use Rattle.npf_oneturn.proofs.ViewLemmas.{each-set, each-push, had-set, had-push, had_all, views_keep, load_keeps}

opening_stage : {S : Type 0} (id : ConnId) → stage_of (opening {S = S}) id ≡ Vacant
opening_stage id = cond-same (0 == id.inc) Vacant

module _ {S A R : Type 0} (m : Meaning S A R) (slots : ℕ) where
  -- the rule of a new table
  pub opens : (contents : Contents S) → Represents slots contents.store opening → contents.entered ≡ 0 →
      IsRuled m slots (table_opening (0 ∷ []) (contents ∷ []) (first_view {S = S} {A = A} {R = R} slots))
  opens contents represents nobody = record {
    log = [];
    holder = 0;
    legal = tt;
    bare = λ id dead. absurd (let none = sym (opening_stage {S = S} id) ∙ dead in cc);
    words = refl;
    home = λ _. record { contents = contents; there = refl; represents = represents; counted = nobody };
    held = λ taken. absurd (taken refl);
    turns = turns;
    seats = seats-first entry_seat slots all_places (numbers_below all_places) (occurs_below all_places) (occurs_beyond all_places) (length-numbers_below all_places);
    each = each;
  }
    where
      turns : (j : ℕ) (v : View S A R) → get_elem? (first_view slots ∷ []) j ≡ some v → v.turn ≡ true →
          HasTurn (table_opening (0 ∷ []) (contents ∷ []) (first_view slots)) [] 0 j v
      turns zero v e t = absurd (true≢false (sym t ∙ ap (λ (u : View S A R). u.turn) (sym (some-injective _ _ e))))
      turns (suc j) v e t = absurd (some-ne-none v (sym e))

      first_fits : FitsRule (state_of m []) (first_view {S = S} {A = A} {R = R} slots)
      first_fits = record {
        tidy = record { unanswered = λ _. refl; idle = λ _. refl; place = λ e. absurd (true≢false (sym e)) };
        stays = λ _. record { claimed = λ id c. absurd (none_listed id c); built = λ id c. absurd (none_listed id c) };
      }

      each : (j : ℕ) (v : View S A R) → get_elem? (first_view slots ∷ []) j ≡ some v → FitsRule (state_of m []) v
      each zero v e = subst (λ (u : View S A R). FitsRule (state_of m []) u) (some-injective _ _ e) first_fits
      each (suc j) v e = absurd (some-ne-none v (sym e))

-- how many places are given up, and how many stay
pub one_given : {S A R : Type 0} (v : View S A R) → 2 ≤ length v.seats.readers → length (newcomer v).seats.readers ≡ 1
one_given v places = let dropped = length-drop (length v.seats.readers - 1) v.seats.readers in omega (arith, dropped, places)

pub others_left : {S A R : Type 0} (v : View S A R) → length (giver v).seats.readers ≡ length v.seats.readers - 1
others_left v = length-take-le (length v.seats.readers - 1) v.seats.readers (omega arith)

-- a seat is split so
pub splits : {S A R : Type 0} (m : Meaning S A R) (slots id : ℕ) (v : View S A R) → v.seats.lives ≡ true →
    v.turn ≡ false → 2 ≤ length v.seats.readers → Splits (IsRuled m slots) id v (giver v) (newcomer v)
splits {S} {A} {R} m slots id v lives turn places s kept at =
    let left : View S A R = giver v in
    let right : View S A R = newcomer v in
    views_keep m slots s kept (set s.views id left ++ right ∷ []) crowd
    (had-push s.views (set s.views id left) right refl (had-set s.views s.views id left turn (had_all s.views)))
    (λ held. holder-append (set s.views id left) right (holder-set s.views id v left at turn held))
    (subst (λ sides. Seats entry_seat slots all_places kept.log sides)
    (sym (map-append seat_of_view (set s.views id left) (right ∷ []) ∙ ap (λ z. z ++ right.seats ∷ []) (map-set seat_of_view s.views id left)))
    (seats-split entry_seat slots all_places kept.log (map seat_of_view s.views) id v.seats kept.seats (at_map seat_of_view s.views id v at) lives places))
    (each-push (state_of m kept.log) (set s.views id left) right right_fits (each-set (state_of m kept.log) s.views id left left_fits kept.each))
  where
    crowd : crowd_of (set s.views id (giver v) ++ newcomer v ∷ []) ≡ crowd_of s.views
    crowd = let one = crowd-set s.views id v (giver v) at in let two = crowd-append (set s.views id (giver v)) (newcomer v) in omega (arith, one, two)

    left_fits : FitsRule (state_of m kept.log) (giver v)
    left_fits =
        let fits = kept.each id v at in
        record {
          tidy = record { unanswered = fits.tidy.unanswered; idle = fits.tidy.idle; place = λ _. let has = others_left v in omega (arith, has, places) };
          stays = λ l. let stays = fits.stays l in record { claimed = stays.claimed; built = stays.built };
        }

    right_fits : FitsRule (state_of m kept.log) (newcomer v)
    right_fits = record {
      tidy = record { unanswered = λ _. refl; idle = λ _. refl; place = λ e. absurd (true≢false (sym e)) };
      stays = λ e. absurd (true≢false (sym e));
    }

-- a new seat gets its number by a load
pub gets_number : {S A R : Type 0} (m : Meaning S A R) (slots : ℕ) (st : Step (Contents S)) (id n : ℕ) (me : Me (Contents S) (View S A R)) →
    me.0.seats.lives ≡ false → me.0.turn ≡ false → 1 ≤ length me.0.seats.readers → me.0.entered ≡ false → Allows (IsRuled m slots) n id me 0 (λ k. k) (GetsNumber m st me)
gets_number {S} {A} {R} m slots st id n me lives turn place out s kept homes at bound =
    let v = me.0 in
    let there = at_map seat_of_view s.views id v at in
    let fits = kept.seats.each id v.seats there in
    let mine = kept.each id v at in
    let born : View S A R = record v { seats = record v.seats { number = id; lives = true; others = [] } } in (
      born,
      keeps,
      tt,
      load_keeps m slots s kept id v born me.1 at turn turn refl (seats-born entry_seat slots all_places kept.log (map seat_of_view s.views) id v.seats kept.seats there lives place) (record {
        tidy = record { unanswered = mine.tidy.unanswered; idle = mine.tidy.idle; place = mine.tidy.place };
        stays = λ _. record {
          claimed = λ i c. absurd (none_listed i (rw (mine.tidy.unanswered out) at c));
          built = λ i c. absurd (none_listed i (rw (mine.tidy.idle out) at c));
        };
      }),
      record {
        number = id;
        is = refl;
        apart = fits.others;
        unused = none_seen entry_seat slots all_places kept.log (map seat_of_view s.views) id v.seats kept.seats there lives place;
        legal = Legal-prefix m v.seats.about v.seats.history kept.log fits.seen (rw (fits.sized place) kept.legal);
      },
    )

-- what a split leaves
pub split_so : {S A R : Type 0} (m : Meaning S A R) (st : Step (Contents S)) (v : View S A R) (found : ℕ) (given : Me (Contents S) (View S A R)) → 2 ≤ length v.seats.readers →
    GetsNumber m st (newcomer v, []) found given → IsSplit (show v) (show (giver v)) (show given.0)
split_so m st v found given places gets =
    let is : given.0 ≡ record (newcomer v) { seats = record (given_seat v.seats) { number = gets.number; lives = true; others = [] } } = ap (λ y. y.0) gets.is in
    let number : given.0.seats.number ≡ gets.number = ap (λ (y : View _ _ _). y.seats.number) is in
    let kept : length (take (length v.seats.readers - 1) v.seats.readers) ≡ length v.seats.readers - 1 = others_left v in
    let dropped : length (drop (length v.seats.readers - 1) v.seats.readers) ≡ 1 = one_given v places in
    record {
      adds = record { rest = []; goes_on = sym (append-nil v.seats.history); own = refl; listed = λ n c. refl };
      left = rw kept refl;
      another = λ e. gets.apart v.seats.number (Contains-append_left (v.seats.number ∷ []) v.seats.joined v.seats.number (Contains-push [] v.seats.number)) (sym e ∙ number);
      unlisted = λ c. gets.apart given.0.seats.number (Contains-append_right (v.seats.number ∷ []) v.seats.joined given.0.seats.number c) number;
      unused = rw number gets.unused;
      gives = rw (is, dropped) refl;
    }

pub giver_pass : {S A R : Type 0} (m : Meaning S A R) (v : View S A R) → 2 ≤ length v.seats.readers → length v.seats.readers ≤ all_places → IsPass m (show v) → IsPass m (show (giver v))
giver_pass m v places most pass = record {
  legal = pass.legal;
  stays = pass.stays;
  building = pass.building;
  unanswered = pass.unanswered;
  idle = pass.idle;
  alone = λ all. let left = others_left v in absurd (omega (arith, all, left, places, most));
  most = pass.most;
}

-- the pass that gave a place up and the new one rest
pub giver_rests : {S A R : Type 0} (me : Me (Contents S) (View S A R)) → 2 ≤ length me.0.seats.readers → IsResting me → IsResting (giver me.0, me.1)
giver_rests me places rests =
    let left = others_left me.0 in
    let most = rests.most in
    record { free = rests.free; turn = rests.turn; lives = rests.lives; theirs = rests.theirs; place = omega (arith, left, places); most = omega (arith, left, most) }

pub given_rests : {S A R : Type 0} (m : Meaning S A R) (st : Step (Contents S)) (v : View S A R) (found : ℕ) (given : Me (Contents S) (View S A R)) → 2 ≤ length v.seats.readers →
    GetsNumber m st (newcomer v, []) found given → IsResting given
given_rests m st v found given places gets =
    let one = one_given v places in
    rw gets.is (record { free = refl; turn = refl; lives = refl; theirs = refl; place = omega (arith, one); most = omega (arith, one) })

-- the new pass has as its own what it was given
pub given_pass : {S A R : Type 0} (m : Meaning S A R) (st : Step (Contents S)) (v : View S A R) (found : ℕ) (given : Me (Contents S) (View S A R)) → 2 ≤ length v.seats.readers →
    GetsNumber m st (newcomer v, []) found given → IsPass m (show given.0)
given_pass m st v found given places gets =
    let one = one_given v places in
    rw gets.is (record {
      legal = gets.legal;
      stays = λ id c. absurd (none_listed id c);
      building = λ id c. absurd (none_listed id c);
      unanswered = λ _. refl;
      idle = λ _. refl;
      alone = λ all. absurd (omega (arith, one, all));
      most = omega arith;
    })
