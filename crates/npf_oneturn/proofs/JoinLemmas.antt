-- A pass that takes another in keeps the rule.
use Rattle.std.proofs.Common.{◌≡◌, ◌⊎◌, ℕ, ◌≤◌, true, false, true≢false, List, [], ◌∷◌, ◌++◌, length, map, set, refl, sym, ap, ◌∙◌, subst, ⊎_elim, inl, inr, arith, length-append}
use Rattle.std.{specs.List.Contains, proofs.lemmas.List.{map-set, Elements.{Contains-append_left, Contains-append_right, Contains-push}}}
use mathlib.Core.Option.{some}
use lib.ListN.{get_elem?}
use Rattle.atomic_table.{specs.Table.{Me, Step, Allows, Joins, keeps}, proofs.Lists.{at_map, set_else}}
use Rattle.npf_core.{specs.{History.{state_of, by}, Meaning.Meaning}, proofs.HistoryLemmas.Legal-prefix}
use Rattle.npf_connections.specs.{Joining.IsJoined, Pass.{IsPass, IsOwn, all_places}}
use Rattle.npf_seats.{specs.{Moves.taking_seat, Seats.Seats}, proofs.PrefixLemmas.{none_listed, none_in_prefix, seen_entry}}
use Rattle.npf_seats.proofs.SeatLemmas.{unspent, seats-join, long, mine_seen, told_seen, seats-read, only_seat, most_places}
use Rattle.npf_oneturn.specs.{declared.{contents.Contents.Contents, view.View.View}, Moves.{taker_in, spent_view, Learns}, Rule.{FitsRule, IsRuled}}
use Rattle.npf_oneturn.{specs.{Taking.IsResting, Views.{entry_seat, seat_of_view, one_if, crowd_of, show}}, proofs.Counts.{crowd-set, holder-set}}
use Rattle.npf_oneturn.proofs.ViewLemmas.{each-set, had-set, had_all, views_keep, load_keeps}

-- two seats are joined so
pub joins : {S A R : Type 0} (m : Meaning S A R) (slots id : ℕ) (v : View S A R) (other : ℕ) (w : View S A R) →
    v.seats.lives ≡ true → v.turn ≡ false → v.seats.theirs ≡ [] → 1 ≤ length v.seats.readers → w.seats.lives ≡ true → w.turn ≡ false → w.seats.theirs ≡ [] → w.entered ≡ false →
    Joins (IsRuled m slots) id v other w (taker_in v w) spent_view
joins {S} {A} {R} m slots id v other w lives turn settled place w-lives w-turn w-settled w-out s kept at apart there =
    let both : View S A R = taker_in v w in
    let gone : View S A R = spent_view in
    let first : List (View S A R) = set s.views id both in
    views_keep m slots s kept (set first other gone) crowd
    (had-set s.views first other gone refl (had-set s.views s.views id both turn (had_all s.views)))
    (λ held. holder-set first other w gone there w-turn (holder-set s.views id v both at turn held))
    (subst (λ sides. Seats entry_seat slots all_places kept.log sides) (sym (map-set seat_of_view first other gone ∙ ap (λ z. set z other gone.seats) (map-set seat_of_view s.views id both)))
    (seats-join entry_seat slots all_places kept.log (map seat_of_view s.views) id v.seats other w.seats 0 kept.seats
    (at_map seat_of_view s.views id v at) apart (at_map seat_of_view s.views other w was)
    lives settled place w-lives w-settled))
    (each-set (state_of m kept.log) first other gone gone_fits (each-set (state_of m kept.log) s.views id both both_fits kept.each))
  where
    was : get_elem? s.views other ≡ some w
    was = sym (set_else s.views id other (taker_in v w) apart) ∙ there

    crowd : crowd_of (set (set s.views id (taker_in v w)) other spent_view) ≡ crowd_of s.views
    crowd =
        let one = crowd-set s.views id v (taker_in v w) at in
        let two = crowd-set (set s.views id (taker_in v w)) other w spent_view there in
        let out = ap one_if w-out in
        omega (arith, one, two, out)

    both_fits : FitsRule (state_of m kept.log) (taker_in v w)
    both_fits =
        let fits = kept.each id v at in
        record {
          tidy = record { unanswered = fits.tidy.unanswered; idle = fits.tidy.idle; place = λ _. let has = length-append v.seats.readers w.seats.readers in omega (arith, has, place) };
          stays = λ l. let stays = fits.stays l in record { claimed = stays.claimed; built = stays.built };
        }

    gone_fits : FitsRule (state_of m kept.log) (spent_view {S = S} {A = A} {R = R})
    gone_fits = record {
      tidy = record { unanswered = λ _. refl; idle = λ _. refl; place = λ e. absurd (true≢false (sym e)) };
      stays = λ e. absurd (true≢false (sym e));
    }

-- a seat reads what it was told by a load
pub learns : {S A R : Type 0} (m : Meaning S A R) (slots : ℕ) (st : Step (Contents S)) (id n : ℕ) (me : Me (Contents S) (View S A R)) →
    me.0.seats.lives ≡ true → me.0.turn ≡ false → 1 ≤ length me.0.seats.readers → Allows (IsRuled m slots) n id me 0 (λ k. k) (Learns m st me)
learns {S} {A} {R} m slots st id n me lives turn place s kept homes at bound =
    let v = me.0 in
    let sides = map seat_of_view s.views in
    let there = at_map seat_of_view s.views id v at in
    let fits = kept.seats.each id v.seats there in
    let mine = kept.each id v at in
    let seated = fits.lives lives in
    let long = long entry_seat slots all_places kept.log sides id v.seats kept.seats there lives in
    let learned : View S A R = record v { seats = record v.seats { history = long.history; joined = v.seats.theirs ++ v.seats.joined; told = []; theirs = [] } } in (
      learned,
      keeps,
      tt,
      load_keeps m slots s kept id v learned me.1 at turn turn refl (seats-read entry_seat slots all_places kept.log sides id v.seats kept.seats there lives) (record {
        tidy = record { unanswered = mine.tidy.unanswered; idle = mine.tidy.idle; place = mine.tidy.place };
        stays = λ l. let stays = mine.stays l in record { claimed = stays.claimed; built = stays.built };
      }),
      record {
        history = long.history;
        is = refl;
        longer = long.longer;
        mine = long.mine;
        theirs = long.theirs;
        own = mine_seen entry_seat slots all_places kept.log sides id v.seats kept.seats there lives v.seats.number (rw seated.number seated.own);
        kept = λ i c. mine_seen entry_seat slots all_places kept.log sides id v.seats kept.seats there lives i (fits.joined i c).same;
        listed = λ i c. told_seen entry_seat slots all_places kept.log sides id v.seats kept.seats there lives i (fits.theirs i c).same;
        apart = λ i c e. unspent entry_seat slots all_places kept.log sides id i v.seats there place (fits.theirs i c).spent (e ∙ seated.number);
        legal = Legal-prefix m v.seats.about long.history kept.log long.within (rw (fits.sized place) kept.legal);
        most = most_places entry_seat slots all_places kept.log sides id v.seats kept.seats there lives;
        sole = λ all i. ⊎_elim
            (λ none. inl (none_in_prefix entry_seat i long.history kept.log long.within none))
            (λ seat. inr (⊎_elim (λ e. inl (e ∙ sym seated.number)) (λ c. inr c) (only_seat entry_seat slots all_places kept.log sides id v.seats kept.seats there lives all i seat)))
            (kept.seats.known i);
      },
    )

-- what a join leaves
module _ {S A R : Type 0} (m : Meaning S A R) (st : Step (Contents S)) (v w : View S A R) (rest' : List (ℕ × Contents S)) (found : ℕ) (next : Me (Contents S) (View S A R))
    (l : Learns m st (taker_in v w, rest') found next) where
  abbrev read_view : View S A R
  read_view = record (taker_in v w) { seats = record (taking_seat v.seats w.seats) { history = l.history; joined = (w.seats.number ∷ w.seats.joined) ++ v.seats.joined; told = []; theirs = [] } }

  view : next.0 ≡ read_view
  view = ap (λ (y : Me (Contents S) (View S A R)). y.0) l.is

  w_first : Contains (w.seats.number ∷ w.seats.joined) w.seats.number
  w_first = Contains-append_left (w.seats.number ∷ []) w.seats.joined w.seats.number (Contains-push [] w.seats.number)

  pub joined_so : w.seats.about ≡ v.seats.about → IsJoined (show v) (show w) (show next.0)
  joined_so tables = rw view (record {
    tables = tables;
    another = l.apart w.seats.number w_first;
    longer = l.longer;
    mine = l.mine;
    theirs = l.theirs;
    own = l.own;
    others = l.listed w.seats.number w_first;
    kept = l.kept;
    listed = λ n c. l.listed n (Contains-append_right (w.seats.number ∷ []) w.seats.joined n c);
    takes = rw (length-append v.seats.readers w.seats.readers) refl;
  })

  pub joined_pass : IsPass m (show v) → v.entered ≡ false → IsPass m (show next.0)
  joined_pass pass out =
      let sole : length (v.seats.readers ++ w.seats.readers) ≡ all_places → (n : ℕ) → (by n l.history ≡ []) ⊎ IsOwn (show read_view) n = rw view at l.sole in
      rw view (record {
        legal = l.legal;
        stays = λ id c. absurd (none_listed id (rw (pass.unanswered out) at c));
        building = λ id c. absurd (none_listed id (rw (pass.idle out) at c));
        unanswered = pass.unanswered;
        idle = pass.idle;
        alone = λ all e c. ⊎_elim (λ none. absurd (seen_entry entry_seat l.history e none c)) (λ own. own) (sole all e.seat);
        most = pass.most;
      })

  pub joined_rests : IsResting (v, rest') → IsResting next
  joined_rests rests =
      let has = length-append v.seats.readers w.seats.readers in
      let place = rests.place in
      rw l.is (record { free = rests.free; turn = rests.turn; lives = rests.lives; theirs = refl; place = omega (arith, has, place); most = l.most })
