-- The base's moves keep the rule, and what they leave in the passes.
use Rattle.std.specs.List.{Contains}
use Rattle.std.proofs.Common.{◌≡◌, ℕ, ◌-◌, ◌≤◌, true, false, List, [], ◌∷◌, ◌++◌, map, set, length, take, drop, None, refl, sym, ap, ◌∙◌, subst, arith, length-append}
use Rattle.std.{specs.Prelude.slice_index, proofs.lemmas.List.{length-drop, length-take-le, map-set, set-get_or}}
use Rattle.std.proofs.lemmas.List.Elements.{Contains-append_left, Contains-append_right, Contains-push}
use mathlib.Core.Option.{some}
use lib.ListN.{get_elem?}
use Rattle.atomic_table.{specs.Table.{State, Me, Step, stepped, Allows, Splits, Joins, keeps}, proofs.Lists.{at_map, set_else}}
use Rattle.npf_shelf.proofs.ListLemmas.{map-set_push, map-set_set}
use Rattle.npf_seats.specs.{declared.side.SeatSide.SeatSide, Moves.{given_seat, taking_seat}, Seats.Seats}
use Rattle.npf_seats.proofs.SeatLemmas.{unspent, seats-split, none_seen, seats-born, seats-join, long, mine_seen, told_seen, seats-read}
use Rattle.npf_reass.specs.{declared.{offer.{Gathered.Gathered, Offer.Offer, ReassSize.ReassSize}, view.ReassView.ReassView}, Class.offer_seat}
use Rattle.npf_reass.specs.{Gathering.{IsGathering, reass_seat}, Moves.{HasReadSight, IsBornPass, given_pass_view, gives_place, emptied_view, takes_pass_in}}
use Rattle.npf_reass.{specs.{Passes.view_sight, Sight.{JoinsSight, SplitsSight}}, proofs.TurnsLemmas.{turns-push, turns-set}}

-- the sides of views of which one changed
map_side : (views : List ReassView) (id : ℕ) (w : ReassView) → map reass_seat (set views id w) ≡ set (map reass_seat views) id w.seats
map_side views id w = map-set reass_seat views id w

module _ (size : ReassSize) where
  abbrev Sides : List Offer → List (SeatSide ReassSize Offer) → Type 0
  Sides log sides = Seats offer_seat size size.passes log sides

  -- a seat is split so
  pub splits : (id : ℕ) (v : ReassView) → v.seats.lives ≡ true → v.turn ≡ None → 2 ≤ length v.seats.readers
      → Splits (IsGathering size) id v (gives_place v) (given_pass_view v)
  splits id v lives rests places s kept at = record {
    log = kept.log;
    holder = kept.holder;
    seats = subst (Sides kept.log) (sym (map-set_push reass_seat s.views id (gives_place v) (given_pass_view v)))
        (seats-split offer_seat size size.passes kept.log (map reass_seat s.views) id v.seats kept.seats (at_map reass_seat s.views id v at) lives places);
    wide = kept.wide;
    home = kept.home;
    turns = turns-push size.classes s.words kept.log kept.holder (set s.views id (gives_place v)) (given_pass_view v) refl
        (turns-set size.classes s.words kept.log kept.holder s.views id v (gives_place v) at rests rests kept.turns);
  }

  -- two seats are joined so
  pub joins : (id : ℕ) (v : ReassView) (other : ℕ) (w : ReassView) → v.seats.lives ≡ true → v.seats.theirs ≡ [] → v.turn ≡ None → 1 ≤ length v.seats.readers
      → w.seats.lives ≡ true → w.seats.theirs ≡ [] → w.turn ≡ None → Joins (IsGathering size) id v other w (takes_pass_in v w) emptied_view
  joins id v other w lives theirs rests place w-lives w-theirs w-rests s kept at apart there =
      let was : get_elem? s.views other ≡ some w = sym (set_else s.views id other (takes_pass_in v w) apart) ∙ there in
      record {
        log = kept.log;
        holder = kept.holder;
        seats = subst (Sides kept.log) (sym (map-set_set reass_seat s.views id other (takes_pass_in v w) emptied_view))
            (seats-join offer_seat size size.passes kept.log (map reass_seat s.views) id v.seats other w.seats (record { classes = 0; passes = 0 }) kept.seats
            (at_map reass_seat s.views id v at) apart (at_map reass_seat s.views other w was) lives theirs place w-lives w-theirs);
        wide = kept.wide;
        home = kept.home;
        turns = turns-set size.classes s.words kept.log kept.holder (set s.views id (takes_pass_in v w)) other w emptied_view there w-rests refl
            (turns-set size.classes s.words kept.log kept.holder s.views id v (takes_pass_in v w) at rests rests kept.turns);
      }

  -- a load by a seat that has no turn, before and after it
  read_step : (s : State Gathered ReassView) (i id : ℕ) (carried : List (ℕ × Gathered)) (v w : ReassView) (kept : IsGathering size s) → get_elem? s.views id ≡ some v
      → v.turn ≡ None → w.turn ≡ None → Sides kept.log (map reass_seat (set s.views id w)) → IsGathering size (stepped s i (slice_index s.words i) id carried w keeps)
  read_step s i id carried v w kept at rests still sides =
      subst (λ (ws : List ℕ). IsGathering size (record { words = ws; homes = s.homes; views = set s.views id w })) (sym (set-get_or s.words i 0)) (record {
        log = kept.log;
        holder = kept.holder;
        seats = sides;
        wide = kept.wide;
        home = kept.home;
        turns = turns-set size.classes s.words kept.log kept.holder s.views id v w at rests still kept.turns;
      })

  -- a new seat gets its number by a load
  pub gets_born : (st : Step Gathered) (id n i : ℕ) (me : Me Gathered ReassView) → me.0.seats.lives ≡ false → me.0.turn ≡ None → 1 ≤ length me.0.seats.readers
      → Allows (IsGathering size) n id me i (λ k. k) (IsBornPass st me)
  gets_born st id n i me lives rests place s kept homes at bound =
      let v = me.0 in
      let there = at_map reass_seat s.views id v at in
      let fits = kept.seats.each id v.seats there in
      let next : ReassView = record v { seats = record v.seats { number = id; lives = true; others = [] } } in (
        next,
        keeps,
        tt,
        read_step s i id me.1 v next kept at rests rests
            (subst (Sides kept.log) (sym (map_side s.views id next))
            (seats-born offer_seat size size.passes kept.log (map reass_seat s.views) id v.seats kept.seats there lives place)),
        record {
          number = id;
          is = refl;
          apart = fits.others;
          unused = none_seen offer_seat size size.passes kept.log (map reass_seat s.views) id v.seats kept.seats there lives place;
        },
      )

  -- a seat reads what it was told by a load
  pub reads : (st : Step Gathered) (id n i : ℕ) (me : Me Gathered ReassView) → me.0.seats.lives ≡ true → me.0.turn ≡ None → 1 ≤ length me.0.seats.readers
      → Allows (IsGathering size) n id me i (λ k. k) (HasReadSight st me)
  reads st id n i me lives rests place s kept homes at bound =
      let v = me.0 in
      let sides = map reass_seat s.views in
      let there = at_map reass_seat s.views id v at in
      let fits = kept.seats.each id v.seats there in
      let seated = fits.lives lives in
      let long = long offer_seat size size.passes kept.log sides id v.seats kept.seats there lives in
      let next : ReassView = record v { seats = record v.seats { history = long.history; joined = v.seats.theirs ++ v.seats.joined; told = []; theirs = [] } } in (
        next,
        keeps,
        tt,
        read_step s i id me.1 v next kept at rests rests
            (subst (Sides kept.log) (sym (map_side s.views id next))
            (seats-read offer_seat size size.passes kept.log sides id v.seats kept.seats there lives)),
        record {
          history = long.history;
          is = refl;
          longer = long.longer;
          mine = long.mine;
          theirs = long.theirs;
          own = mine_seen offer_seat size size.passes kept.log sides id v.seats kept.seats there lives v.seats.number (rw seated.number seated.own);
          kept = λ j c. mine_seen offer_seat size size.passes kept.log sides id v.seats kept.seats there lives j (fits.joined j c).same;
          listed = λ j c. told_seen offer_seat size size.passes kept.log sides id v.seats kept.seats there lives j (fits.theirs j c).same;
          apart = λ j c e. unspent offer_seat size size.passes kept.log sides id j v.seats there place (fits.theirs j c).spent (e ∙ seated.number);
        },
      )

-- what a split leaves
pub split_so : (st : Step Gathered) (v : ReassView) (found : ℕ) (given : Me Gathered ReassView) → 2 ≤ length v.seats.readers
    → IsBornPass st (given_pass_view v, []) found given → SplitsSight (view_sight v) (view_sight (gives_place v)) (view_sight given.0)
split_so st v found given places born =
    let is : given.0 ≡ record (given_pass_view v) { seats = record (given_seat v.seats) { number = born.number; lives = true; others = [] } } = ap (λ y. y.0) born.is in
    let number : given.0.seats.number ≡ born.number = ap (λ (y : ReassView). y.seats.number) is in
    let kept : length (take (length v.seats.readers - 1) v.seats.readers) ≡ length v.seats.readers - 1 = length-take-le (length v.seats.readers - 1) v.seats.readers (omega arith) in
    let dropped : length (drop (length v.seats.readers - 1) v.seats.readers) ≡ 1 = (let d = length-drop (length v.seats.readers - 1) v.seats.readers in omega (arith, d, places)) in
    record {
      left = rw kept refl;
      another = λ e. born.apart v.seats.number (Contains-append_left (v.seats.number ∷ []) v.seats.joined v.seats.number (Contains-push [] v.seats.number)) (sym e ∙ number);
      unlisted = λ c. born.apart given.0.seats.number (Contains-append_right (v.seats.number ∷ []) v.seats.joined given.0.seats.number c) number;
      unused = rw number born.unused;
      gives = rw (is, dropped) refl;
    }

-- what a join leaves
module _ (st : Step Gathered) (v w : ReassView) (slots : List (ℕ × Gathered)) (found : ℕ) (next : Me Gathered ReassView) (l : HasReadSight st (takes_pass_in v w, slots) found next) where
  abbrev read_seat : ReassView
  read_seat = record (takes_pass_in v w) { seats = record (taking_seat v.seats w.seats) { history = l.history; joined = (w.seats.number ∷ w.seats.joined) ++ v.seats.joined; told = []; theirs = [] } }

  view : next.0 ≡ read_seat
  view = ap (λ (y : Me Gathered ReassView). y.0) l.is

  w_first : Contains (w.seats.number ∷ w.seats.joined) w.seats.number
  w_first = Contains-append_left (w.seats.number ∷ []) w.seats.joined w.seats.number (Contains-push [] w.seats.number)

  pub joined_so : JoinsSight (view_sight v) (view_sight w) (view_sight next.0)
  joined_so = rw view (record {
    another = l.apart w.seats.number w_first;
    longer = l.longer;
    mine = l.mine;
    theirs = l.theirs;
    own = l.own;
    others = l.listed w.seats.number w_first;
    kept = l.kept;
    listed = λ n c. l.listed n (Contains-append_right (w.seats.number ∷ []) w.seats.joined n c);
    takes = rw (length-append v.seats.readers w.seats.readers) refl;
  })
