-- The part on seats stays through the base's moves.
use Rattle.std.specs.List.{Contains}
use Rattle.std.proofs.Common.{◌≡◌, ◌≢◌, ◌⊎◌, ℕ, zero, suc, ◌+◌, ◌-◌, ◌<◌, ◌≤◌, true, false, true≢false, List, [], ◌∷◌, ◌++◌, set, length, sum_by, refl}
use Rattle.std.proofs.{Common.{sym, ap, ◌∙◌, subst, ⊎_elim, inl, inr, arith, append-nil, length-set, length-append}, lemmas.Bool.cases_eq}
use Rattle.std.proofs.lemmas.List.{length-drop, length-take-le, Elements.{Contains-append_cases, Contains-append_left, Contains-append_right, Contains-push}}
use Rattle.std.proofs.lemmas.List.Sums.{sum_by-append, sum_by-cons, sum_by_push, sum_by-take-drop}
use mathlib.Core.Option.{some, some-injective, some-ne-none}
use lib.ListN.{get_elem?}
use Rattle.atomic_table.proofs.Lists.{at_set, set_else, at_longer}
use Rattle.npf_core.{specs.History.IsPrefix, proofs.HistoryLemmas.{IsPrefix-self, IsPrefix-append, IsPrefix-trans}}
use Rattle.npf_seats.specs.{declared.side.SeatSide.SeatSide, Moves.{first_seat, givers_seat, given_seat, taking_seat, spent_seat}}
use Rattle.npf_seats.specs.Seats.{by_seat, IsSpentSeat, IsWhollySeen, FitsSeats, AnswersFor, HasSeat, Seats, owners, places_owned}
use Rattle.npf_seats.specs.{SeatsLaw.{OwnsPlaceAlone, AnswersForAll}, Sums.occurs}
use Rattle.npf_seats.proofs.PrefixLemmas.{by_seat-append, none_listed, cons_cases, prefix_of_none, none_in_prefix, not_of, between_same, Longer, longer_of}
use Rattle.npf_seats.proofs.SumLemmas.{sum-set, one_of_sum, two_of_sum, set_there, one_there, there_within, there_pushed}

pub cases_lt : (a b : ℕ) → (a < b) ⊎ (b ≤ a)
cases_lt a zero = inr (omega arith)
cases_lt zero (suc b) = inl (omega arith)
cases_lt (suc a) (suc b) = ⊎_elim (λ (h : a < b). inl (omega (arith, h))) (λ (h : b ≤ a). inr (omega (arith, h))) (cases_lt a b)

-- the first seat, alone, keeps the part, where it owns each place once
module _ {K E : Type 0} (seat_of : E → ℕ) (about : K) (all : ℕ) (readers : List ℕ) where
  abbrev opener : SeatSide K E
  opener = first_seat about readers

  opener_fits : FitsSeats seat_of about (opener ∷ []) [] 0 opener
  opener_fits = record {
    sized = λ _. refl;
    others = λ n c. absurd (none_listed n c);
    seen = prefix_of_none [];
    told = prefix_of_none [];
    unborn = λ e. absurd (true≢false e);
    lives = λ _. record { number = refl; own = refl };
    joined = λ n c. absurd (none_listed n c);
    theirs = λ n c. absurd (none_listed n c);
  }

  pub seats-first : ((reader : ℕ) → reader < all → occurs reader readers ≡ 1) → ((reader : ℕ) → all ≤ reader → occurs reader readers ≡ 0) →
      length readers ≡ all → Seats seat_of about all [] (opener ∷ [])
  seats-first once never long = record {
    each = each;
    owned = λ reader h. let a = single (λ (u : SeatSide K E). occurs reader u.readers) in let b = once reader h in omega (arith, a, b);
    beyond = λ reader h. let a = single (λ (u : SeatSide K E). occurs reader u.readers) in let b = never reader h in omega (arith, a, b);
    total = let a = single (λ (u : SeatSide K E). length u.readers) in omega (arith, a, long);
    known = λ n. inl refl;
  }
    where
      single : (f : SeatSide K E → ℕ) → sum_by f (opener ∷ []) ≡ f opener
      single f = let a = sum_by-cons f opener [] in omega (arith, a)

      each : (j : ℕ) (v : SeatSide K E) → get_elem? (opener ∷ []) j ≡ some v → FitsSeats seat_of about (opener ∷ []) [] j v
      each zero v e = subst (λ (u : SeatSide K E). FitsSeats seat_of about (opener ∷ []) [] 0 u) (some-injective _ _ e) opener_fits
      each (suc j) v e = absurd (some-ne-none v (sym e))

module _ {K E : Type 0} (seat_of : E → ℕ) (about : K) (all : ℕ) (log : List E) where
  -- a seat fits among others where what is spent stays so
  pub fits-others : (sides other : List (SeatSide K E)) (j : ℕ) (v : SeatSide K E) →
      ((n : ℕ) → IsSpentSeat sides n → IsSpentSeat other n) → FitsSeats seat_of about sides log j v → FitsSeats seat_of about other log j v
  fits-others sides other j v spent fits = record {
    sized = fits.sized;
    others = fits.others;
    seen = fits.seen;
    told = fits.told;
    unborn = fits.unborn;
    lives = fits.lives;
    joined = λ n c. record { same = (fits.joined n c).same; spent = spent n (fits.joined n c).spent };
    theirs = λ n c. record { same = (fits.theirs n c).same; spent = spent n (fits.theirs n c).spent };
  }

  pub spent-set : (sides : List (SeatSide K E)) (j n : ℕ) (v w : SeatSide K E) → get_elem? sides j ≡ some v → (length v.readers ≡ 0 → length w.readers ≡ 0) →
      IsSpentSeat sides n → IsSpentSeat (set sides j w) n
  spent-set sides j n v w e none spent = ⊎_elim
      (λ (h : n ≡ j).
      let mine : spent.side ≡ v = one_there sides j n v spent.side e spent.there h in
      record { side = w; there = ap (λ i. get_elem? (set sides j w) i) h ∙ set_there sides j v w e; none = none (ap (λ (u : SeatSide K E). length u.readers) (sym mine) ∙ spent.none) })
      (λ (ne : n ≢ j). record { side = spent.side; there = set_else sides j n w ne ∙ spent.there; none = spent.none })
      (cases_eq n j)

  pub spent-push : (sides : List (SeatSide K E)) (w : SeatSide K E) (n : ℕ) → IsSpentSeat sides n → IsSpentSeat (sides ++ w ∷ []) n
  spent-push sides w n spent = record { side = spent.side; there = at_longer sides (w ∷ []) n spent.side spent.there; none = spent.none }

  -- a seat that owns a place isn't spent
  pub unspent : (sides : List (SeatSide K E)) (j n : ℕ) (v : SeatSide K E) → get_elem? sides j ≡ some v → 1 ≤ length v.readers → IsSpentSeat sides n → n ≢ j
  unspent sides j n v e place spent h =
      let mine : length spent.side.readers ≡ length v.readers = ap (λ (u : SeatSide K E). length u.readers) (one_there sides j n v spent.side e spent.there h) in
      absurd (omega (arith, mine, place, spent.none))

  -- who answers for a number stays where a seat changes that keeps a place and its numbers
  pub seat-set : (sides : List (SeatSide K E)) (j n : ℕ) (v w : SeatSide K E) → get_elem? sides j ≡ some v → (1 ≤ length v.readers → 1 ≤ length w.readers) →
      (AnswersFor j v n → AnswersFor j w n) → HasSeat sides n → HasSeat (set sides j w) n
  seat-set sides j n v w e place answers has = ⊎_elim
      (λ (h : has.seat ≡ j).
      let mine : has.side ≡ v = one_there sides j has.seat v has.side e has.there h in
      record {
        seat = j;
        side = w;
        there = set_there sides j v w e;
        place = place (rw mine at has.place);
        answers = answers (rw (mine, h) at has.answers);
      })
      (λ (ne : has.seat ≢ j). record {
        seat = has.seat;
        side = has.side;
        there = set_else sides j has.seat w ne ∙ has.there;
        place = has.place;
        answers = has.answers;
      })
      (cases_eq has.seat j)

  pub seat-push : (sides : List (SeatSide K E)) (w : SeatSide K E) (n : ℕ) → HasSeat sides n → HasSeat (sides ++ w ∷ []) n
  seat-push sides w n has = record {
    seat = has.seat;
    side = has.side;
    there = at_longer sides (w ∷ []) has.seat has.side has.there;
    place = has.place;
    answers = has.answers;
  }

  -- the sums of what the seats own
  abbrev OwnSame : List (SeatSide K E) → List (SeatSide K E) → Type 0
  OwnSame sides other = ((reader : ℕ) → owners reader other ≡ owners reader sides) × (places_owned other ≡ places_owned sides)

  -- the part from what it says of each seat, where the places' owners stay
  owned_so : (sides other : List (SeatSide K E)) → Seats seat_of about all log sides → OwnSame sides other →
      ((j : ℕ) (u : SeatSide K E) → get_elem? other j ≡ some u → FitsSeats seat_of about other log j u) → ((n : ℕ) → HasSeat sides n → HasSeat other n) → Seats seat_of about all log other
  owned_so sides other kept own each known = record {
    each = each;
    owned = λ reader h. own.0 reader ∙ kept.owned reader h;
    beyond = λ reader h. own.0 reader ∙ kept.beyond reader h;
    total = own.1 ∙ kept.total;
    known = λ n. ⊎_elim (λ none. inl none) (λ has. inr (known n has)) (kept.known n);
  }

  -- a change of one seat that leaves its places
  own-set : (sides : List (SeatSide K E)) (j : ℕ) (v w : SeatSide K E) → get_elem? sides j ≡ some v → w.readers ≡ v.readers → OwnSame sides (set sides j w)
  own-set sides j v w e same = (
    (λ reader.
        let more = sum-set (λ (u : SeatSide K E). occurs reader u.readers) sides j v w e in
        let one = ap (occurs reader) same in
        omega (arith, more, one)),
    (let more = sum-set (λ (u : SeatSide K E). length u.readers) sides j v w e in
        let one = ap (length {A = ℕ}) same in
        omega (arith, more, one)),
  )

  module _ (sides : List (SeatSide K E)) (id : ℕ) (v : SeatSide K E) (kept : Seats seat_of about all log sides) (at : get_elem? sides id ≡ some v)
      (lives : v.lives ≡ true) (places : 2 ≤ length v.readers) where
    abbrev left : SeatSide K E
    left = givers_seat v

    abbrev right : SeatSide K E
    right = given_seat v

    abbrev first : List (SeatSide K E)
    first = set sides id left

    abbrev after : List (SeatSide K E)
    after = first ++ right ∷ []

    fits : FitsSeats seat_of about sides log id v
    fits = kept.each id v at

    left_has : length left.readers ≡ length v.readers - 1
    left_has = length-take-le (length v.readers - 1) v.readers (omega arith)

    count : length first ≡ length sides
    count = length-set sides id left

    still_spent : (n : ℕ) → IsSpentSeat sides n → IsSpentSeat after n
    still_spent n spent = spent-push first right n (spent-set sides id n v left at (λ none. absurd (omega (arith, none, places))) spent)

    spent_within : (n : ℕ) → IsSpentSeat sides n → n ≢ length first
    spent_within n spent e = let below = there_within sides n spent.side spent.there in absurd (omega (arith, below, e, count))

    unknown : by_seat seat_of (length first) log ≡ []
    unknown = ⊎_elim (λ none. none) (λ has. absurd (no_seat has)) (kept.known (length first))
      where
        no_seat : HasSeat sides (length first) → ⊥
        no_seat has =
            let theirs = kept.each has.seat has.side has.there in
            ⊎_elim
            (λ (e : length first ≡ has.seat). let below = there_within sides has.seat has.side has.there in omega (arith, below, e, count))
            (λ (c : Contains (has.side.theirs ++ has.side.joined) (length first)). ⊎_elim
            (λ d. spent_within (length first) (theirs.theirs (length first) d).spent refl)
            (λ d. spent_within (length first) (theirs.joined (length first) d).spent refl)
            (Contains-append_cases has.side.theirs has.side.joined (length first) c))
            has.answers

    left_fits : FitsSeats seat_of about after log id left
    left_fits = record {
      sized = λ _. fits.sized (omega (arith, places));
      others = fits.others;
      seen = fits.seen;
      told = fits.told;
      unborn = λ no. absurd (true≢false (sym lives ∙ no));
      lives = λ l. let seated = fits.lives l in record { number = seated.number; own = seated.own };
      joined = λ n c. record { same = (fits.joined n c).same; spent = still_spent n (fits.joined n c).spent };
      theirs = λ n c. record { same = (fits.theirs n c).same; spent = still_spent n (fits.theirs n c).spent };
    }

    not_mine : (n : ℕ) → Contains (v.number ∷ v.joined) n → n ≢ length first
    not_mine n c = ⊎_elim
        (λ (e : v.number ≡ n). λ h. let below = there_within sides id v at in absurd (omega (arith, below, h, e, (fits.lives lives).number, count)))
        (λ (d : Contains v.joined n). spent_within n (fits.joined n d).spent)
        (cons_cases v.number n v.joined c)

    right_fits : FitsSeats seat_of about after log (length first) right
    right_fits = record {
      sized = λ _. fits.sized (omega (arith, places));
      others = not_mine;
      seen = fits.seen;
      told = prefix_of_none log;
      unborn = λ _ _. unknown;
      lives = λ e. absurd (true≢false (sym e));
      joined = λ n c. absurd (none_listed n c);
      theirs = λ n c. absurd (none_listed n c);
    }

    own_same : OwnSame sides after
    own_same = (
      (λ reader. shared (λ (u : SeatSide K E). occurs reader u.readers) (sum_by-take-drop _ v.readers (length v.readers - 1))),
      shared (λ (u : SeatSide K E). length u.readers) (let dropped = length-drop (length v.readers - 1) v.readers in omega (arith, left_has, dropped, places)),
    )
      where
        shared : (f : SeatSide K E → ℕ) → f left + f right ≡ f v → sum_by f after ≡ sum_by f sides
        shared f parts =
            let one = sum-set f sides id v left at in
            let two = sum_by_push f first right in
            omega (arith, one, two, parts)

    pub seats-split : Seats seat_of about all log after
    seats-split = owned_so sides after kept own_same
        (λ j u e. ⊎_elim
        (λ (there : get_elem? first j ≡ some u). ⊎_elim
        (λ (x : (j ≡ id) × (left ≡ u)). subst (λ (y : ℕ × SeatSide K E). FitsSeats seat_of about after log y.0 y.1) (λ i. (sym x.0 i, x.1 i)) left_fits)
        (λ (x : (j ≢ id) × (get_elem? sides j ≡ some u)). fits-others sides after j u still_spent (kept.each j u x.1))
        (at_set sides id j left u there))
        (λ (x : (j ≡ length first) × (right ≡ u)). subst (λ (y : ℕ × SeatSide K E). FitsSeats seat_of about after log y.0 y.1) (λ i. (sym x.0 i, x.1 i)) right_fits)
        (there_pushed first right u j e))
        (λ n has. seat-push first right n (seat-set sides id n v left at (λ _. omega (arith, left_has, places)) (λ o. o) has))

  module _ (sides : List (SeatSide K E)) (id : ℕ) (v : SeatSide K E) (kept : Seats seat_of about all log sides) (at : get_elem? sides id ≡ some v)
      (lives : v.lives ≡ false) (place : 1 ≤ length v.readers) where
    abbrev born : SeatSide K E
    born = record v { number = id; lives = true; others = [] }

    unborn : FitsSeats seat_of about sides log id v
    unborn = kept.each id v at

    none_yet : by_seat seat_of id log ≡ []
    none_yet = unborn.unborn lives place

    pub none_seen : by_seat seat_of id v.history ≡ []
    none_seen = none_in_prefix seat_of id v.history log unborn.seen none_yet

    spent_too : (n : ℕ) → IsSpentSeat sides n → IsSpentSeat (set sides id born) n
    spent_too n = spent-set sides id n v born at (λ none. none)

    born_fits : FitsSeats seat_of about (set sides id born) log id born
    born_fits = record {
      sized = unborn.sized;
      others = λ n c. absurd (none_listed n c);
      seen = unborn.seen;
      told = unborn.told;
      unborn = λ e. absurd (true≢false e);
      lives = λ _. record { number = refl; own = none_yet ∙ sym none_seen };
      joined = λ n c. record { same = (unborn.joined n c).same; spent = spent_too n (unborn.joined n c).spent };
      theirs = λ n c. record { same = (unborn.theirs n c).same; spent = spent_too n (unborn.theirs n c).spent };
    }

    pub seats-born : Seats seat_of about all log (set sides id born)
    seats-born = owned_so sides (set sides id born) kept (own-set sides id v born at refl)
        (λ j u e. ⊎_elim
        (λ (x : (j ≡ id) × (born ≡ u)). subst (λ (y : ℕ × SeatSide K E). FitsSeats seat_of about (set sides id born) log y.0 y.1) (λ i. (sym x.0 i, x.1 i)) born_fits)
        (λ (x : (j ≢ id) × (get_elem? sides j ≡ some u)). fits-others sides (set sides id born) j u spent_too (kept.each j u x.1))
        (at_set sides id j born u e))
        (λ n has. seat-set sides id n v born at (λ p. p) (λ o. o) has)

  module _ (sides : List (SeatSide K E)) (id : ℕ) (v : SeatSide K E) (other : ℕ) (w : SeatSide K E) (left : K)
      (kept : Seats seat_of about all log sides) (at : get_elem? sides id ≡ some v) (apart : other ≢ id) (there : get_elem? sides other ≡ some w)
      (lives : v.lives ≡ true) (settled : v.theirs ≡ []) (place : 1 ≤ length v.readers)
      (w-lives : w.lives ≡ true) (w-settled : w.theirs ≡ []) where
    abbrev both : SeatSide K E
    both = taking_seat v w

    abbrev gone : SeatSide K E
    gone = spent_seat left

    abbrev widened : List (SeatSide K E)
    widened = set sides id both

    abbrev merged : List (SeatSide K E)
    merged = set widened other gone

    mine : FitsSeats seat_of about sides log id v
    mine = kept.each id v at

    theirs : FitsSeats seat_of about sides log other w
    theirs = kept.each other w there

    has : length both.readers ≡ length v.readers + length w.readers
    has = length-append v.readers w.readers

    still_there : get_elem? widened other ≡ some w
    still_there = set_else sides id other both apart ∙ there

    at_both : get_elem? merged id ≡ some both
    at_both = set_else widened other id gone (λ e. apart (sym e)) ∙ set_there sides id v both at

    spent_on : (n : ℕ) → IsSpentSeat sides n → IsSpentSeat merged n
    spent_on n spent = spent-set widened other n w gone still_there (λ none. refl) (spent-set sides id n v both at (λ none. absurd (omega (arith, none, place))) spent)

    now_spent : IsSpentSeat merged other
    now_spent = record { side = gone; there = set_there widened other w gone still_there; none = refl }

    theirs_listed : (n : ℕ) → Contains (w.number ∷ w.joined) n → IsWhollySeen seat_of merged log w.history n
    theirs_listed n c = ⊎_elim
        (λ (e : w.number ≡ n).
        let seated = theirs.lives w-lives in
        let same : other ≡ n = sym seated.number ∙ e in
        subst (λ i. IsWhollySeen seat_of merged log w.history i) same (record { same = seated.own; spent = now_spent }))
        (λ (d : Contains w.joined n). record { same = (theirs.joined n d).same; spent = spent_on n (theirs.joined n d).spent })
        (cons_cases w.number n w.joined c)

    both_fits : FitsSeats seat_of about merged log id both
    both_fits = record {
      sized = λ _. mine.sized place;
      others = mine.others;
      seen = mine.seen;
      told = theirs.seen;
      unborn = λ no. absurd (true≢false (sym lives ∙ no));
      lives = λ l. let seated = mine.lives l in record { number = seated.number; own = seated.own };
      joined = λ n c. record { same = (mine.joined n c).same; spent = spent_on n (mine.joined n c).spent };
      theirs = theirs_listed;
    }

    gone_fits : FitsSeats seat_of about merged log other gone
    gone_fits = record {
      sized = λ h. absurd (omega (arith, h));
      others = λ n c. absurd (none_listed n c);
      seen = prefix_of_none log;
      told = prefix_of_none log;
      unborn = λ _ h. absurd (omega (arith, h));
      lives = λ e. absurd (true≢false (sym e));
      joined = λ n c. absurd (none_listed n c);
      theirs = λ n c. absurd (none_listed n c);
    }

    owns_on : OwnSame sides merged
    owns_on = (
      (λ reader. shared (λ (u : SeatSide K E). occurs reader u.readers) (sum_by-append _ v.readers w.readers) refl),
      shared (λ (u : SeatSide K E). length u.readers) has refl,
    )
      where
        shared : (f : SeatSide K E → ℕ) → f both ≡ f v + f w → f gone ≡ 0 → sum_by f merged ≡ sum_by f sides
        shared f parts none =
            let one = sum-set f sides id v both at in
            let two = sum-set f widened other w gone still_there in
            omega (arith, one, two, parts, none)

    moved : (n : ℕ) → HasSeat sides n → HasSeat merged n
    moved n seat = ⊎_elim
        (λ (e : seat.seat ≡ other).
        let same : seat.side ≡ w = one_there sides other seat.seat w seat.side there seat.there e in
        let answers : AnswersFor other w n = rw (same, e) at seat.answers in
        record { seat = id; side = both; there = at_both; place = omega (arith, place, has); answers = inr (handed answers) })
        (λ (ne : seat.seat ≢ other). ⊎_elim
        (λ (e : seat.seat ≡ id).
        let same : seat.side ≡ v = one_there sides id seat.seat v seat.side at seat.there e in
        let answers : AnswersFor id v n = rw (same, e) at seat.answers in
        record { seat = id; side = both; there = at_both; place = omega (arith, place, has); answers = kept_own answers })
        (λ (no : seat.seat ≢ id). record {
          seat = seat.seat;
          side = seat.side;
          there = set_else widened other seat.seat gone ne ∙ (set_else sides id seat.seat both no ∙ seat.there);
          place = seat.place;
          answers = seat.answers;
        })
        (cases_eq seat.seat id))
        (cases_eq seat.seat other)
      where
        handed : AnswersFor other w n → Contains ((w.number ∷ w.joined) ++ v.joined) n
        handed answers = Contains-append_left (w.number ∷ w.joined) v.joined n
            (⊎_elim
            (λ (e : n ≡ other).
            let is : w.number ≡ n = (theirs.lives w-lives).number ∙ sym e in
            subst (λ i. Contains (w.number ∷ w.joined) i) is (Contains-append_left (w.number ∷ []) w.joined w.number (Contains-push [] w.number)))
            (λ (c : Contains (w.theirs ++ w.joined) n). Contains-append_right (w.number ∷ []) w.joined n (rw w-settled at c))
            answers)

        kept_own : AnswersFor id v n → AnswersFor id both n
        kept_own answers = ⊎_elim (λ e. inl e) (λ (c : Contains (v.theirs ++ v.joined) n). inr (Contains-append_right (w.number ∷ w.joined) v.joined n (rw settled at c))) answers

    pub seats-join : Seats seat_of about all log merged
    seats-join = owned_so sides merged kept owns_on
        (λ j u e. ⊎_elim
        (λ (x : (j ≡ other) × (gone ≡ u)). subst (λ (y : ℕ × SeatSide K E). FitsSeats seat_of about merged log y.0 y.1) (λ i. (sym x.0 i, x.1 i)) gone_fits)
        (λ (x : (j ≢ other) × (get_elem? widened j ≡ some u)). ⊎_elim
        (λ (y : (j ≡ id) × (both ≡ u)). subst (λ (z : ℕ × SeatSide K E). FitsSeats seat_of about merged log z.0 z.1) (λ i. (sym y.0 i, y.1 i)) both_fits)
        (λ (y : (j ≢ id) × (get_elem? sides j ≡ some u)). fits-others sides merged j u spent_on (kept.each j u y.1))
        (at_set sides id j both u x.1))
        (at_set widened other j gone u e))
        moved

  module _ (sides : List (SeatSide K E)) (id : ℕ) (v : SeatSide K E) (kept : Seats seat_of about all log sides) (at : get_elem? sides id ≡ some v)
      (lives : v.lives ≡ true) where
    my_fits : FitsSeats seat_of about sides log id v
    my_fits = kept.each id v at

    pub long : Longer v.history v.told log
    long = longer_of v.history v.told log my_fits.seen my_fits.told

    abbrev learned : SeatSide K E
    learned = record v { history = long.history; joined = v.theirs ++ v.joined; told = []; theirs = [] }

    spent_still : (n : ℕ) → IsSpentSeat sides n → IsSpentSeat (set sides id learned) n
    spent_still n = spent-set sides id n v learned at (λ none. none)

    pub mine_seen : (n : ℕ) → by_seat seat_of n log ≡ by_seat seat_of n v.history → by_seat seat_of n long.history ≡ by_seat seat_of n v.history
    mine_seen n same = between_same seat_of n v.history long.history log long.mine long.within same

    pub told_seen : (n : ℕ) → by_seat seat_of n log ≡ by_seat seat_of n v.told → by_seat seat_of n long.history ≡ by_seat seat_of n v.told
    told_seen n same = between_same seat_of n v.told long.history log long.theirs long.within same

    learned_fits : FitsSeats seat_of about (set sides id learned) log id learned
    learned_fits = record {
      sized = my_fits.sized;
      others = my_fits.others;
      seen = long.within;
      told = prefix_of_none log;
      unborn = λ no. absurd (true≢false (sym lives ∙ no));
      lives = λ l. let seated = my_fits.lives l in record { number = seated.number; own = seated.own ∙ sym (mine_seen id seated.own) };
      joined = λ n c. ⊎_elim
          (λ d. let l = my_fits.theirs n d in record { same = l.same ∙ sym (told_seen n l.same); spent = spent_still n l.spent })
          (λ d. let l = my_fits.joined n d in record { same = l.same ∙ sym (mine_seen n l.same); spent = spent_still n l.spent })
          (Contains-append_cases v.theirs v.joined n c);
      theirs = λ n c. absurd (none_listed n c);
    }

    pub seats-read : Seats seat_of about all log (set sides id learned)
    seats-read = owned_so sides (set sides id learned) kept (own-set sides id v learned at refl)
        (λ j u e. ⊎_elim
        (λ (x : (j ≡ id) × (learned ≡ u)). subst (λ (y : ℕ × SeatSide K E). FitsSeats seat_of about (set sides id learned) log y.0 y.1) (λ i. (sym x.0 i, x.1 i)) learned_fits)
        (λ (x : (j ≢ id) × (get_elem? sides j ≡ some u)). fits-others sides (set sides id learned) j u spent_still (kept.each j u x.1))
        (at_set sides id j learned u e))
        (λ n seat. seat-set sides id n v learned at (λ p. p) (λ o. o) seat)

    -- who owns all reader places answers for every number
    pub only_seat : length v.readers ≡ all → (n : ℕ) → HasSeat sides n → AnswersFor id v n
    only_seat all n seat = ⊎_elim
        (λ (h : seat.seat ≡ id).
        let same : seat.side ≡ v = one_there sides id seat.seat v seat.side at seat.there h in
        rw (same, h) at seat.answers)
        (λ (ne : seat.seat ≢ id).
        let two = two_of_sum (λ (u : SeatSide K E). length u.readers) sides id seat.seat v seat.side at seat.there (λ h. ne (sym h)) in
        absurd (omega (arith, two, seat.place, all, kept.total)))
        (cases_eq seat.seat id)

    pub most_places : length v.readers ≤ all
    most_places = let one = one_of_sum (λ (u : SeatSide K E). length u.readers) sides id v at in omega (arith, one, kept.total)

  -- a seat adds entries of its own, and has then seen all
  module _ (sides : List (SeatSide K E)) (id : ℕ) (v : SeatSide K E) (kept : Seats seat_of about all log sides) (at : get_elem? sides id ≡ some v)
      (lives : v.lives ≡ true) (place : 1 ≤ length v.readers) (added : List E) (alone : (n : ℕ) → n ≢ id → by_seat seat_of n added ≡ []) where
    abbrev longer : List E
    longer = log ++ added

    abbrev adding : SeatSide K E
    adding = record v { history = longer }

    its_fits : FitsSeats seat_of about sides log id v
    its_fits = kept.each id v at

    -- no other number has more entries by it
    others_none : (n : ℕ) → n ≢ id → by_seat seat_of n longer ≡ by_seat seat_of n log
    others_none n ne = by_seat-append seat_of n log added ∙ (ap (λ es. by_seat seat_of n log ++ es) (alone n ne) ∙ append-nil (by_seat seat_of n log))

    spent_yet : (n : ℕ) → IsSpentSeat sides n → IsSpentSeat (set sides id adding) n
    spent_yet n = spent-set sides id n v adding at (λ none. none)

    seen_yet : (seen : List E) (n : ℕ) → IsWhollySeen seat_of sides log seen n → IsWhollySeen seat_of (set sides id adding) longer seen n
    seen_yet seen n whole = record { same = others_none n (unspent sides id n v at place whole.spent) ∙ whole.same; spent = spent_yet n whole.spent }

    goes_on : IsPrefix log longer
    goes_on = IsPrefix-append log added

    adding_fits : FitsSeats seat_of about (set sides id adding) longer id adding
    adding_fits = record {
      sized = its_fits.sized;
      others = its_fits.others;
      seen = IsPrefix-self longer;
      told = IsPrefix-trans v.told log longer its_fits.told goes_on;
      unborn = λ no. absurd (true≢false (sym lives ∙ no));
      lives = λ l. record { number = (its_fits.lives l).number; own = refl };
      joined = λ n c. record { same = refl; spent = spent_yet n (its_fits.joined n c).spent };
      theirs = λ n c. seen_yet v.told n (its_fits.theirs n c);
    }

    other_fits : (j : ℕ) (u : SeatSide K E) → j ≢ id → FitsSeats seat_of about sides log j u → FitsSeats seat_of about (set sides id adding) longer j u
    other_fits j u ne fits = record {
      sized = fits.sized;
      others = fits.others;
      seen = IsPrefix-trans u.history log longer fits.seen goes_on;
      told = IsPrefix-trans u.told log longer fits.told goes_on;
      unborn = λ no owns. others_none j ne ∙ fits.unborn no owns;
      lives = λ l. record { number = (fits.lives l).number; own = others_none j ne ∙ (fits.lives l).own };
      joined = λ n c. seen_yet u.history n (fits.joined n c);
      theirs = λ n c. seen_yet u.told n (fits.theirs n c);
    }

    pub seats-adds-all : Seats seat_of about all longer (set sides id adding)
    seats-adds-all =
        let own = own-set sides id v adding at refl in
        record {
          each = λ j u e. ⊎_elim
              (λ (x : (j ≡ id) × (adding ≡ u)). subst (λ (y : ℕ × SeatSide K E). FitsSeats seat_of about (set sides id adding) longer y.0 y.1) (λ i. (sym x.0 i, x.1 i)) adding_fits)
              (λ (x : (j ≢ id) × (get_elem? sides j ≡ some u)). other_fits j u x.0 (kept.each j u x.1))
              (at_set sides id j adding u e);
          owned = λ reader h. own.0 reader ∙ kept.owned reader h;
          beyond = λ reader h. own.0 reader ∙ kept.beyond reader h;
          total = own.1 ∙ kept.total;
          known = λ n. ⊎_elim
              (λ (e : n ≡ id). inr (record { seat = id; side = adding; there = set_there sides id v adding at; place = place; answers = inl e }))
              (λ (ne : n ≢ id). ⊎_elim (λ none. inl (others_none n ne ∙ none)) (λ has. inr (seat-set sides id n v adding at (λ p. p) (λ o. o) has)) (kept.known n))
              (cases_eq n id);
        }

  -- a seat adds one entry of its own
  pub seats-adds : (sides : List (SeatSide K E)) (id : ℕ) (v : SeatSide K E) → Seats seat_of about all log sides → get_elem? sides id ≡ some v → v.lives ≡ true → 1 ≤ length v.readers →
      (entry : E) → seat_of entry ≡ id → Seats seat_of about all (log ++ entry ∷ []) (set sides id (record v { history = log ++ entry ∷ [] }))
  seats-adds sides id v kept at lives place entry mine = seats-adds-all sides id v kept at lives place (entry ∷ []) (λ n ne. not_of seat_of n entry (λ e. ne (sym e ∙ mine)))

  -- a seat sees all that was added, and adds nothing
  module _ (sides : List (SeatSide K E)) (id : ℕ) (v : SeatSide K E) (kept : Seats seat_of about all log sides) (at : get_elem? sides id ≡ some v)
      (lives : v.lives ≡ true) where
    abbrev seeing : SeatSide K E
    seeing = record v { history = log }

    saw_fits : FitsSeats seat_of about sides log id v
    saw_fits = kept.each id v at

    spent_on_sight : (n : ℕ) → IsSpentSeat sides n → IsSpentSeat (set sides id seeing) n
    spent_on_sight n = spent-set sides id n v seeing at (λ none. none)

    seeing_fits : FitsSeats seat_of about (set sides id seeing) log id seeing
    seeing_fits = record {
      sized = saw_fits.sized;
      others = saw_fits.others;
      seen = IsPrefix-self log;
      told = saw_fits.told;
      unborn = λ no. absurd (true≢false (sym lives ∙ no));
      lives = λ l. record { number = (saw_fits.lives l).number; own = refl };
      joined = λ n c. record { same = refl; spent = spent_on_sight n (saw_fits.joined n c).spent };
      theirs = λ n c. record { same = (saw_fits.theirs n c).same; spent = spent_on_sight n (saw_fits.theirs n c).spent };
    }

    pub seats-sees : Seats seat_of about all log (set sides id seeing)
    seats-sees = owned_so sides (set sides id seeing) kept (own-set sides id v seeing at refl)
        (λ j u e. ⊎_elim
        (λ (x : (j ≡ id) × (seeing ≡ u)). subst (λ (y : ℕ × SeatSide K E). FitsSeats seat_of about (set sides id seeing) log y.0 y.1) (λ i. (sym x.0 i, x.1 i)) seeing_fits)
        (λ (x : (j ≢ id) × (get_elem? sides j ≡ some u)). fits-others sides (set sides id seeing) j u spent_on_sight (kept.each j u x.1))
        (at_set sides id j seeing u e))
        (λ n has. seat-set sides id n v seeing at (λ p. p) (λ o. o) has)

  -- a reader place has one owner at most, and it is one of the table's
  pub one_owner : (sides : List (SeatSide K E)) (i j reader : ℕ) (v w : SeatSide K E) → Seats seat_of about all log sides → get_elem? sides i ≡ some v → get_elem? sides j ≡ some w →
      i ≢ j → 1 ≤ occurs reader v.readers → 1 ≤ occurs reader w.readers → ⊥
  one_owner sides i j reader v w kept e d ne one two =
      let both = two_of_sum (λ (u : SeatSide K E). occurs reader u.readers) sides i j v w e d ne in
      ⊎_elim
      (λ (h : reader < all). let owned = kept.owned reader h in omega (arith, both, owned, one, two))
      (λ (h : all ≤ reader). let none = kept.beyond reader h in omega (arith, both, none, one, two))
      (cases_lt reader all)

  pub owned_within : (sides : List (SeatSide K E)) (j reader : ℕ) (v : SeatSide K E) → Seats seat_of about all log sides → get_elem? sides j ≡ some v →
      1 ≤ occurs reader v.readers → reader < all
  owned_within sides j reader v kept e one = ⊎_elim
      (λ h. h)
      (λ (h : all ≤ reader).
      let none = kept.beyond reader h in
      let mine = one_of_sum (λ (u : SeatSide K E). occurs reader u.readers) sides j v e in
      absurd (omega (arith, none, mine, one)))
      (cases_lt reader all)

pub owns_place_alone : {K E : Type 0} (seat_of : E → ℕ) (about : K) (all : ℕ) (log : List E) (sides : List (SeatSide K E)) → OwnsPlaceAlone seat_of about all log sides
owns_place_alone seat_of about all log sides i j place v w kept e d one two = ⊎_elim
    (λ same. same)
    (λ ne. absurd (one_owner seat_of about all log sides i j place v w kept e d ne one two))
    (cases_eq i j)

pub answers_for_all : {K E : Type 0} (seat_of : E → ℕ) (about : K) (all : ℕ) (log : List E) (sides : List (SeatSide K E)) → AnswersForAll seat_of about all log sides
answers_for_all seat_of about all log sides j n v kept at lives whole = ⊎_elim (λ none. inl none) (λ has. inr (only_seat seat_of about all log sides j v kept at lives whole n has)) (kept.known n)
