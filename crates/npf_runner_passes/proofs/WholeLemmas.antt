-- Passes that are taken in one after the other.
use Rattle.std.proofs.Common.{◌≡◌, ◌⊎◌, ℕ, ◌≤◌, ◌+◌, max, List, [], ◌∷◌, ◌++◌, All, length, sum, refl, sym, ap, subst, ◌∙◌, ⊎_elim, inl, inr, arith}
use Rattle.std.{specs.List.Contains, proofs.lemmas.List.{append_assoc, Sums.sum_by-cons}}
use Rattle.std.proofs.lemmas.List.Elements.{All-nil, All-cons, All-head, All-tail, Contains-append_right}
use Rattle.npf_shelf.proofs.ListLemmas.{Contains-first, Contains-later, Contains-nil, Contains-cons_cases}
use Rattle.npf_core.{specs.{declared.entry.Entry.Entry, History.by, Meaning.Meaning}, proofs.HistoryLemmas.{IsPrefix-self, IsPrefix-trans}}
use Rattle.npf_connections.specs.{Joining.IsJoined, Pass.{Pass, IsOwn, all_places}}
use Rattle.npf_runner_passes.specs.Whole.{numbers, reader_places, sweep_counts, joined_after, greatest_epoch, with_others, IsTakenIn, Gathers, GathersAll}
use Rattle.npf_runner_passes.{specs.Parts.Spreads, proofs.NumberLemmas.{stands_by, none_added, kept_by}}

-- the pass took them in one by one
abbrev pub TakesIn : {S A R : Type 0} → Pass (Entry S A R) → List (Pass (Entry S A R)) → Pass (Entry S A R) → Type 0
TakesIn old [] now = old ≡ now
TakesIn {S} {A} {R} old (other ∷ others) now = (mid : Pass (Entry S A R)) × IsJoined old other mid × TakesIn mid others now

sum_first : (x : ℕ) (xs : List ℕ) → sum (x ∷ xs) ≡ x + sum xs
sum_first x xs = sum_by-cons (λ n. n) x xs

module _ {S A R : Type 0} where
  gathers_none : (old : Pass (Entry S A R)) → Gathers old old []
  gathers_none old =
      let places : old.places ≡ old.places + 0 = omega arith in
      let sweeps : old.sweeps ≡ old.sweeps + 0 = omega arith in
      record {
        begins = IsPrefix-self old.history;
        own = refl;
        kept = λ n c. refl;
        each = All-nil (IsTakenIn old.history);
        takes = ap (λ places. with_others old old.history places old.joined old.sweeps old.epoch) places
            ∙ ap (λ sweeps. with_others old old.history (old.places + 0) old.joined sweeps old.epoch) sweeps;
      }

  module _ (old other mid now : Pass (Entry S A R)) (others : List (Pass (Entry S A R))) (j : IsJoined old other mid) (none : other.joined ≡ []) (g : Gathers mid now others) where
    mid_number : mid.number ≡ old.number
    mid_number = ap (λ (p : Pass (Entry S A R)). p.number) j.takes

    mid_joined : mid.joined ≡ other.number ∷ old.joined
    mid_joined = ap (λ (p : Pass (Entry S A R)). p.joined) j.takes ∙ ap (λ (z : List ℕ). other.number ∷ (z ++ old.joined)) none

    listed_first : Contains mid.joined other.number
    listed_first = rw mid_joined (Contains-first other.number old.joined)

    listed_still : (n : ℕ) → Contains old.joined n → Contains mid.joined n
    listed_still n c = rw mid_joined (Contains-later other.number n old.joined c)

    more_takes : now ≡ with_others old now.history (old.places + (other.places + sum (reader_places others))) (joined_after (other.number ∷ old.joined) others)
        (old.sweeps + (other.sweeps + sum (sweep_counts others))) (greatest_epoch (max old.epoch other.epoch) others)
    more_takes =
        let places : mid.places + sum (reader_places others) ≡ old.places + (other.places + sum (reader_places others)) = let e = ap (λ (p : Pass (Entry S A R)). p.places) j.takes in omega arith in
        let sweeps : mid.sweeps + sum (sweep_counts others) ≡ old.sweeps + (other.sweeps + sum (sweep_counts others)) = let e = ap (λ (p : Pass (Entry S A R)). p.sweeps) j.takes in omega arith in
        let epoch : mid.epoch ≡ max old.epoch other.epoch = ap (λ (p : Pass (Entry S A R)). p.epoch) j.takes in
        let rest = λ (p : Pass (Entry S A R)). with_others p now.history (mid.places + sum (reader_places others))
        (joined_after mid.joined others) (mid.sweeps + sum (sweep_counts others)) (greatest_epoch mid.epoch others) in
        g.takes ∙ (ap rest j.takes
        ∙ (ap (λ n. with_others old now.history n (joined_after mid.joined others) (mid.sweeps + sum (sweep_counts others)) (greatest_epoch mid.epoch others)) places
        ∙ (ap (λ (js : List ℕ). with_others old now.history (old.places + (other.places + sum (reader_places others)))
        (joined_after js others) (mid.sweeps + sum (sweep_counts others)) (greatest_epoch mid.epoch others)) mid_joined
        ∙ (ap (λ n. with_others old now.history (old.places + (other.places + sum (reader_places others))) (joined_after (other.number ∷ old.joined) others) n (greatest_epoch mid.epoch others)) sweeps
        ∙ ap (λ n. with_others old now.history (old.places + (other.places + sum (reader_places others))) (joined_after (other.number ∷ old.joined) others)
        (old.sweeps + (other.sweeps + sum (sweep_counts others))) (greatest_epoch n others)) epoch))))

    gathers_first : Gathers old now (other ∷ others)
    gathers_first = record {
      begins = IsPrefix-trans old.history mid.history now.history j.mine g.begins;
      own = subst (λ n. by n now.history ≡ by n mid.history) mid_number g.own ∙ j.own;
      kept = λ n c. g.kept n (listed_still n c) ∙ j.kept n c;
      each = All-cons (IsTakenIn now.history) other others
          (record {
            begins = IsPrefix-trans other.history mid.history now.history j.theirs g.begins;
            own = g.kept other.number listed_first ∙ j.others;
          })
          g.each;
      takes = more_takes
          ∙ (ap (λ n. with_others old now.history (old.places + n) (joined_after old.joined (other ∷ others)) (old.sweeps + (other.sweeps + sum (sweep_counts others)))
          (greatest_epoch old.epoch (other ∷ others))) (sym (sum_first other.places (reader_places others)))
          ∙ ap (λ n. with_others old now.history (old.places + sum (reader_places (other ∷ others))) (joined_after old.joined (other ∷ others)) (old.sweeps + n)
          (greatest_epoch old.epoch (other ∷ others))) (sym (sum_first other.sweeps (sweep_counts others))));
    }

  -- what stands then
  pub gathers : (old : Pass (Entry S A R)) (others : List (Pass (Entry S A R))) (now : Pass (Entry S A R)) →
      All (λ (p : Pass (Entry S A R)). p.joined ≡ []) others → TakesIn old others now → Gathers old now others
  gathers old [] now none same = subst (λ (p : Pass (Entry S A R)). Gathers old p []) same (gathers_none old)
  gathers old (other ∷ others) now none t =
      gathers_first old other t.0 now others t.1 (All-head (λ (p : Pass (Entry S A R)). p.joined ≡ []) other others none)
      (gathers t.0 others now (All-tail (λ (p : Pass (Entry S A R)). p.joined ≡ []) other others none) t.2)

  -- a number that is listed then was listed before or is one of theirs
  joined_parts : (joined : List ℕ) (others : List (Pass (Entry S A R))) (n : ℕ) → Contains (joined_after joined others) n → Contains joined n ⊎ Contains (numbers others) n
  joined_parts joined [] n c = inl c
  joined_parts joined (other ∷ others) n c = ⊎_elim
      (λ (d : Contains (other.number ∷ joined) n).
      ⊎_elim (λ (e : other.number ≡ n). inr (subst (λ m. Contains (other.number ∷ numbers others) m) e (Contains-first other.number (numbers others)))) (λ (e : Contains joined n). inl e)
      (Contains-cons_cases other.number n joined d))
      (λ (d : Contains (numbers others) n). inr (Contains-later other.number n (numbers others) d))
      (joined_parts (other.number ∷ joined) others n c)

  module _ (old mid now : Pass (Entry S A R)) (given others : List (Pass (Entry S A R))) (s : Spreads old mid given) (g : Gathers mid now others) where
    mid_now : mid.number ≡ old.number
    mid_now = ap (λ (p : Pass (Entry S A R)). p.number) s.left

    mid_lists : mid.joined ≡ old.joined
    mid_lists = ap (λ (p : Pass (Entry S A R)). p.joined) s.left

    abbrev pub added : List (Entry S A R)
    added = s.adds.rest ++ g.begins.rest

    pub went_on : now.history ≡ old.history ++ added
    went_on = g.begins.goes_on ∙ (ap (λ h. h ++ g.begins.rest) s.adds.goes_on ∙ append_assoc old.history s.adds.rest g.begins.rest)

    -- nothing was added under the pass's number, nor under one that it listed
    mid_same : (n : ℕ) → (n ≡ old.number) ⊎ Contains old.joined n → by n mid.history ≡ by n old.history
    mid_same n owns =
        let none : by n s.adds.rest ≡ [] = ⊎_elim (λ (e : n ≡ old.number). rw e s.adds.own) (λ (c : Contains old.joined n). s.adds.listed n c) owns in
        kept_by n old.history s.adds.rest mid.history s.adds.goes_on none

    owned_same : (n : ℕ) → (n ≡ old.number) ⊎ Contains old.joined n → by n now.history ≡ by n old.history
    owned_same n owns =
        ⊎_elim (λ (e : n ≡ old.number). rw (e, sym mid_now) g.own) (λ (c : Contains old.joined n). g.kept n (rw mid_lists c)) owns ∙ mid_same n owns

    added_seat : (entry : Entry S A R) → Contains added entry → IsOwn now entry.seat → Contains (numbers others) entry.seat
    added_seat entry c owns = ⊎_elim
        (λ (e : entry.seat ≡ now.number). absurd (mine (inl (e ∙ (ap (λ (p : Pass (Entry S A R)). p.number) g.takes ∙ mid_now)))))
        (λ (d : Contains now.joined entry.seat). ⊎_elim
        (λ (l : Contains mid.joined entry.seat). absurd (mine (inr (rw mid_lists at l))))
        (λ (l : Contains (numbers others) entry.seat). l)
        (joined_parts mid.joined others entry.seat (subst (λ (js : List ℕ). Contains js entry.seat) (ap (λ (p : Pass (Entry S A R)). p.joined) g.takes) d)))
        owns
      where
        mine : (entry.seat ≡ old.number) ⊎ Contains old.joined entry.seat → ⊥
        mine own =
            let none : by entry.seat added ≡ [] = none_added entry.seat old.history added now.history went_on (owned_same entry.seat own) in
            Contains-nil entry (subst (λ (xs : List (Entry S A R)). Contains xs entry) none (stands_by added entry c))

  one_each : (others : List (Pass (Entry S A R))) → All (λ (p : Pass (Entry S A R)). p.places ≡ 1) others → sum (reader_places others) ≡ length others
  one_each [] one = refl
  one_each (other ∷ others) one =
      let first = All-head (λ (p : Pass (Entry S A R)). p.places ≡ 1) other others one in
      let rest = one_each others (All-tail (λ (p : Pass (Entry S A R)). p.places ≡ 1) other others one) in
      omega (arith, sum_first other.places (reader_places others), first, rest)

  no_less : (epoch : ℕ) (others : List (Pass (Entry S A R))) → epoch ≤ greatest_epoch epoch others
  no_less epoch [] = omega arith
  no_less epoch (other ∷ others) = let rest = no_less (max epoch other.epoch) others in omega (arith, rest)

  pub gathers_all : (m : Meaning S A R) → GathersAll m
  gathers_all m old mid now given others s g count one all is = record {
    added = added old mid now given others s g;
    goes_on = went_on old mid now given others s g;
    seats = λ entry c. added_seat old mid now given others s g entry c
        (is.alone whole entry (rw (went_on old mid now given others s g) (Contains-append_right old.history (added old mid now given others s g) entry c)));
    each = g.each;
    left = g.takes ∙ (ap (λ (p : Pass (Entry S A R)). with_others p now.history (mid.places + sum (reader_places others)) (joined_after mid.joined others)
        (mid.sweeps + sum (sweep_counts others)) (greatest_epoch mid.epoch others)) s.left
        ∙ (ap (λ n. with_others old now.history n (joined_after mid.joined others) (mid.sweeps + sum (sweep_counts others)) (greatest_epoch mid.epoch others)) (sym places ∙ same)
        ∙ (ap (λ (js : List ℕ). with_others old now.history old.places js (mid.sweeps + sum (sweep_counts others)) (greatest_epoch mid.epoch others))
        (sym (ap (λ (p : Pass (Entry S A R)). p.joined) g.takes))
        ∙ (ap (λ n. with_others old now.history old.places now.joined n (greatest_epoch mid.epoch others)) (sym (ap (λ (p : Pass (Entry S A R)). p.sweeps) g.takes))
        ∙ ap (λ n. with_others old now.history old.places now.joined now.sweeps n) (sym (ap (λ (p : Pass (Entry S A R)). p.epoch) g.takes))))));
    sweeps = ap (λ (p : Pass (Entry S A R)). p.sweeps) g.takes ∙ ap (λ n. n + sum (sweep_counts others)) (ap (λ (p : Pass (Entry S A R)). p.sweeps) s.left);
    epoch = let e = ap (λ (p : Pass (Entry S A R)). p.epoch) g.takes in let f = ap (λ (p : Pass (Entry S A R)). p.epoch) s.left in omega (arith, e, f, no_less mid.epoch others);
  }
    where
      places : now.places ≡ mid.places + sum (reader_places others)
      places = ap (λ (p : Pass (Entry S A R)). p.places) g.takes

      same : now.places ≡ old.places
      same = let l = ap (λ (p : Pass (Entry S A R)). p.places) s.left in omega (arith, places, l, one_each others one, count, s.enough)

      whole : now.places ≡ all_places
      whole = same ∙ all
