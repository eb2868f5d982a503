-- The sets that end complete are whole.
use Rattle.std.proofs.Common.{◌≡◌, ℕ, ◌+◌, ◌<◌, ◌≤◌, ◌⊎◌, ◌∙◌, ◌&&◌, ◌||◌, Bool, true, false, zero, suc, inl, inr, refl, sym, ap, subst, ⊎_elim, ◌==◌, nat_le}
use Rattle.std.{proofs.Common.{nat_lt, if◌then◌else◌, Option, Some, None, List, [], ◌∷◌, ◌++◌, length, get_or, arith}, specs.Prelude.{All, AllPairs, Contains}}
use Rattle.std.{specs.List.list_any, proofs.lemmas.{Bool.{cases_lt, Decides.nat_tests}, List.{get_or_append_left, get_or_push, length_push}}}
use Rattle.std.proofs.lemmas.List.{Elements.{All-nil, All-cons, All-append, All-head, All-tail, All-push}, Folds.{Any-from_list_any, list_any_at}}
use Rattle.npf_pieces.specs.declared.arrived.{Arrived.Arrived, Ending.{Ending, TheVariants.{Complete, Refused, Unfinished}}}
use Rattle.npf_pieces.specs.{Datagram.{CompleteIsWhole, IsWholeSet, WholeIfComplete}, Overlap.IsTaken, Piece.end_of}
use Rattle.npf_pieces.specs.Sets.{Set, ended_by, ending_with, has, has_all_below, has_byte, header_counted, is_last, is_late, is_too_long}
use Rattle.npf_pieces.{specs.Sets.{is_whole, overlaps, passes_last, reach, sets_from, shares_byte, unfinished}, proofs.DataLemmas.ends_within_reach}
use Rattle.npf_pieces.proofs.SetLemmas.{left_false, right_false}

-- no two share a byte
abbrev StandApart : List Arrived → Type 0
StandApart set = AllPairs (λ a b. shares_byte a b ≡ false) set

AllPairs-push : {X : Type 0} (R : X → X → Type 0) (xs : List X) (y : X) → AllPairs R xs → All (λ x. R x y) xs → AllPairs R (xs ++ y ∷ [])
AllPairs-push R xs y pairs each i j d lt within =
    let long = length_push xs y in
    let below : i < length xs = omega (arith, long) in
    ⊎_elim
    (λ (h : j < length xs). rw (get_or_append_left xs (y ∷ []) d i below) (rw (get_or_append_left xs (y ∷ []) d j h) (pairs i j d lt h)))
    (λ (h : length xs ≤ j).
    let last : length xs ≡ j = omega (arith, h, long) in
    rw (get_or_append_left xs (y ∷ []) d i below) (rw (get_or_push xs y d j last) (each i d below)))
    (cases_lt j (length xs))

shares_either : (a b : Arrived) → shares_byte a b ≡ shares_byte b a
shares_either a b = grind (arith, nat_tests)

none_shared : (a : Arrived) (set : List Arrived) → list_any (shares_byte a) set ≡ false → All (λ b. shares_byte b a ≡ false) set
none_shared a [] h = All-nil (λ b. shares_byte b a ≡ false)
none_shared a (b ∷ set) h =
    All-cons (λ b. shares_byte b a ≡ false) b set
    (shares_either b a ∙ left_false (shares_byte a b) (list_any (shares_byte a) set) h)
    (none_shared a set (right_false (shares_byte a b) (list_any (shares_byte a) set) h))

apart_push : (set : List Arrived) (a : Arrived) → StandApart set → overlaps set a ≡ false → StandApart (set ++ a ∷ [])
apart_push set a apart free =
    let lasts = is_last a && list_any is_last set in
    let shares = list_any (shares_byte a) set in
    let none = left_false shares lasts (left_false (shares || lasts) (passes_last (set ++ a ∷ [])) free) in
    AllPairs-push (λ a b. shares_byte a b ≡ false) set a apart (none_shared a set none)

-- how a set ends by these tests
abbrev ending_by : Bool → Bool → Bool → Option Ending
ending_by overlapping whole long = if overlapping then Some Refused else (if whole then Some (if long then Refused else Complete) else None)

goes_on : (o w l : Bool) → ending_by o w l ≡ None → o ≡ false
goes_on true w l h = absurd (cc)
goes_on false w l h = refl

ends_complete : (o w l : Bool) → ending_by o w l ≡ Some Complete → (o ≡ false) × (w ≡ true) × (l ≡ false)
ends_complete true w l h = absurd (cc)
ends_complete false false l h = absurd (cc)
ends_complete false true true h = absurd (cc)
ends_complete false true false h = (refl, refl, refl)

unfinished_any : (set : List Arrived) → All WholeIfComplete (unfinished set)
unfinished_any [] = All-nil WholeIfComplete
unfinished_any (a ∷ set) =
    All-cons WholeIfComplete (record { pieces = a ∷ set; ending = Unfinished }) [] (λ (e : Unfinished ≡ Complete). absurd (cc)) (All-nil WholeIfComplete)

module _ (rest : List Arrived) (more : (set : List Arrived) → All IsTaken set → StandApart set → All WholeIfComplete (sets_from set rest)) where
  ended_whole : (set : List Arrived) (a : Arrived) → All IsTaken set → IsTaken a → StandApart set → (e : Option Ending) → ending_with set a ≡ e
      → All WholeIfComplete (ended_by (λ next. sets_from next rest) (set ++ a ∷ []) e)
  ended_whole set a all taken apart None is =
      let free = goes_on (overlaps set a) (is_whole (set ++ a ∷ [])) (is_too_long (set ++ a ∷ [])) is in
      more (set ++ a ∷ []) (All-push IsTaken set a all taken) (apart_push set a apart free)
  ended_whole set a all taken apart (Some ending) is =
      All-cons WholeIfComplete (record { pieces = set ++ a ∷ []; ending = ending }) (sets_from [] rest)
      (λ (e : ending ≡ Complete).
      let tests = ends_complete (overlaps set a) (is_whole (set ++ a ∷ [])) (is_too_long (set ++ a ∷ [])) (is ∙ ap (λ (x : Ending). Some x) e) in
      let whole : IsWholeSet (set ++ a ∷ []) = record {
        taken = All-push IsTaken set a all taken;
        apart = apart_push set a apart tests.0;
        whole = tests.1;
        short = tests.2;
      } in whole)
      (more [] (All-nil IsTaken) (λ i j d lt within. absurd (omega arith)))

  by_time : (set : List Arrived) (a : Arrived) → All IsTaken set → IsTaken a → StandApart set → (late : Bool) → is_late set a ≡ late
      → All WholeIfComplete (if late then unfinished set ++ ended_by (λ next. sets_from next rest) (a ∷ []) (ending_with [] a)
      else ended_by (λ next. sets_from next rest) (set ++ a ∷ []) (ending_with set a))
  by_time set a all taken apart true is =
      All-append WholeIfComplete (unfinished set) (ended_by (λ next. sets_from next rest) (a ∷ []) (ending_with [] a)) (unfinished_any set)
      (ended_whole [] a (All-nil IsTaken) taken (λ i j d lt within. absurd (omega arith)) (ending_with [] a) refl)
  by_time set a all taken apart false is = ended_whole set a all taken apart (ending_with set a) refl

complete_whole : (all set : List Arrived) → All IsTaken all → All IsTaken set → StandApart set → All WholeIfComplete (sets_from set all)
complete_whole [] set others all apart = unfinished_any set
complete_whole (a ∷ rest) set others all apart =
    by_time rest (λ next taken apart. complete_whole rest next (All-tail IsTaken a rest others) taken apart)
    set a all (All-head IsTaken a rest others) apart (is_late set a) refl

pub complete_is_whole : CompleteIsWhole
complete_is_whole arrived taken = complete_whole arrived [] taken (All-nil IsTaken) (λ i j d lt within. absurd (omega arith))

-- a whole set has a piece that begins its datagram
has_first : (set : List Arrived) (n : ℕ) → has_all_below set (suc n) ≡ true → has set 0 ≡ true
has_first set zero h = grind (arith, h)
has_first set (suc n) h = has_first set n (both (has_all_below set (suc n)) (has set (suc n)) h)
  where
    both : (x y : Bool) → (x && y) ≡ true → x ≡ true
    both true y h = refl
    both false y h = h

from_zero : (a : Arrived) → has_byte 0 a ≡ true → a.piece.from ≡ 0
from_zero a h = grind (arith, nat_tests)

any_last : (set : List Arrived) → is_whole set ≡ true → list_any is_last set ≡ true
any_last set h = grind (arith, h)

all_below : (set : List Arrived) → is_whole set ≡ true → has_all_below set (reach set) ≡ true
all_below set h = grind (arith, h)

by_reach : (set : List Arrived) (n : ℕ) → reach set ≡ n → is_whole set ≡ true → (first : Arrived) × (Contains set first × (first.piece.from ≡ 0))
by_reach set zero e h =
    let last = Any-from_list_any is_last set (any_last set h) in
    let at = last.0 in
    let ends = ends_within_reach set at last.1 last.2 in
    let is = ap (λ (a : Arrived). a.piece.from) last.3 in
    (last.1, ((at, last.2, last.3), omega (arith, ends, e, is)))
by_reach set (suc n) e h =
    let some = Any-from_list_any (has_byte 0) set (has_first set n (ap (has_all_below set) (sym e) ∙ all_below set h)) in
    (some.1, ((some.0, some.2, some.3), from_zero some.1 some.4))

pub begins_whole : (set : List Arrived) → is_whole set ≡ true → (first : Arrived) × (Contains set first × (first.piece.from ≡ 0))
begins_whole set h = by_reach set (reach set) refl h

-- its header and its data are within the length that it tells
long_at : (set : List Arrived) (r : ℕ) (at : ℕ) (d : Arrived) → at < length set → (get_or set at d).piece.from ≡ 0
    → list_any (λ f. (f.piece.from == 0) && nat_lt 65535 (header_counted f.piece + r)) set ≡ false
    → header_counted (get_or set at d).piece + r ≤ 65535
long_at [] r at d lt begins h = absurd (omega arith)
long_at (f ∷ set) r zero d lt begins h =
    one f r begins (left_false ((f.piece.from == 0) && nat_lt 65535 (header_counted f.piece + r)) (list_any (λ f. (f.piece.from == 0) && nat_lt 65535 (header_counted f.piece + r)) set) h)
  where
    one : (f : Arrived) (r : ℕ) → f.piece.from ≡ 0 → ((f.piece.from == 0) && nat_lt 65535 (header_counted f.piece + r)) ≡ false → header_counted f.piece + r ≤ 65535
    one f r begins h = grind (arith, nat_tests)
long_at (f ∷ set) r (suc at) d lt begins h =
    long_at set r at d (omega arith) begins
    (right_false ((f.piece.from == 0) && nat_lt 65535 (header_counted f.piece + r)) (list_any (λ f. (f.piece.from == 0) && nat_lt 65535 (header_counted f.piece + r)) set) h)

pub told_within : (set : List Arrived) (first : Arrived) → is_too_long set ≡ false → Contains set first → first.piece.from ≡ 0
    → header_counted first.piece + reach set ≤ 65535
told_within set first short among begins =
    let same = ap (λ (a : Arrived). a.piece.from) among.2 in
    let counted = ap (λ (a : Arrived). header_counted a.piece) among.2 in
    let within = long_at set (reach set) among.0 first among.1 (same ∙ begins) short in
    omega (arith, within, counted)
