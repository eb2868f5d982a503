-- Pieces in the order of their keys: those of one key are one run.
use Rattle.std.proofs.Common.{◌≡◌, ℕ, ◌+◌, ◌-◌, ◌<◌, ◌≤◌, ◌∙◌, Bool, true, false, ⊎_elim, refl, sym, ap, List, [], ◌∷◌, ◌++◌, length, take, drop, get_or, append-nil, length-drop, arith}
use Rattle.std.specs.{Prelude.{All, filter, slice_range}, Ordering.{is_eq, is_gt}, Cmp.Equal-is, declared.cmp.Ordering.TheVariants.Equal}
use Rattle.std.proofs.lemmas.{Bool.cases_lt, Cmp.{nat_list_cmp_total, tied_back, tied_itself, upto}}
use Rattle.std.proofs.lemmas.List.{drop-drop, get_or-drop, get_or-take, get_or_default, length-take, take-append-drop}
use Rattle.std.{proofs.lemmas.List.{Elements.{All-head, All-tail, filter-append}, Sorted.{ranks_by, sorted_far}}, specs.List.Sorted.IsSortedBy}
use Rattle.npf_pieces.specs.declared.arrived.Arrived.{Arrived}
use Rattle.npf_reass_sets.specs.{Class.{IsRunOfKey, SplitsKeys, same_key}, Key.{key_numbers, of_key}, Order.is_key_below}
use Rattle.npf_reass_sets.proofs.KeyLemmas.{above_is_below, between, key_cmp, same_is_equal}

-- what is known of same keys
pub equal_of : (a b : Arrived) → same_key a b ≡ true → key_cmp a b ≡ Equal
equal_of a b h = (Equal-is (key_cmp a b)).0 (same_is_equal a b ∙ h)

same_of : (a b : Arrived) → key_cmp a b ≡ Equal → same_key a b ≡ true
same_of a b h = sym (same_is_equal a b) ∙ (Equal-is (key_cmp a b)).1 h

pub same_self : (a : Arrived) → same_key a a ≡ true
same_self a = same_of a a (tied_itself nat_list_cmp_total (key_numbers a.piece.key))

pub same_back : (a b : Arrived) → same_key a b ≡ true → same_key b a ≡ true
same_back a b h = same_of b a (tied_back nat_list_cmp_total (key_numbers a.piece.key) (key_numbers b.piece.key) (equal_of a b h))

pub same_on : (a b c : Arrived) → same_key a b ≡ true → same_key a c ≡ same_key b c
same_on a b c h =
    sym (same_is_equal a c)
    ∙ ap is_eq (nat_list_cmp_total.congr (key_numbers a.piece.key) (key_numbers b.piece.key) (key_numbers c.piece.key) (equal_of a b h))
    ∙ same_is_equal b c

false_or_true : (b : Bool) → (b ≡ true → true ≡ false) → b ≡ false
false_or_true true h = h refl
false_or_true false h = refl

-- one key between two that are the same is the same
squeezed : (f t j : Arrived) → is_key_below t f ≡ false → is_key_below j t ≡ false → same_key f j ≡ true → same_key f t ≡ true
squeezed f t j from on same =
    let f_up_t : is_gt (key_cmp f t) ≡ false = above_is_below f t ∙ from in
    let t_up_j : is_gt (key_cmp t j) ≡ false = above_is_below t j ∙ on in
    let back : key_cmp j f ≡ Equal = tied_back nat_list_cmp_total (key_numbers f.piece.key) (key_numbers j.piece.key) (equal_of f j same) in
    let j_up_f : is_gt (key_cmp j f) ≡ false = ap is_gt back in
    let t_up_f : is_gt (key_cmp t f) ≡ false = upto nat_list_cmp_total (key_numbers t.piece.key) (key_numbers j.piece.key) (key_numbers f.piece.key) t_up_j j_up_f in
    same_back t f (sym (same_is_equal t f) ∙ between (key_cmp t f) from t_up_f)

module _ (ys : List Arrived) (sorted : IsSortedBy is_key_below ys) where
  not_below : (i j : ℕ) (d : Arrived) → i ≤ j → j < length ys → is_key_below (get_or ys j d) (get_or ys i d) ≡ false
  not_below i j d le h =
      sorted_far is_key_below (ranks_by nat_list_cmp_total (λ (a : Arrived). key_numbers a.piece.key)) ys sorted i j d le h

  -- no key goes on behind its run
  pub splits_behind : (from to : ℕ) → SplitsKeys ys from → IsRunOfKey ys from to → SplitsKeys ys to
  splits_behind from to splits run i j d below behind h =
      let inside : to < length ys = omega (arith, behind, h) in
      ⊎_elim (λ (lt : i < from). splits i j d lt (omega (arith, run.order, behind)) h)
      (λ (le : from ≤ i).
      let f = get_or ys from d in
      false_or_true (same_key (get_or ys i d) (get_or ys j d)) (λ same.
      let as_first = same_on f (get_or ys i d) (get_or ys j d) (run.same i d le below) ∙ same in
      let there = squeezed f (get_or ys to d) (get_or ys j d) (not_below from to d (omega (arith, run.order)) inside) (not_below to j d behind h) as_first in
      sym there ∙ run.other d inside))
      (cases_lt i from)

-- what a test keeps that all pass, or none
filter_none : {X : Type 0} (test : X → Bool) (xs : List X) → All (λ x. test x ≡ false) xs → filter test xs ≡ []
filter_none test [] all = refl
filter_none test (x ∷ xs) all =
    let here = All-head (λ x. test x ≡ false) x xs all in
    let more = filter_none test xs (All-tail (λ x. test x ≡ false) x xs all) in
    rw here more

filter_all : {X : Type 0} (test : X → Bool) (xs : List X) → All (λ x. test x ≡ true) xs → filter test xs ≡ xs
filter_all test [] all = refl
filter_all {X} test (x ∷ xs) all =
    let here = All-head (λ x. test x ≡ true) x xs all in
    let more = filter_all test xs (All-tail (λ x. test x ≡ true) x xs all) in
    rw here (ap (λ (list : List X). x ∷ list) more)

-- a list in three parts
three_parts : (ys : List Arrived) (from to : ℕ) → from ≤ to → take from ys ++ (slice_range ys from to ++ drop to ys) ≡ ys
three_parts ys from to order =
    let there : to ≡ from + (to - from) = omega (arith, order) in
    let behind : drop to ys ≡ drop (to - from) (drop from ys) = ap (λ (k : ℕ). drop k ys) there ∙ sym (drop-drop (to - from) from ys) in
    ap (λ (rest : List Arrived). take from ys ++ (slice_range ys from to ++ rest)) behind
    ∙ ap (λ (rest : List Arrived). take from ys ++ rest) (take-append-drop (to - from) (drop from ys))
    ∙ take-append-drop from ys

module _ (ys : List Arrived) (sorted : IsSortedBy is_key_below ys) (from to : ℕ) (splits : SplitsKeys ys from) (run : IsRunOfKey ys from to) where
  here : from < length ys
  here = omega (arith, run.order, run.within)

  -- no piece in front is of the key, those of the run are, and none behind is
  in_front : (k : ℕ) (d : Arrived) → k < from → same_key (get_or ys from d) (get_or ys k d) ≡ false
  in_front k d h =
      false_or_true (same_key (get_or ys from d) (get_or ys k d))
      (λ same. sym (same_back (get_or ys from d) (get_or ys k d) same) ∙ splits k from d h (omega arith) here)

  behind : (k : ℕ) (d : Arrived) → to ≤ k → k < length ys → same_key (get_or ys from d) (get_or ys k d) ≡ false
  behind k d h inside = splits_behind ys sorted from to splits run from k d run.order h inside

  module _ (d : Arrived) where
    abbrev test : Arrived → Bool
    test a = same_key (get_or ys from d) a

    as_first : (e a : Arrived) → test a ≡ same_key (get_or ys from e) a
    as_first e a = ap (λ (f : Arrived). same_key f a) (get_or_default ys from d e here)

    none_front : filter test (take from ys) ≡ []
    none_front = filter_none test (take from ys) (λ k e h.
        let below : k < from = omega (arith, h, length-take from ys) in
        ap test (get_or-take from ys k e below) ∙ as_first e (get_or ys k e) ∙ in_front k e below)

    all_mid : filter test (slice_range ys from to) ≡ slice_range ys from to
    all_mid = filter_all test (slice_range ys from to) (λ k e h.
        let below : k < to - from = omega (arith, h, length-take (to - from) (drop from ys)) in
        ap test (get_or-take (to - from) (drop from ys) k e below ∙ get_or-drop from ys k e) ∙ as_first e (get_or ys (from + k) e)
        ∙ run.same (from + k) e (omega arith) (omega (arith, below)))

    none_rest : filter test (drop to ys) ≡ []
    none_rest = filter_none test (drop to ys) (λ k e h.
        let inside : to + k < length ys = omega (arith, h, length-drop to ys, run.within) in
        ap test (get_or-drop to ys k e) ∙ as_first e (get_or ys (to + k) e) ∙ behind (to + k) e (omega arith) inside)

    -- the pieces of the run's key are the run
    pub run_is_key : of_key (get_or ys from d).piece.key ys ≡ slice_range ys from to
    run_is_key =
        let mid = slice_range ys from to in
        ap (filter test) (sym (three_parts ys from to (omega (arith, run.order))))
        ∙ filter-append test (take from ys) (mid ++ drop to ys)
        ∙ ap (λ (list : List Arrived). list ++ filter test (mid ++ drop to ys)) none_front
        ∙ filter-append test mid (drop to ys)
        ∙ ap (λ (list : List Arrived). list ++ filter test (drop to ys)) all_mid
        ∙ ap (λ (list : List Arrived). mid ++ list) none_rest
        ∙ append-nil mid
