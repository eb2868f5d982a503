-- What is in a list, and what filters keep: of a list and its permutation, and one behind the other.
use Rattle.std.proofs.Common.{◌≡◌, ◌≤◌, ◌∙◌, ◌⊎◌, Bool, cond, true, false, ⊎_elim, refl, sym, ap, subst, List, [], ◌∷◌, length, arith}
use Rattle.std.{specs.Prelude.{All, Contains, IsPermutation, filter}, proofs.lemmas.{Bool.{cond-true, cond-false}, List.nil_from_length}}
use Rattle.std.proofs.lemmas.List.{Elements.{All-contains_itself, All-filter, All-head, filter_passes}, Sorted.{Contains-permutation, sum_by-IsPermutation}}
use Rattle.std.proofs.lemmas.List.Sums.{length-filter}
use Rattle.npf_shelf.proofs.ListLemmas.{Contains-cons_cases, Contains-first, Contains-later}

module _ {X : Type 0} (p : X → Bool) where
  pub filter_kept : (x : X) (xs : List X) → p x ≡ true → filter p (x ∷ xs) ≡ x ∷ filter p xs
  filter_kept x xs e = cond-true (p x) (x ∷ filter p xs) (filter p xs) e

  pub filter_left : (x : X) (xs : List X) → p x ≡ false → filter p (x ∷ xs) ≡ filter p xs
  filter_left x xs e = cond-false (p x) (x ∷ filter p xs) (filter p xs) e

  pub filter_none : (xs : List X) → ((x : X) → Contains xs x → p x ≡ false) → filter p xs ≡ []
  filter_none [] none = refl
  filter_none (x ∷ xs) none =
      filter_left x xs (none x (Contains-first x xs)) ∙ filter_none xs (λ y c. none y (Contains-later x y xs c))

  pub filter_every : (xs : List X) → ((x : X) → Contains xs x → p x ≡ true) → filter p xs ≡ xs
  filter_every [] all = refl
  filter_every (x ∷ xs) all =
      filter_kept x xs (all x (Contains-first x xs))
      ∙ ap (λ (ys : List X). x ∷ ys) (filter_every xs (λ y c. all y (Contains-later x y xs c)))

  kept_behind : (b : Bool) (x a : X) (ys : List X) → Contains ys a → Contains (cond b (x ∷ ys) ys) a
  kept_behind true x a ys c = Contains-later x a ys c
  kept_behind false x a ys c = c

  pub contains_filter : (xs : List X) (a : X) → Contains xs a → p a ≡ true
      → Contains (filter p xs) a
  contains_filter [] a c h = absurd (omega (arith, c.1))
  contains_filter (x ∷ xs) a c h = ⊎_elim
      (λ (k : x ≡ a).
      let first = subst (λ (y : X). Contains (x ∷ filter p xs) y) k (Contains-first x (filter p xs)) in
      subst (λ (ys : List X). Contains ys a) (sym (filter_kept x xs (ap p k ∙ h))) first)
      (λ (k : Contains xs a). kept_behind (p x) x a (filter p xs) (contains_filter xs a k h))
      (Contains-cons_cases x a xs c)

  one_item : (ys : List X) (a : X) → length ys ≡ 1 → Contains ys a → ys ≡ a ∷ []
  one_item [] a long c = absurd (omega (arith, long))
  one_item (y ∷ []) a long c = ⊎_elim
      (λ (k : y ≡ a). ap (λ (z : X). z ∷ []) k)
      (λ (k : Contains [] a). absurd (omega (arith, k.1)))
      (Contains-cons_cases y a [] c)
  one_item (y ∷ z ∷ ys) a long c = absurd (omega (arith, long))

  among : (xs : List X) (x : X) → Contains (filter p xs) x → Contains xs x
  among xs x c =
      let all = All-filter p (Contains xs) xs (All-contains_itself xs) in
      subst (λ (y : X). Contains xs y) c.2 (all c.0 x c.1)

  as_many : (xs ys : List X) → IsPermutation xs ys → length (filter p ys) ≡ length (filter p xs)
  as_many xs ys same =
      length-filter p ys
      ∙ sum_by-IsPermutation (λ (x : X). cond (p x) 1 0) xs ys same
      ∙ sym (length-filter p xs)

  few_kept : (xs ys : List X) → IsPermutation xs ys → (kept : List X) → filter p xs ≡ kept
      → length (filter p xs) ≤ 1 → filter p ys ≡ kept
  few_kept xs ys same [] is few =
      nil_from_length (filter p ys) (as_many xs ys same ∙ ap length is)
  few_kept xs ys same (x ∷ []) is few =
      let all = subst (All (λ (y : X). p y ≡ true)) is (filter_passes p xs) in
      let passes = All-head (λ (y : X). p y ≡ true) x [] all in
      let here = subst (λ (l : List X). Contains l x) (sym is) (Contains-first x []) in
      let there = Contains-permutation xs ys x same (among xs x here) in
      one_item (filter p ys) x (as_many xs ys same ∙ ap length is)
      (contains_filter ys x there passes)
  few_kept xs ys same (x ∷ y ∷ more) is few = absurd (omega (arith, few, ap length is))

  -- of lists with the same elements a filter keeps the same, where it keeps one at most
  pub few_same : (xs ys : List X) → IsPermutation xs ys → length (filter p xs) ≤ 1
      → filter p ys ≡ filter p xs
  few_same xs ys same few = few_kept xs ys same (filter p xs) refl few

-- two filters
module _ {X : Type 0} (p q : X → Bool) where
  swap_more : (x : X) (xs : List X) → filter p (filter q xs) ≡ filter q (filter p xs)
      → (b c : Bool) → p x ≡ b → q x ≡ c
      → filter p (filter q (x ∷ xs)) ≡ filter q (filter p (x ∷ xs))
  swap_more x xs more true true e f =
      ap (filter p) (filter_kept q x xs f)
      ∙ filter_kept p x (filter q xs) e
      ∙ ap (λ (ys : List X). x ∷ ys) more
      ∙ sym (ap (filter q) (filter_kept p x xs e) ∙ filter_kept q x (filter p xs) f)
  swap_more x xs more true false e f =
      ap (filter p) (filter_left q x xs f)
      ∙ more
      ∙ sym (ap (filter q) (filter_kept p x xs e) ∙ filter_left q x (filter p xs) f)
  swap_more x xs more false true e f =
      ap (filter p) (filter_kept q x xs f)
      ∙ filter_left p x (filter q xs) e
      ∙ more
      ∙ sym (ap (filter q) (filter_left p x xs e))
  swap_more x xs more false false e f =
      ap (filter p) (filter_left q x xs f) ∙ more ∙ sym (ap (filter q) (filter_left p x xs e))

  pub filters_swap : (xs : List X) → filter p (filter q xs) ≡ filter q (filter p xs)
  filters_swap [] = refl
  filters_swap (x ∷ xs) = swap_more x xs (filters_swap xs) (p x) (q x) refl refl
