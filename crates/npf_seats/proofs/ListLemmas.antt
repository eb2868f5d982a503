-- How often numbers stand in lists.
use Rattle.std.specs.List.{Contains}
use Rattle.std.proofs.Common.{◌≡◌, ◌≢◌, ◌⊎◌, ℕ, zero, suc, ◌+◌, ◌<◌, ◌≤◌, Bool, true, false, cond, eqb, eq-eqb, ne_eqb, List, [], ◌∷◌, length}
use Rattle.std.proofs.{Common.{slice_index_or, refl, sym, ap, ◌∙◌, subst, ⊎_elim, inl, inr, arith}, lemmas.Bool.Decides.Decides-eqb}
use Rattle.std.proofs.lemmas.List.{Elements.{Contains-append_left, Contains-append_right, Contains-push}, Sums.sum_by-cons}
use Rattle.npf_seats.specs.Sums.{others_than, occurs}

abbrev pub one_where : Bool → ℕ
one_where b = cond b 1 0

pub occurs-cons : (n x : ℕ) (xs : List ℕ) → occurs n (x ∷ xs) ≡ one_where (eqb x n) + occurs n xs
occurs-cons n x xs = sum_by-cons (λ (y : ℕ). one_where (eqb y n)) x xs

-- what is left of a list without one of its numbers
pub left_same : (n : ℕ) (xs : List ℕ) → occurs n (others_than n xs) ≡ 0
left_same n [] = refl
left_same n (x ∷ xs) = by_test (left_same n xs) (eqb x n) refl
  where
    by_test : occurs n (others_than n xs) ≡ 0 → (b : Bool) → eqb x n ≡ b → occurs n (cond (cond b false true) (x ∷ others_than n xs) (others_than n xs)) ≡ 0
    by_test rest true e = rest
    by_test rest false e = let more = occurs-cons n x (others_than n xs) in let none : one_where (eqb x n) ≡ 0 = ap one_where e in omega (arith, more, none, rest)

pub left_others : (n p : ℕ) (xs : List ℕ) → p ≢ n → occurs p (others_than n xs) ≡ occurs p xs
left_others n p [] ne = refl
left_others n p (x ∷ xs) ne = by_test (left_others n p xs ne) (eqb x n) refl
  where
    by_test : occurs p (others_than n xs) ≡ occurs p xs → (b : Bool) → eqb x n ≡ b → occurs p (cond (cond b false true) (x ∷ others_than n xs) (others_than n xs)) ≡ occurs p (x ∷ xs)
    by_test rest true e =
        let same : x ≡ n = (Decides-eqb x n).0 e in
        let none : one_where (eqb x p) ≡ 0 = ap one_where (ne_eqb x p (λ d. ne (sym d ∙ same))) in
        let more = occurs-cons p x xs in
        omega (arith, more, none, rest)
    by_test rest false e = let more = occurs-cons p x xs in let left = occurs-cons p x (others_than n xs) in omega (arith, more, left, rest)

pub stands_once : (n : ℕ) (xs : List ℕ) → Contains xs n → 1 ≤ occurs n xs
stands_once n [] c = absurd (let below = c.1 in omega (arith, below))
stands_once n (x ∷ xs) c = at_index (λ d. stands_once n xs d) c.0 c.1 c.2
  where
    at_index : (Contains xs n → 1 ≤ occurs n xs) → (i : ℕ) → i < length (x ∷ xs) → slice_index_or (x ∷ xs) i n ≡ n → 1 ≤ occurs n (x ∷ xs)
    at_index rest zero h e = let more = occurs-cons n x xs in let one : one_where (eqb x n) ≡ 1 = ap one_where (eq-eqb x n e) in omega (arith, more, one)
    at_index rest (suc i) h e = let more = occurs-cons n x xs in let later = rest (i, omega (arith, h), e) in omega (arith, more, later)

-- a number doesn't stand in a list, or it does
pub occurs_or : (n : ℕ) (xs : List ℕ) → (occurs n xs ≡ 0) ⊎ Contains xs n
occurs_or n [] = inl refl
occurs_or n (x ∷ xs) = by_test (occurs_or n xs) (eqb x n) refl
  where
    by_test : (occurs n xs ≡ 0) ⊎ Contains xs n → (b : Bool) → eqb x n ≡ b → (occurs n (x ∷ xs) ≡ 0) ⊎ Contains (x ∷ xs) n
    by_test rest true e = inr (subst (λ y. Contains (x ∷ xs) y) ((Decides-eqb x n).0 e) (Contains-append_left (x ∷ []) xs x (Contains-push [] x)))
    by_test rest false e = ⊎_elim
        (λ (none : occurs n xs ≡ 0). let more = occurs-cons n x xs in let here : one_where (eqb x n) ≡ 0 = ap one_where e in inl (omega (arith, more, here, none)))
        (λ c. inr (Contains-append_right (x ∷ []) xs n c))
        rest
