-- A list that has all numbers below a bound is as long as the bound at least.
use Rattle.std.proofs.Common.{◌≡◌, ◌≢◌, ◌<◌, ◌≤◌, ◌==◌, ℕ, zero, suc, Bool, true, false, not, cond, List, [], ◌∷◌, Contains, length, get_or, refl, sym, ◌∙◌, arith}
use Rattle.std.{specs.List.filter, proofs.lemmas.Bool.{eqb-true, Decides.Decides-eqb}}

-- all but this number
abbrev without : ℕ → List ℕ → List ℕ
without n xs = filter (λ x. not (x == n)) xs

shorter : (n : ℕ) (xs : List ℕ) → length (without n xs) ≤ length xs
shorter n [] = omega arith
shorter n (x ∷ xs) = by (x == n) (shorter n xs) where
  by : (b : Bool) → length (without n xs) ≤ length xs → length (cond (not b) (x ∷ without n xs) (without n xs)) ≤ length (x ∷ xs)
  by true rest = omega (arith, rest)
  by false rest = omega (arith, rest)

-- it is shorter, where the number stood in the list
one_less : (n : ℕ) (xs : List ℕ) (k : ℕ) → k < length xs → get_or xs k n ≡ n → length (without n xs) < length xs
one_less n [] k within is = absurd (omega (arith, within))
one_less n (x ∷ xs) zero within is =
    let same : (x == n) ≡ true = (Decides-eqb x n).1 is in
    let rest = shorter n xs in
    rw same (omega (arith, rest))
one_less n (x ∷ xs) (suc k) within is = by (x == n) (one_less n xs k (omega (arith, within)) is) (shorter n xs) where
  by : (b : Bool) → length (without n xs) < length xs → length (without n xs) ≤ length xs → length (cond (not b) (x ∷ without n xs) (without n xs)) < length (x ∷ xs)
  by true rest all = omega (arith, rest)
  by false rest all = omega (arith, rest)

push_on : (x y : ℕ) (xs : List ℕ) → Contains xs y → Contains (x ∷ xs) y
push_on x y xs (k, within, is) = (suc k, omega (arith, within), is)

-- and has each other number that the list has
kept : (n other : ℕ) (xs : List ℕ) (k : ℕ) → other ≢ n → k < length xs → get_or xs k other ≡ other → Contains (without n xs) other
kept n other [] k differs within is = absurd (omega (arith, within))
kept n other (x ∷ xs) zero differs within is = by (x == n) refl where
  by : (b : Bool) → (x == n) ≡ b → Contains (cond (not b) (x ∷ without n xs) (without n xs)) other
  by true same = absurd (differs (sym is ∙ eqb-true x n same))
  by false same = (zero, omega arith, is)
kept n other (x ∷ xs) (suc k) differs within is = by (x == n) (kept n other xs k differs (omega (arith, within)) is) where
  by : (b : Bool) → Contains (without n xs) other → Contains (cond (not b) (x ∷ without n xs) (without n xs)) other
  by true rest = rest
  by false rest = push_on x other (without n xs) rest

pub has_all : (n : ℕ) (xs : List ℕ) → ((s : ℕ) → s < n → Contains xs s) → n ≤ length xs
has_all zero xs all = omega arith
has_all (suc n) xs all =
    let last = all n (omega arith) in
    let less = one_less n xs last.0 last.1 last.2 in
    let rest = has_all n (without n xs) (λ s below. let there = all s (omega (arith, below)) in kept n s xs there.0 (λ same. absurd (omega (arith, same, below))) there.1 there.2) in
    omega (arith, less, rest)
