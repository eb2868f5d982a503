-- Which numbers ranges have.
use Rattle.std.proofs.Common.{◌≡◌, ◌≤◌, ◌<◌, ℕ, true, false, ◌||◌, ◌==◌, List, [], ◌∷◌, map, refl, sym, ap, ◌∙◌, inl, inr, arith}
use Rattle.std.specs.List.{list_any}
use Rattle.std.proofs.lemmas.Bool.{and_from, and_left, and_right, cases_eq, cases_lt, eq-eqb, le-leb, lt-leb, ne_eqb}
use Rattle.npf_model.specs.Describes.{in_range}
use Rattle.npf_products.specs.Condition.{has_number}

pub within : (low high n : ℕ) → low ≤ n → n ≤ high → in_range n (low, high) ≡ true
within low high n above below = and_from _ _ (le-leb low n above) (le-leb n high below)

pub under : (low high n : ℕ) → n < low → in_range n (low, high) ≡ false
under low high n below = and_left _ _ (lt-leb low n below)

pub over : (low high n : ℕ) → high < n → in_range n (low, high) ≡ false
over low high n above = and_right _ _ (lt-leb n high above)

-- a range of one number
pub single : (x n : ℕ) → in_range n (x, x) ≡ (x == n)
single x n = elim (cases_eq x n) [
  | inl same ↦ within x x n (omega arith) (omega arith) ∙ sym (eq-eqb x n same)
  | inr other ↦ elim (cases_lt n x) [
    | inl below ↦ under x x n below ∙ sym (ne_eqb x n other)
    | inr above ↦ over x x n (omega arith) ∙ sym (ne_eqb x n other)
  ]
]

pub singles : (xs : List ℕ) (n : ℕ) → has_number (map (λ x. (x, x)) xs) n ≡ list_any (λ x. x == n) xs
singles [] n = refl
singles (x ∷ xs) n = ap (λ b. b || has_number (map (λ y. (y, y)) xs) n) (single x n) ∙ ap (λ b. (x == n) || b) (singles xs n)
