-- How often a number stands in a list, and the first numbers.
use Rattle.std.specs.Prelude.{ℕ, zero, suc, ◌==◌, List, [], ◌∷◌, ◌++◌, count_by, true, false, filter, if◌then◌else◌}

-- how often the number stands in the list
abbrev pub occurs : ℕ → List ℕ → ℕ
occurs n xs = count_by (λ x. x == n) xs

-- the numbers below this one, in order
abbrev pub numbers_below : ℕ → List ℕ
numbers_below zero = []
numbers_below (suc n) = numbers_below n ++ n ∷ []

-- the nodes but this one
abbrev pub others_than : ℕ → List ℕ → List ℕ
others_than node = filter (λ x. if x == node then false else true)
