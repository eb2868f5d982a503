-- A chain: a list in which each follows from the one before, apart from how it is walked.
use Rattle.std.specs.Prelude.{◌≡◌, Option, None, IsSomeAnd, List, [], ◌∷◌}

-- These follow one another from the first on, by `next`, and `last` follows them and has nothing behind it.
abbrev pub IsChain : {A : Type 0} → (A → Option A) → A → List A → A → Type 0
IsChain next first [] last = (last ≡ first) × (next first ≡ None)
IsChain next first (x ∷ xs) last = (x ≡ first) × IsSomeAnd (next first) (λ second. IsChain next second xs last)
