use Rattle.std.specs.Prelude.{ℕ, ◌≤◌}
use Rattle.npf_publish.specs.declared.number_range.NumberRange.{NumberRange}

-- a number that a publisher of the range may publish
abbrev pub IsInRange : ℕ → NumberRange → Type 0
IsInRange number range = (range.first ≤ number) × (number ≤ range.last)
