-- The ports that are tried, in order, where one of them is tried first.
use Rattle.std.specs.Prelude.{ℕ, ◌+◌, ◌-◌, List, ◌++◌}
use Rattle.std.specs.List.{range_with_len}

-- the ports from one number to another, which belongs to them; none where it is below the first
abbrev pub ports_between : ℕ → ℕ → List ℕ
ports_between first last = range_with_len first (last + 1 - first)

-- the ports from one number up to another, which doesn't belong to them
abbrev pub ports_below : ℕ → ℕ → List ℕ
ports_below first end = range_with_len first (end - first)

-- from the first candidate to the range's end, then the range's ports below the candidate
abbrev pub candidates : ℕ → ℕ → ℕ → List ℕ
candidates min max first = ports_between first max ++ ports_below min first
