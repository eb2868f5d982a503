-- Sets of numbers as words.
use Rattle.std.specs.Prelude.{ℕ, ◌/◌, ◌%◌, Bool, ◌==◌, List, slice_index}
use Rattle.std.specs.Int.{bit_at}

-- the set has the number: its bit is set, counted from the lowest of the first word; past the last word no set has any
unfoldable pub has : List ℕ → ℕ → Bool
has words number = bit_at (slice_index words (number / 64)) (number % 64) == 1
