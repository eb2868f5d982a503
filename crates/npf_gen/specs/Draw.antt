-- The draws of a number: a linear congruential generator of 64 bits with the constants of Knuth's MMIX ("The Art of
-- Computer Programming", volume 2, section 3.3.4).
use Rattle.std.specs.Prelude.{ℕ, zero, suc, ◌+◌, ◌*◌, ◌/◌, ◌%◌, ◌^◌}

abbrev pub following_state : ℕ → ℕ
following_state x = (x * 6364136223846793005 + 1442695040888963407) % 2 ^ 64

-- the state once n draws are made: it begins at the number
unfoldable pub drawn_state : ℕ → ℕ → ℕ
drawn_state number zero = number
drawn_state number (suc n) = following_state (drawn_state number n)

-- the n-th draw, counted from 1: the upper 31 bits of the state that it leaves
abbrev pub nth_draw : ℕ → ℕ → ℕ
nth_draw number n = drawn_state number n / 2 ^ 33
