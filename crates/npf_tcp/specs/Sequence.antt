use Rattle.std.specs.Prelude.{ℕ, Bool, ◌+◌, ◌-◌, ◌%◌, ◌^◌, nat_lt, if◌then◌else◌}

-- the sequence number n bytes after x
abbrev pub plus : ℕ → ℕ → ℕ
plus x n = (x + n) % 2 ^ 32

-- the sequence number n bytes before x, and so the number of bytes from n to x
abbrev pub minus : ℕ → ℕ → ℕ
minus x n = (x + 2 ^ 32 - n) % 2 ^ 32

-- x <= y: fewer than 2^31 bytes lead from x to y (RFC 9293 section 3.4)
abbrev pub is_at_or_before : ℕ → ℕ → Bool
is_at_or_before x y = nat_lt (minus y x) (2 ^ 31)

-- y where x <= y, and otherwise x
abbrev pub later_of : ℕ → ℕ → ℕ
later_of x y = if is_at_or_before x y then y else x
