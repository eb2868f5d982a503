-- Numbers in network byte order, the highest byte first (RFC 791 appendix B).
use Rattle.std.specs.Prelude.{ℕ, ◌+◌, ◌*◌, ◌^◌, List, slice_index}

-- the number in the two bytes from a place on
abbrev pub number16 : List ℕ → ℕ → ℕ
number16 bytes at = 2 ^ 8 * slice_index bytes at + slice_index bytes (at + 1)

-- the number in the four bytes from a place on
abbrev pub number32 : List ℕ → ℕ → ℕ
number32 bytes at = 2 ^ 16 * number16 bytes at + number16 bytes (at + 2)

-- the number in the eight bytes from a place on
abbrev pub number64 : List ℕ → ℕ → ℕ
number64 bytes at = 2 ^ 32 * number32 bytes at + number32 bytes (at + 4)

-- the number in the sixteen bytes from a place on
abbrev pub number128 : List ℕ → ℕ → ℕ
number128 bytes at = 2 ^ 64 * number64 bytes at + number64 bytes (at + 8)
