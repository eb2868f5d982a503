-- The Internet checksum and its update when one 16-bit word changes (RFC 1071 section 1, RFC 1624 section 3).
use Rattle.std.specs.Prelude.{◌≡◌, ℕ, ◌+◌, ◌-◌, ◌/◌, ◌%◌}

-- the one's complement within 16 bits
abbrev pub complement16 : ℕ → ℕ
complement16 n = 65535 - n

-- the carries above 16 bits, added to the 16 bits below them
abbrev pub with_carries : ℕ → ℕ
with_carries n = n % 65536 + n / 65536

-- the end-around carry: the carries are added until 16 bits are left, for which three numbers of 16 bits need two passes
abbrev pub end_around : ℕ → ℕ
end_around n = with_carries (with_carries n)

-- the sum `sum` once the word `old` has become `new`: HC' = ~(~HC + ~m + m') (RFC 1624, equation 3)
abbrev pub adjusted_sum : ℕ → ℕ → ℕ → ℕ
adjusted_sum sum old new = complement16 (end_around (complement16 sum + complement16 old + new))

-- a sum stands for its words where all of them, the sum among them, add up to 0 in one's complement: here `word` is
-- one of them and `others` adds up the rest
abbrev pub Verifies : ℕ → ℕ → ℕ → Type 0
Verifies others word sum = (others + word + sum) % 65535 ≡ 0
