-- Prefix translation of IPv6 that keeps checksums (RFC 6296): the prefix is replaced, and the first
-- word behind 48 bits takes up what the sum of the address's words would change by.
use Rattle.std.specs.Prelude.{ℕ, ◌+◌, ◌-◌, ◌*◌, ◌/◌, ◌%◌, ◌^◌}
use Rattle.npf_types.specs.declared.address.Addr.{Addr}
use Rattle.npf_types.specs.declared.address.Addr.TheVariants.{V4, V6}
use Rattle.npf_types.specs.declared.prefix.Prefix.{Prefix}
use Rattle.npf_nat.specs.Netmap.{in_block}

-- the sum of an address's first three words of 16 bits: those of a prefix of at most 48 bits
abbrev pub prefix_sum : ℕ → ℕ
prefix_sum a = a / 2 ^ 112 + a / 2 ^ 96 % 2 ^ 16 + a / 2 ^ 80 % 2 ^ 16

abbrev pub fourth_word : ℕ → ℕ
fourth_word a = a / 2 ^ 64 % 2 ^ 16

-- A word to which the old prefix's sum less the new one's is added in one's complement. Numbers of
-- 16 bits in one's complement are those modulo 65,535, in which 0xFFFF and 0 are one number (RFC
-- 1071 section 2); it is written as 0.
abbrev pub adjusted_word : ℕ → ℕ → ℕ → ℕ
adjusted_word word old_sum new_sum = (word + old_sum + (3 * 65535 - new_sum)) % 65535

abbrev pub with_fourth_word : ℕ → ℕ → ℕ
with_fourth_word a word = a / 2 ^ 80 * 2 ^ 80 + word * 2 ^ 64 + a % 2 ^ 64

-- the translation of an address between two prefixes of n bits
abbrev pub npt66_number : ℕ → ℕ → ℕ → ℕ → ℕ
npt66_number from to n a = with_fourth_word (in_block 128 to n a) (adjusted_word (fourth_word a) (prefix_sum from) (prefix_sum to))

-- an address as a number
abbrev pub address_number : Addr → ℕ
address_number (V4 a) = a
address_number (V6 a) = a

abbrev pub npt66 : Prefix → Prefix → ℕ → ℕ
npt66 from to a = npt66_number (address_number from.addr) (address_number to.addr) to.len a

-- an address translated to a block; IPv4 has no such translation, so it leaves an address of IPv4, and one for which the block
-- is of IPv4
abbrev pub translated_v6 : ℕ → Addr → ℕ → Addr → Addr
translated_v6 from (V6 to) n (V6 a) = V6 (npt66_number from to n a)
translated_v6 from (V6 _) n (V4 a) = V4 a
translated_v6 from (V4 _) n (V6 a) = V6 a
translated_v6 from (V4 _) n (V4 a) = V4 a

abbrev pub npt66_address : Prefix → Prefix → Addr → Addr
npt66_address from to addr = translated_v6 (address_number from.addr) to.addr to.len addr
