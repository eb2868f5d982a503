use Rattle.std.specs.Prelude.{◌≡◌, ℕ, ◌-◌, ◌*◌, ◌/◌, ◌^◌, ◌==◌, Bool, false}
use Rattle.npf_types.specs.declared.address.Addr.{Addr}
use Rattle.npf_types.specs.declared.address.Addr.TheVariants.{V4, V6}

-- how many bits an address of this family has (RFC 791 section 2.3, RFC 4291 section 2)
abbrev pub width : Addr → ℕ
width (V4 _) = 32
width (V6 _) = 128

-- the number that the first n of `bits` bits make
abbrev pub first_bits : ℕ → ℕ → ℕ → ℕ
first_bits bits n a = a / 2 ^ (bits - n)

-- the number with its first n bits kept and the others zero
abbrev pub kept_bits : ℕ → ℕ → ℕ → ℕ
kept_bits bits n a = a / 2 ^ (bits - n) * 2 ^ (bits - n)

-- the address with its first n bits kept and its host bits zero
abbrev pub cleared : Addr → ℕ → Addr
cleared (V4 a) n = V4 (kept_bits 32 n a)
cleared (V6 a) n = V6 (kept_bits 128 n a)

-- the two addresses are of one family and agree in their first n bits
abbrev pub SharesFirst : ℕ → Addr → Addr → Type 0
SharesFirst n (V4 a) (V4 b) = first_bits 32 n a ≡ first_bits 32 n b
SharesFirst n (V6 a) (V6 b) = first_bits 128 n a ≡ first_bits 128 n b
SharesFirst _ _ _ = ⊥

-- the test of the same
abbrev pub shares_first : ℕ → Addr → Addr → Bool
shares_first n (V4 a) (V4 b) = first_bits 32 n a == first_bits 32 n b
shares_first n (V6 a) (V6 b) = first_bits 128 n a == first_bits 128 n b
shares_first _ _ _ = false
