-- The block of an address and a length, as a prefix. A length past the family's width is taken for the width, so each address
-- and length has one.
use Rattle.std.specs.Prelude.{◌≡◌, ◌-◌, ◌*◌, ◌^◌, ℕ, min, refl}
use Rattle.std.proofs.Common.{ap, sym}
use Rattle.std.proofs.Math.Nat.{min-le_right, div-eq_of_eq-mul_left}
use Rattle.std.proofs.lemmas.Nat.{pow_pos}
use Rattle.npf_types.specs.declared.address.Addr.{Addr}
use Rattle.npf_types.specs.declared.address.Addr.TheVariants.{V4, V6}
use Rattle.npf_types.specs.declared.prefix.Prefix.{Prefix}
use Rattle.npf_types.specs.Address.{kept_bits}

-- what is cleared is cleared already
pub kept_again : (bits n a : ℕ) → kept_bits bits n a ≡ kept_bits bits n (kept_bits bits n a)
kept_again bits n a = sym (ap (λ q. q * 2 ^ (bits - n)) (div-eq_of_eq-mul_left (pow_pos (bits - n)) refl))

abbrev pub block : Addr → ℕ → Prefix
block (V4 a) len =
    let n = min len 32 in
    record { addr = V4 (kept_bits 32 n a); len = n; short = min-le_right len 32; zeroed = ap V4 (kept_again 32 n a) }
block (V6 a) len =
    let n = min len 128 in
    record { addr = V6 (kept_bits 128 n a); len = n; short = min-le_right len 128; zeroed = ap V6 (kept_again 128 n a) }
