use Rattle.std.proofs.{Common.{◌≡◌, ℕ, ◌-◌, ◌*◌, ◌^◌, refl, ap}, Math.Nat.div-eq_of_eq-mul_left, lemmas.Nat.pow_pos}
use Rattle.npf_types.specs.Address.{kept_bits}

-- what is cleared is cleared already
pub kept_bits-kept_bits : (bits n a : ℕ) → kept_bits bits n (kept_bits bits n a) ≡ kept_bits bits n a
kept_bits-kept_bits bits n a = ap (λ q. q * 2 ^ (bits - n)) (div-eq_of_eq-mul_left (pow_pos (bits - n)) refl)

pub ruleset clearing = (kept_bits-kept_bits)
