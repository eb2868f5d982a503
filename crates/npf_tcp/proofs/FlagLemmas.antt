use Rattle.std.proofs.{Common.{◌≡◌, ◌==◌, ℕ, ◌*◌, ◌^◌, ◌<◌, not, arith, zero, suc, refl, zero-mul, one-mul}, lemmas.{Bool.Decides.nat_tests, Nat.pow_pos}}
use Rattle.std.{proofs.lemmas.Nat.Bits.and_pow, specs.{Int.bit_at, Prelude.bit_and}}

-- a bit times a power
scaled_test : (b p : ℕ) → 0 < p → b < 2 → not (b * p == 0) ≡ (b == 1)
scaled_test zero p h k = rw (zero-mul p) refl
scaled_test (suc zero) p h k = rw (one-mul p) (grind (arith, nat_tests))
scaled_test (suc (suc b)) p h k = absurd (omega arith)

-- the mask of one bit leaves something exactly where the bit is set
pub masked : (flags k : ℕ) → not (bit_and flags (2 ^ k) == 0) ≡ (bit_at flags k == 1)
masked flags k = rw (and_pow flags k) (scaled_test (bit_at flags k) (2 ^ k) (pow_pos k) (omega arith))
