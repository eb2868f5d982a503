-- What a fraction of a second writes.
use Rattle.std.proofs.Common.{◌≡◌, ◌≤◌, ◌<◌, ◌+◌, ◌-◌, ◌*◌, ◌^◌, ℕ, Option, Some, None, List, length, refl, sym, ap, subst, ◌∙◌, arith}
use Rattle.std.{proofs.{lemmas.{Int.Digits.digits_value-lt, Nat.pow-add}, Math.Nat.{mul-lt-mul_of_pos_right, pow-le-pow_right}}, specs.Str.Parse.digits_value}
use Rattle.npf_ctl_script.specs.Numbers.{IsFraction, IsNumeralBelow}

-- nine digits at most write less than a second
pub below_second : (digits : List ℕ) (number : ℕ) → IsNumeralBelow (2 ^ 64) digits number → length digits ≤ 9 → number * 10 ^ (9 - length digits) < 1000000000
below_second digits number is short =
    let low : number < 10 ^ length digits = subst (λ (n : ℕ). n < 10 ^ length digits) is.value (digits_value-lt 10 digits is.numeral.1) in
    let sum : 9 ≡ length digits + (9 - length digits) = omega (arith, short) in
    let whole : 1000000000 ≡ 10 ^ length digits * 10 ^ (9 - length digits) = ap (λ (n : ℕ). 10 ^ n) sum ∙ pow-add 10 (length digits) (9 - length digits) in
    let none : 0 ≤ 9 - length digits = omega arith in
    let some : 1 ≤ 10 ^ (9 - length digits) = pow-le-pow_right {n = 10} (omega arith) none in
    let product : number * 10 ^ (9 - length digits) < 10 ^ length digits * 10 ^ (9 - length digits) = mul-lt-mul_of_pos_right low some in
    omega (arith, product, whole)

-- a fraction's digits fit in 64 bits
pub fraction_fits : (digits : List ℕ) (nanoseconds : ℕ) → IsFraction digits nanoseconds → IsNumeralBelow (2 ^ 64) digits (digits_value 10 digits)
fraction_fits digits nanoseconds is =
    let low : digits_value 10 digits < 10 ^ length digits = digits_value-lt 10 digits is.numeral.1 in
    let most : 10 ^ length digits ≤ 1000000000 = pow-le-pow_right {n = 10} (omega arith) is.short in
    record { numeral = is.numeral; value = refl; fits = omega (arith, low, most) }
