-- Addresses that agree in their first bits.
use Rattle.std.proofs.Common.{◌≡◌, ℕ, ◌+◌, ◌-◌, ◌*◌, ◌/◌, ◌^◌, ◌<◌, ◌≤◌, sym, ap, ◌∙◌, arith}
use Rattle.std.proofs.{Math.Nat.{div-mul-le_self, div-div-eq-div-mul, le-div_iff_mul-le}, lemmas.Nat.{pow-add, pow_pos}}
use Rattle.npf_types.specs.Address.{first_bits, kept_bits}
use Rattle.npf_lpm.specs.Agree.{AgreesIn}

pub div-mono : (w x y : ℕ) → 0 < w → x ≤ y → x / w ≤ y / w
div-mono w x y pos le =
    let below : x / w * w ≤ x = div-mul-le_self x w in
    (le-div_iff_mul-le pos).1 (omega arith)

-- what lies between two addresses that agree agrees with them
pub agrees_between : (len a x b : ℕ) → a ≤ x → x ≤ b → AgreesIn len a b → AgreesIn len a x
agrees_between len a x b low high same =
    let up : first_bits 128 len a ≤ first_bits 128 len x = div-mono (2 ^ (128 - len)) a x (pow_pos (128 - len)) low in
    let down : first_bits 128 len x ≤ first_bits 128 len b = div-mono (2 ^ (128 - len)) x b (pow_pos (128 - len)) high in
    omega (arith, same)

-- addresses that agree in some bits agree in fewer
pub agrees_wider : (few len a b : ℕ) → few ≤ len → len ≤ 128 → AgreesIn len a b → AgreesIn few a b
agrees_wider few len a b le short same =
    let size : 128 - few ≡ (128 - len) + (len - few) = omega arith in
    let split : 2 ^ (128 - few) ≡ 2 ^ (128 - len) * 2 ^ (len - few) = ap (λ k. 2 ^ k) size ∙ pow-add 2 (128 - len) (len - few) in
    let parts : (x : ℕ) → x / 2 ^ (128 - few) ≡ x / 2 ^ (128 - len) / 2 ^ (len - few) = λ x. ap (λ k. x / k) split ∙ sym (div-div-eq-div-mul x (2 ^ (128 - len)) (2 ^ (len - few))) in
    parts a ∙ ap (λ q. q / 2 ^ (len - few)) same ∙ sym (parts b)

-- a block's first address is at or below the addresses that it has
pub first_below : (len first a : ℕ) → first ≡ kept_bits 128 len first → AgreesIn len first a → first ≤ a
first_below len first a zeroed same =
    let low : first ≡ a / 2 ^ (128 - len) * 2 ^ (128 - len) = zeroed ∙ ap (λ q. q * 2 ^ (128 - len)) same in
    let most : a / 2 ^ (128 - len) * 2 ^ (128 - len) ≤ a = div-mul-le_self a (2 ^ (128 - len)) in
    omega arith
