use Rattle.std.proofs.{Common.{◌≡◌, ◌↔◌, ◌<◌, ◌^◌, ℕ, true, arith}, lemmas.Bool.Decides.nat_tests}
use Rattle.npf_tcp.specs.Sequence.{plus, minus, is_at_or_before}

-- the bytes from x to y lead there
plus-minus : (x y : ℕ) → x < 2 ^ 32 → y < 2 ^ 32 → plus x (minus y x) ≡ y
plus-minus x y hx hy = omega arith

-- and no other number below 2^32 does
minus-plus : (x y bytes : ℕ) → x < 2 ^ 32 → bytes < 2 ^ 31 → plus x bytes ≡ y → minus y x ≡ bytes
minus-plus x y bytes hx hb e = omega arith

pub order_by_distance : (x y : ℕ) → x < 2 ^ 32 → y < 2 ^ 32 →
    (is_at_or_before x y ≡ true) ↔ ((bytes : ℕ) × (bytes < 2 ^ 31) × (plus x bytes ≡ y))
order_by_distance x y hx hy = (forwards, backwards)
  where
    forwards : is_at_or_before x y ≡ true → (bytes : ℕ) × (bytes < 2 ^ 31) × (plus x bytes ≡ y)
    forwards h = (minus y x, grind (arith, nat_tests), plus-minus x y hx hy)

    backwards : (bytes : ℕ) × (bytes < 2 ^ 31) × (plus x bytes ≡ y) → is_at_or_before x y ≡ true
    backwards h = let e = minus-plus x y h.0 hx h.1 h.2 in grind (arith, nat_tests)
