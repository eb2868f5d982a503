-- The first bits of a number of several words, by the first bits of its words; and the words of a
-- packet.
use Rattle.std.proofs.Common.{◌≡◌, ℕ, zero, suc, ◌+◌, ◌-◌, ◌<◌, ◌≤◌, Bool, true, false, List, Some, None, refl, sym, ap, subst, ◌∙◌, arith, ⊎_elim}
use Rattle.std.specs.Prelude.{◌*◌, ◌/◌, ◌^◌, ◌==◌, ◌&&◌, if◌then◌else◌, nat_lt, min, length, slice_index}
use Rattle.std.proofs.Math.Nat.{add-mul-div_left, div-div-eq-div-mul, mul_comm, mul_assoc, min-eq_left, min-eq_right}
use Rattle.std.proofs.lemmas.Nat.{pow-add, pow_pos, div-mul-add, div_below, same_from_place, shr_below}
use Rattle.std.proofs.lemmas.Bool.{and_from, and_parts, cases_lt, eq-eqb, eqb-true, false≢true, le-leb, lt-ltb}
use Rattle.npf_types.specs.Address.{first_bits}
use Rattle.npf_fields.specs.Field.{number16, number32, number64}
use Rattle.npf_bpf.specs.{declared.operation.Width.TheVariants.{Word, Half, Byte}, Load.loaded}
use Rattle.npf_bpfgen.specs.Premise.{AreBytes}

-- two tests that hold together are one
pub same_test : (a b : Bool) → (a ≡ true → b ≡ true) → (b ≡ true → a ≡ true) → a ≡ b
same_test true true to from = refl
same_test true false to from = absurd (false≢true (to refl))
same_test false true to from = absurd (false≢true (from refl))
same_test false false to from = refl

pub eq_turned : (a b : ℕ) → (a == b) ≡ (b == a)
eq_turned a b = same_test (a == b) (b == a) (λ e. eq-eqb b a (sym (eqb-true a b e))) (λ e. eq-eqb a b (sym (eqb-true b a e)))

with_true : (a : Bool) → a ≡ (a && true)
with_true true = refl
with_true false = refl

module _ (w n h l : ℕ) where
  -- bits of the high word alone
  in_high : l < 2 ^ w → n ≤ w → first_bits (w + w) n (2 ^ w * h + l) ≡ first_bits w n h
  in_high below within =
      let places : w + w - n ≡ w + (w - n) = omega arith in
      ap (λ (k : ℕ). (2 ^ w * h + l) / 2 ^ k) places
      ∙ ap (λ (d : ℕ). (2 ^ w * h + l) / d) (pow-add 2 w (w - n))
      ∙ sym (div-div-eq-div-mul (2 ^ w * h + l) (2 ^ w) (2 ^ (w - n)))
      ∙ ap (λ (t : ℕ). (t + l) / 2 ^ w / 2 ^ (w - n)) (mul_comm (2 ^ w) h)
      ∙ ap (λ (q : ℕ). q / 2 ^ (w - n)) (div-mul-add h (2 ^ w) l below)

-- the high word and n bits of the low one
in_low : (w n h l : ℕ) → n ≤ w
    → first_bits (w + w) (w + n) (2 ^ w * h + l) ≡ h * 2 ^ n + first_bits w n l
in_low w n h l within =
    let places : w + w - (w + n) ≡ w - n = omega arith in
    let parts : w ≡ (w - n) + n = omega arith in
    let product : 2 ^ w * h ≡ 2 ^ (w - n) * (h * 2 ^ n) =
    ap (λ (k : ℕ). 2 ^ k * h) parts ∙ ap (λ (t : ℕ). t * h) (pow-add 2 (w - n) n)
    ∙ mul_assoc (2 ^ (w - n)) (2 ^ n) h ∙ ap (λ (t : ℕ). 2 ^ (w - n) * t) (mul_comm (2 ^ n) h) in
    let turned : 2 ^ w * h + l ≡ l + 2 ^ (w - n) * (h * 2 ^ n) = omega (arith, product) in
    let sum : l / 2 ^ (w - n) + h * 2 ^ n ≡ h * 2 ^ n + l / 2 ^ (w - n) = omega arith in
    ap (λ (k : ℕ). (2 ^ w * h + l) / 2 ^ k) places
    ∙ ap (λ (t : ℕ). t / 2 ^ (w - n)) turned
    ∙ add-mul-div_left l (h * 2 ^ n) (pow_pos (w - n)) ∙ sum

high_alone : (a b c d e f : ℕ) → a ≡ c → b ≡ d → e ≡ 0 → f ≡ 0
    → (a == b) ≡ ((c == d) && (e == f))
high_alone a b c d e f ac bd e0 f0 =
    ap (λ (x : ℕ). x == b) ac ∙ ap (λ (x : ℕ). c == x) bd ∙ with_true (c == d)
    ∙ ap (λ (x : ℕ). (c == d) && (x == 0)) (sym e0) ∙ ap (λ (x : ℕ). (c == d) && (e == x)) (sym f0)

high_and_low : (m a b h k l j c d : ℕ) → l < m → j < m → a ≡ h * m + l → b ≡ k * m + j
    → c ≡ h → d ≡ k → (a == b) ≡ ((c == d) && (l == j))
high_and_low m a b h k l j c d lm jm ah bk ch dk = same_test (a == b) ((c == d) && (l == j))
    (λ e.
    let parts = same_from_place h l k j m lm jm (sym ah ∙ eqb-true a b e ∙ bk) in
    and_from (c == d) (l == j) (eq-eqb c d (ch ∙ parts.0 ∙ sym dk)) (eq-eqb l j parts.1))
    (λ e.
    let parts = and_parts (c == d) (l == j) e in
    let highs : h ≡ k = sym ch ∙ eqb-true c d parts.0 ∙ dk in
    eq-eqb a b (ah ∙ ap (λ (x : ℕ). x * m + l) highs ∙ ap (λ (x : ℕ). k * m + x) (eqb-true l j parts.1) ∙ sym bk))

-- two numbers of two words each share their first n bits where both words share those that lie there
pub shared_by_words : (w n h l k j : ℕ) → l < 2 ^ w → j < 2 ^ w → n ≤ w + w
    → (first_bits (w + w) n (2 ^ w * h + l) == first_bits (w + w) n (2 ^ w * k + j))
    ≡ ((first_bits w (min n w) h == first_bits w (min n w) k) && (first_bits w (n - w) l == first_bits w (n - w) j))
shared_by_words w n h l k j lw jw within = ⊎_elim
    (λ (beyond : w < n).
    let m : n ≡ w + (n - w) = omega arith in
    let small : n - w ≤ w = omega arith in
    let full : min n w ≡ w = min-eq_right (omega arith) in
    let bits : w ≡ (n - w) + (w - (n - w)) = omega arith in
    let none : w - w ≡ 0 = omega arith in
    let whole : (x : ℕ) → first_bits w (min n w) x ≡ x = λ x.
    ap (λ (t : ℕ). first_bits w t x) full ∙ ap (λ (t : ℕ). x / 2 ^ t) none ∙ omega arith in
    let low : (x : ℕ) → x < 2 ^ w → first_bits w (n - w) x < 2 ^ (n - w) = λ x lt.
    shr_below x (n - w) (w - (n - w)) (subst (λ (t : ℕ). x < 2 ^ t) bits lt) in
    high_and_low (2 ^ (n - w)) _ _ h k _ _ _ _ (low l lw) (low j jw)
    (ap (λ (t : ℕ). first_bits (w + w) t (2 ^ w * h + l)) m ∙ in_low w (n - w) h l small)
    (ap (λ (t : ℕ). first_bits (w + w) t (2 ^ w * k + j)) m ∙ in_low w (n - w) k j small)
    (whole h) (whole k))
    (λ (inside : n ≤ w).
    let full : min n w ≡ n = min-eq_left inside in
    let no_bits : n - w ≡ 0 = omega arith in
    let none : (x : ℕ) → x < 2 ^ w → first_bits w (n - w) x ≡ 0 = λ x lt.
    let low : x / 2 ^ w < 1 = div_below x (2 ^ w) 1 (pow_pos w) (omega arith) in
    let all : w - 0 ≡ w = omega arith in
    ap (λ (t : ℕ). first_bits w t x) no_bits ∙ ap (λ (t : ℕ). x / 2 ^ t) all ∙ omega (arith, low) in
    high_alone _ _ _ _ _ _
    (in_high w n h l lw inside ∙ ap (λ (t : ℕ). first_bits w t h) (sym full))
    (in_high w n k j jw inside ∙ ap (λ (t : ℕ). first_bits w t k) (sym full))
    (none l lw) (none j jw))
    (cases_lt w n)

-- a shift by 32 leaves nothing of a word
pub shifted_word : (n w : ℕ) → w < 2 ^ 32 → n ≤ 32
    → (if nat_lt (32 - n) 32 then w / 2 ^ (32 - n) else 0) ≡ first_bits 32 n w
shifted_word zero w below within = omega arith
shifted_word (suc n) w below within =
    ap (λ (test : Bool). if test then w / 2 ^ (32 - suc n) else 0) (lt-ltb (32 - suc n) 32 (omega arith))

module _ (p : List ℕ) where
  pub number16_below : AreBytes p → (at : ℕ) → number16 p at < 2 ^ 16
  number16_below bytes at = omega (arith, bytes at, bytes (at + 1))

  pub number32_below : AreBytes p → (at : ℕ) → number32 p at < 2 ^ 32
  number32_below bytes at = omega (arith, number16_below bytes at, number16_below bytes (at + 2))

  pub number64_below : AreBytes p → (at : ℕ) → number64 p at < 2 ^ 64
  number64_below bytes at = omega (arith, number32_below bytes at, number32_below bytes (at + 4))

  pub word_loaded : (at : ℕ) → at + 4 ≤ length p → loaded p Word at ≡ Some (number32 p at)
  word_loaded at within = ap (λ (test : Bool). if test then Some (number32 p at) else None) (le-leb _ _ within)

  pub half_loaded : (at : ℕ) → at + 2 ≤ length p → loaded p Half at ≡ Some (number16 p at)
  half_loaded at within = ap (λ (test : Bool). if test then Some (number16 p at) else None) (le-leb _ _ within)

  pub byte_loaded : (at : ℕ) → at + 1 ≤ length p → loaded p Byte at ≡ Some (slice_index p at)
  byte_loaded at within = ap (λ (test : Bool). if test then Some (slice_index p at) else None) (le-leb _ _ within)
