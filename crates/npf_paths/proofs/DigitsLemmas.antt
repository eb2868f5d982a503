-- Words with the same half-bytes are one, and so are keys; digits are shared at each level, or there is a first at which they part.
use Rattle.std.proofs.{Common.{◌≡◌, ◌<◌, ◌≤◌, ◌+◌, ◌-◌, ◌*◌, ◌/◌, ◌%◌, ◌^◌, ◌⊎◌, ℕ, zero, suc, get_or, inl, inr, sym, ap, ◌∙◌, arith}, Math.Nat.mod-eq_of_lt}
use Rattle.std.proofs.lemmas.{Nat.mod-pow-add, Bool.cases_eq, Grind.same_number_lists}
use Rattle.npf_types.specs.declared.key.Key.{Key}
use Rattle.npf_paths.specs.{Digits.{half_byte_of, digit_of, SharesDigits, PartsAt}, DigitLaw.FitsWords}

-- numbers with the same lowest half-bytes have the same remainder
same_low : (a b count : ℕ) → ((place : ℕ) → place < count → a / 2 ^ (4 * place) % 16 ≡ b / 2 ^ (4 * place) % 16) → a % 2 ^ (4 * count) ≡ b % 2 ^ (4 * count)
same_low a b zero same = omega arith
same_low a b (suc count) same =
    let one_more : 4 * suc count ≡ 4 + 4 * count = omega arith in
    let lower = same_low a b count (λ place h. same place (omega arith)) in
    let top = same count (omega arith) in
    rw (one_more, mod-pow-add a 4 (4 * count), mod-pow-add b 4 (4 * count), lower, top)

same_word : (a b : ℕ) → a < 2 ^ 64 → b < 2 ^ 64 → ((place : ℕ) → place < 16 → a / 2 ^ (4 * (15 - place)) % 16 ≡ b / 2 ^ (4 * (15 - place)) % 16) → a ≡ b
same_word a b fits other_fits same =
    let turned : (place : ℕ) → place < 16 → a / 2 ^ (4 * place) % 16 ≡ b / 2 ^ (4 * place) % 16 = λ place h.
    let back : 15 - (15 - place) ≡ place = omega arith in
    rw back at (same (15 - place) (omega arith)) in
    sym (mod-eq_of_lt fits) ∙ same_low a b 16 turned ∙ mod-eq_of_lt other_fits

-- from level 15 on the digits are the half-bytes
digit_is : (hash : ℕ) (key : Key) (place : ℕ) → digit_of hash key (15 + place) ≡ half_byte_of key place
digit_is hash key place = grind arith

half_byte_is : (key : Key) (word place : ℕ) → place < 16 → half_byte_of key (16 * word + place) ≡ get_or key.0 word 0 / 2 ^ (4 * (15 - place)) % 16
half_byte_is key word place h =
    let high : (16 * word + place) / 16 ≡ word = omega arith in
    let low : (16 * word + place) % 16 ≡ place = omega arith in
    rw (high, low)

-- keys with the same half-bytes have the same words
same_words : (key other : Key) → FitsWords key → FitsWords other → ((place : ℕ) → place < 80 → half_byte_of key place ≡ half_byte_of other place) →
    (word : ℕ) → word < 5 → get_or key.0 word 0 ≡ get_or other.0 word 0
same_words key other fits other_fits same word h =
    same_word (get_or key.0 word 0) (get_or other.0 word 0) (fits.word word) (other_fits.word word)
    (λ place below. sym (half_byte_is key word place below) ∙ same (16 * word + place) (omega arith) ∙ half_byte_is other word place below)

pub same_key : (hash other_hash : ℕ) (key other : Key) → FitsWords key → FitsWords other →
    ((level : ℕ) → 15 ≤ level → level < 95 → digit_of hash key level ≡ digit_of other_hash other level) → key ≡ other
same_key hash other_hash key other fits other_fits same =
    let half_bytes : (place : ℕ) → place < 80 → half_byte_of key place ≡ half_byte_of other place = λ place h.
    sym (digit_is hash key place) ∙ same (15 + place) (omega arith) (omega arith) ∙ digit_is other_hash other place in
    ap (λ words. let made : Key = record { 0 = words } in made) (same_number_lists key.0 other.0 (fits.five ∙ sym other_fits.five)
    (λ word inside. same_words key other fits other_fits half_bytes word (omega (arith, fits.five))))

shares_or_parts : (hash : ℕ) (key : Key) (other_hash : ℕ) (other : Key) (count : ℕ) → count ≤ 95 →
    SharesDigits hash key other_hash other count ⊎ ((level : ℕ) × PartsAt hash key other_hash other level)
shares_or_parts hash key other_hash other zero h = inl (λ level below. absurd (omega arith))
shares_or_parts hash key other_hash other (suc count) h =
    elim (shares_or_parts hash key other_hash other count (omega arith)) [
      | inr parts ↦ inr parts
      | inl shares ↦ elim (cases_eq (digit_of hash key count) (digit_of other_hash other count)) [
        | inl here ↦ inl (λ level below. elim (cases_eq level count) [ inl e ↦ rw e here | inr ne ↦ shares level (omega arith) ])
        | inr here ↦ inr (count, record { within = omega arith; before = shares; here = here })
      ]
    ]

pub keys_part : (hash other_hash : ℕ) (key other : Key) → FitsWords key → FitsWords other → (key ≡ other → ⊥) →
    (level : ℕ) × PartsAt hash key other_hash other level
keys_part hash other_hash key other fits other_fits differ =
    elim (shares_or_parts hash key other_hash other 95 (omega arith)) [
      | inr parts ↦ parts
      | inl shares ↦ absurd (differ (same_key hash other_hash key other fits other_fits (λ level from below. shares level below)))
    ]
