-- Which numbers a set of words has, from its words.
use Rattle.std.proofs.Common.{◌≡◌, ◌≢◌, ℕ, zero, suc, ◌+◌, ◌-◌, ◌*◌, ◌/◌, ◌%◌, ◌^◌, ◌<◌, ◌≤◌, ◌==◌, ◌&&◌, ◌||◌, true, false, not, List, length, drop}
use Rattle.std.proofs.Common.{get_or, set, replicate, min, bit_or, refl, sym, ap, ◌∙◌, inl, inr, arith, w64, get_or-set_same, get_or-set_other, eq-eqb, ne_eqb}
use Rattle.std.{specs.{Prelude.{bit_and, nat_lt}, Int.{bit_at, bit_not, trailing_zeros}}, specs.List.slice_range, proofs.lemmas.List.{get_or_past, get_or-take, get_or-drop, length-take}}
use Rattle.std.proofs.lemmas.Bool.{and_from, and_parts, both_ways, cases_eq, cases_lt, lt-ltb, le-ltb, not-true, not_from_false, true_from_ne_false}
use Rattle.std.proofs.lemmas.Nat.{and_le_l}
use Rattle.std.proofs.lemmas.Nat.Bits.{bit_at-lt, bit_at-zero, bit_at_and, bit_at_not, bit_at_ones, bit_at_ones_above, bit_at_set_same, bit_at_set_other, bit_at-trailing_zeros}
use Rattle.npf_bits.specs.Bits.{has}

pub has-word : (words : List ℕ) (n word : ℕ) → get_or words (n / 64) 0 ≡ word → has words n ≡ (bit_at word (n % 64) == 1)
unfolding has
has-word words n word is = ap (λ w. bit_at w (n % 64) == 1) is

-- past its last word a set has no number
pub has_past : (words : List ℕ) (n : ℕ) → length words ≤ n / 64 → has words n ≡ false
has_past words n past = has-word words n 0 (get_or_past words (n / 64) 0 past) ∙ ap (λ b. b == 1) (bit_at-zero (n % 64))

zeros : (count k : ℕ) → get_or {A = ℕ} (replicate count 0) k 0 ≡ 0
zeros zero k = refl
zeros (suc count) zero = refl
zeros (suc count) (suc k) = zeros count k

pub has_none : (count n : ℕ) → has (replicate count 0) n ≡ false
has_none count n = has-word (replicate count 0) n 0 (zeros count (n / 64)) ∙ ap (λ b. b == 1) (bit_at-zero (n % 64))

-- ---- a number is put into its word
pub has-insert : (words : List ℕ) (number n : ℕ) → number < 64 * length words
    → has (set words (number / 64) (bit_or (get_or words (number / 64) 0) (1 * 2 ^ (number % 64) % 2 ^ 64))) n ≡ (n == number || has words n)
has-insert words number n within =
    let k : ℕ = number / 64 in
    let word : ℕ = get_or words k 0 in
    let v : ℕ = bit_or word (1 * 2 ^ (number % 64) % 2 ^ 64) in
    let low : number % 64 < 64 = omega arith in
    let inside : k < length words = omega arith in
    elim (cases_eq n number) [
      | inl same ↦
          has-word (set words k v) n v (ap (λ m. get_or (set words k v) (m / 64) 0) same ∙ get_or-set_same words k v 0 inside)
          ∙ ap (λ m. bit_at v (m % 64) == 1) same
          ∙ eq-eqb _ 1 (bit_at_set_same w64 word (number % 64) low)
          ∙ sym (ap (λ b. b || has words n) (eq-eqb n number same))
      | inr other ↦
          other_number other
          ∙ sym (ap (λ b. b || has words n) (ne_eqb n number other))
    ]
  where
    other_number : (n ≡ number → ⊥)
        → has (set words (number / 64) (bit_or (get_or words (number / 64) 0) (1 * 2 ^ (number % 64) % 2 ^ 64))) n ≡ has words n
    other_number other =
        let k : ℕ = number / 64 in
        let word : ℕ = get_or words k 0 in
        let v : ℕ = bit_or word (1 * 2 ^ (number % 64) % 2 ^ 64) in
        let low : number % 64 < 64 = omega arith in
        let inside : k < length words = omega arith in
        elim (cases_eq (n / 64) k) [
          | inl row ↦
              has-word (set words k v) n v (ap (λ j. get_or (set words k v) j 0) row ∙ get_or-set_same words k v 0 inside)
              ∙ ap (λ b. b == 1) (bit_at_set_other w64 word (number % 64) low (n % 64) (omega arith))
              ∙ sym (has-word words n word (ap (λ j. get_or words j 0) row))
          | inr apart ↦
              has-word (set words k v) n _ (get_or-set_other words k (n / 64) v 0 apart)
              ∙ sym (has-word words n _ refl)
        ]

-- ---- two words
min_one : (a b : ℕ) → a < 2 → b < 2 → (min a b == 1) ≡ (a == 1 && b == 1)
min_one zero zero h k = refl
min_one zero (suc zero) h k = refl
min_one zero (suc (suc b)) h k = absurd (omega arith)
min_one (suc zero) zero h k = refl
min_one (suc zero) (suc zero) h k = refl
min_one (suc zero) (suc (suc b)) h k = absurd (omega arith)
min_one (suc (suc a)) b h k = absurd (omega arith)

other_one : (a : ℕ) → a < 2 → (1 - a == 1) ≡ not (a == 1)
other_one zero h = refl
other_one (suc zero) h = refl
other_one (suc (suc a)) h = absurd (omega arith)

pub bit_both : (x y i : ℕ) → (bit_at (bit_and x y) i == 1) ≡ (bit_at x i == 1 && bit_at y i == 1)
bit_both x y i = ap (λ b. b == 1) (bit_at_and x y i) ∙ min_one (bit_at x i) (bit_at y i) (bit_at-lt x i) (bit_at-lt y i)

bit_other : (x i : ℕ) → x < 2 ^ 64 → i < 64 → (bit_at (bit_not w64 x) i == 1) ≡ not (bit_at x i == 1)
bit_other x i fits low = ap (λ b. b == 1) (bit_at_not w64 x i fits low) ∙ other_one (bit_at x i) (bit_at-lt x i)

-- ---- the words of one set from those of two
pub has-intersect : (a b c : List ℕ) → length c ≡ length a → ((k : ℕ) → k < length a → get_or c k 0 ≡ bit_and (get_or a k 0) (get_or b k 0))
    → (n : ℕ) → has c n ≡ (has a n && has b n)
has-intersect a b c same words n =
    elim (cases_lt (n / 64) (length a)) [
      | inl within ↦
          has-word c n _ (words (n / 64) within)
          ∙ bit_both (get_or a (n / 64) 0) (get_or b (n / 64) 0) (n % 64)
          ∙ sym (ap (λ t. t && (bit_at (get_or b (n / 64) 0) (n % 64) == 1)) (has-word a n _ refl))
          ∙ sym (ap (λ t. has a n && t) (has-word b n _ refl))
      | inr past ↦
          has_past c n (omega arith) ∙ sym (ap (λ t. t && has b n) (has_past a n past))
    ]

pub has-difference : (a b c : List ℕ) → length c ≡ length a → ((k : ℕ) → get_or b k 0 < 2 ^ 64)
    → ((k : ℕ) → k < length a → get_or c k 0 ≡ bit_and (get_or a k 0) (bit_not w64 (get_or b k 0)))
    → (n : ℕ) → has c n ≡ (has a n && not (has b n))
has-difference a b c same fits words n =
    elim (cases_lt (n / 64) (length a)) [
      | inl within ↦
          has-word c n _ (words (n / 64) within)
          ∙ bit_both (get_or a (n / 64) 0) (bit_not w64 (get_or b (n / 64) 0)) (n % 64)
          ∙ ap (λ t. (bit_at (get_or a (n / 64) 0) (n % 64) == 1) && t) (bit_other (get_or b (n / 64) 0) (n % 64) (fits (n / 64)) (omega arith))
          ∙ sym (ap (λ t. t && not (bit_at (get_or b (n / 64) 0) (n % 64) == 1)) (has-word a n _ refl))
          ∙ sym (ap (λ t. has a n && not t) (has-word b n _ refl))
      | inr past ↦
          has_past c n (omega arith) ∙ sym (ap (λ t. t && not (has b n)) (has_past a n past))
    ]

-- ---- a word that isn't zero has a number, and one that is has none
pub has-at : (words : List ℕ) (k i : ℕ) → i < 64 → has words (64 * k + i) ≡ (bit_at (get_or words k 0) i == 1)
has-at words k i low =
    let row : (64 * k + i) / 64 ≡ k = omega arith in
    let column : (64 * k + i) % 64 ≡ i = omega arith in
    has-word words (64 * k + i) (get_or words k 0) (ap (λ j. get_or words j 0) row) ∙ ap (λ j. bit_at (get_or words k 0) j == 1) column

some_bit : (w : ℕ) → w ≢ 0 → w < 2 ^ 64 → (i : ℕ) × (i < 64) × ((bit_at w i == 1) ≡ true)
some_bit w some fits =
    let lowest = bit_at-trailing_zeros w64 w (omega arith) fits in
    (trailing_zeros w64 w, lowest.0, eq-eqb _ 1 lowest.1)

pub shared_number : (a b : List ℕ) (k : ℕ) → get_or a k 0 < 2 ^ 64 → bit_and (get_or a k 0) (get_or b k 0) ≢ 0
    → (n : ℕ) × (has a n ≡ true) × (has b n ≡ true)
shared_number a b k fits some =
    let x : ℕ = get_or a k 0 in
    let y : ℕ = get_or b k 0 in
    let bit = some_bit (bit_and x y) some (omega (arith, and_le_l x y)) in
    let both = and_parts _ _ (sym (bit_both x y bit.0) ∙ bit.2) in
    (64 * k + bit.0, has-at a k bit.0 bit.1 ∙ both.0, has-at b k bit.0 bit.1 ∙ both.1)

pub no_shared : (a b : List ℕ) → ((k : ℕ) → k < length a → bit_and (get_or a k 0) (get_or b k 0) ≡ 0)
    → (n : ℕ) → has a n ≡ true → has b n ≡ true → ⊥
no_shared a b none n in_a in_b =
    elim (cases_lt (n / 64) (length a)) [
      | inl within ↦
          let x : ℕ = get_or a (n / 64) 0 in
          let y : ℕ = get_or b (n / 64) 0 in
          let here : (bit_at (bit_and x y) (n % 64) == 1) ≡ true =
          bit_both x y (n % 64) ∙ and_from _ _ (sym (has-word a n x refl) ∙ in_a) (sym (has-word b n y refl) ∙ in_b) in
          both_ways _ (ap (λ w. bit_at w (n % 64) == 1) (none (n / 64) within) ∙ ap (λ b. b == 1) (bit_at-zero (n % 64))) here
      | inr past ↦ both_ways _ (has_past a n past) in_a
    ]

pub number_left : (a b : List ℕ) (k : ℕ) → get_or a k 0 < 2 ^ 64 → get_or b k 0 < 2 ^ 64 → bit_and (get_or a k 0) (bit_not w64 (get_or b k 0)) ≢ 0
    → ((n : ℕ) → has a n ≡ true → has b n ≡ true) → ⊥
number_left a b k fits other some within =
    let x : ℕ = get_or a k 0 in
    let y : ℕ = get_or b k 0 in
    let bit = some_bit (bit_and x (bit_not w64 y)) some (omega (arith, and_le_l x (bit_not w64 y))) in
    let both = and_parts _ _ (sym (bit_both x (bit_not w64 y) bit.0) ∙ bit.2) in
    let apart : (bit_at y bit.0 == 1) ≡ false = not-true _ (sym (bit_other y bit.0 other bit.1) ∙ both.1) in
    both_ways _ (has-at b k bit.0 bit.1 ∙ apart) (within (64 * k + bit.0) (has-at a k bit.0 bit.1 ∙ both.0))

pub none_left : (a b : List ℕ) → ((k : ℕ) → get_or b k 0 < 2 ^ 64)
    → ((k : ℕ) → k < length a → bit_and (get_or a k 0) (bit_not w64 (get_or b k 0)) ≡ 0)
    → (n : ℕ) → has a n ≡ true → has b n ≡ true
none_left a b fits none n in_a =
    elim (cases_lt (n / 64) (length a)) [
      | inl within ↦
          let x : ℕ = get_or a (n / 64) 0 in
          let y : ℕ = get_or b (n / 64) 0 in
          true_from_ne_false _ (λ out.
          let rest : (bit_at (bit_not w64 y) (n % 64) == 1) ≡ true =
          bit_other y (n % 64) (fits (n / 64)) (omega arith) ∙ not_from_false _ (sym (has-word b n y refl) ∙ out) in
          let here : (bit_at (bit_and x (bit_not w64 y)) (n % 64) == 1) ≡ true =
          bit_both x (bit_not w64 y) (n % 64) ∙ and_from _ _ (sym (has-word a n x refl) ∙ in_a) rest in
          both_ways _ (ap (λ w. bit_at w (n % 64) == 1) (none (n / 64) within) ∙ ap (λ b. b == 1) (bit_at-zero (n % 64))) here)
      | inr past ↦ absurd (both_ways _ (has_past a n past) in_a)
    ]

-- ---- the least number
pub first_number : (words : List ℕ) (k : ℕ) → get_or words k 0 ≢ 0 → get_or words k 0 < 2 ^ 64 → ((j : ℕ) → j < k → get_or words j 0 ≡ 0)
    → (has words (64 * k + trailing_zeros w64 (get_or words k 0)) ≡ true)
    × ((n : ℕ) → n < 64 * k + trailing_zeros w64 (get_or words k 0) → has words n ≡ false)
first_number words k some fits before =
    let w : ℕ = get_or words k 0 in
    let lowest = bit_at-trailing_zeros w64 w (omega arith) fits in
    let low : trailing_zeros w64 w < 64 = lowest.0 in (
      has-at words k (trailing_zeros w64 w) low ∙ eq-eqb _ 1 lowest.1,
      λ n below. elim (cases_lt (n / 64) k) [
        | inl earlier ↦ has-word words n 0 (before (n / 64) earlier) ∙ ap (λ b. b == 1) (bit_at-zero (n % 64))
        | inr here ↦
            let row : n / 64 ≡ k = omega arith in
            let column : n % 64 < trailing_zeros w64 w = omega arith in
            has-word words n w (ap (λ j. get_or words j 0) row) ∙ ap (λ b. b == 1) (lowest.2 (n % 64) column)
      ],
    )

pub no_number : (words : List ℕ) → ((k : ℕ) → k < length words → get_or words k 0 ≡ 0) → (n : ℕ) → has words n ≡ false
no_number words none n =
    elim (cases_lt (n / 64) (length words)) [
      | inl within ↦ has-word words n 0 (none (n / 64) within) ∙ ap (λ b. b == 1) (bit_at-zero (n % 64))
      | inr past ↦ has_past words n past
    ]

-- ---- the numbers below a count
pub has_filled : (words : List ℕ) (count : ℕ) → count ≤ 64 * length words
    → ((k : ℕ) → k < length words → get_or words k 0 ≡ 2 ^ min (count - 64 * k) 64 - 1)
    → (n : ℕ) → has words n ≡ nat_lt n count
has_filled words count room filled n =
    elim (cases_lt (n / 64) (length words)) [
      | inl within ↦
          let ones : ℕ = min (count - 64 * (n / 64)) 64 in
          has-word words n (2 ^ ones - 1) (filled (n / 64) within)
          ∙ (elim (cases_lt n count) as (λ _. (bit_at (2 ^ ones - 1) (n % 64) == 1) ≡ nat_lt n count) [
            | inl below ↦
                let low : n % 64 < ones = omega arith in
                eq-eqb _ 1 (bit_at_ones ones (n % 64) low) ∙ sym (lt-ltb n count below)
            | inr above ↦
                let high : ones ≤ n % 64 = omega arith in
                ap (λ b. b == 1) (bit_at_ones_above ones (n % 64) high) ∙ sym (le-ltb n count above)
          ])
      | inr past ↦ has_past words n past ∙ sym (le-ltb n count (omega arith))
    ]

-- ---- a part of the words
pub has_range : (words : List ℕ) (from to n : ℕ) → n / 64 < to - from → has (slice_range words from to) n ≡ has words (64 * from + n)
has_range words from to n within =
    let row : (64 * from + n) / 64 ≡ from + n / 64 = omega arith in
    let column : (64 * from + n) % 64 ≡ n % 64 = omega arith in
    let word : get_or (slice_range words from to) (n / 64) 0 ≡ get_or words ((64 * from + n) / 64) 0 =
    get_or-take (to - from) (drop from words) (n / 64) 0 within
    ∙ get_or-drop from words (n / 64) 0
    ∙ sym (ap (λ j. get_or words j 0) row) in
    has-word (slice_range words from to) n _ word
    ∙ sym (ap (λ j. bit_at (get_or words ((64 * from + n) / 64) 0) j == 1) column)
    ∙ sym (has-word words (64 * from + n) _ refl)

pub has_range_past : (words : List ℕ) (from to n : ℕ) → to - from ≤ n / 64 → has (slice_range words from to) n ≡ false
has_range_past words from to n past =
    has_past (slice_range words from to) n (omega (arith, length-take {A = ℕ} (to - from) (drop from words)))
