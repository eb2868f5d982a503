-- What holds of every byte of a text, and of the digits of a number.
use Rattle.std.proofs.Common.{◌≡◌, ℕ, zero, suc, ◌+◌, ◌-◌, ◌%◌, ◌<◌, ◌^◌, ◌==◌, Bool, true, false, List, [], ◌∷◌, ◌++◌, length, slice_index, decimal, refl, arith}
use Rattle.std.proofs.lemmas.{Bool.{and_parts, not-true, and_from, Decides.nat_tests}, Fmt.{decimal_by_steps, decimal_nonempty}}
use Rattle.std.{specs.{Char.{is_ascii_alphabetic, is_ascii_alphanumeric, is_ascii_digit}, List.list_all}, proofs.Math.Bool.and-false}
use Rattle.npf_lexer.specs.{ByteClass.is_run_byte, Run.{is_decimal, is_no_colon}}

-- both texts have it, so their sum has
pub all_join : (p : ℕ → Bool) (xs ys : List ℕ) → list_all p xs ≡ true → list_all p ys ≡ true → list_all p (xs ++ ys) ≡ true
all_join p [] ys h k = k
all_join p (x ∷ xs) ys h k =
    let parts = and_parts (p x) (list_all p xs) h in
    and_from (p x) (list_all p (xs ++ ys)) parts.0 (all_join p xs ys parts.1 k)

-- what follows for each byte follows for all
pub all_weaker : (p q : ℕ → Bool) → ((b : ℕ) → p b ≡ true → q b ≡ true) → (xs : List ℕ) → list_all p xs ≡ true → list_all q xs ≡ true
all_weaker p q step [] h = refl
all_weaker p q step (x ∷ xs) h =
    let parts = and_parts (p x) (list_all p xs) h in
    and_from (q x) (list_all q xs) (step x parts.0) (all_weaker p q step xs parts.1)

-- one byte that lacks it
pub one_lacks : (p : ℕ → Bool) (xs : List ℕ) (b : ℕ) (ys : List ℕ) → p b ≡ false → list_all p (xs ++ b ∷ ys) ≡ false
one_lacks p [] b ys lacks = rw lacks refl
one_lacks p (x ∷ xs) b ys lacks = rw (one_lacks p xs b ys lacks) (and-false (p x))

-- a byte at any place, and the 0 past the end
pub at_each : (p : ℕ → Bool) (xs : List ℕ) → p 0 ≡ true → list_all p xs ≡ true → (i : ℕ) → p (slice_index xs i) ≡ true
at_each p [] none h i = none
at_each p (x ∷ xs) none h zero = (and_parts (p x) (list_all p xs) h).0
at_each p (x ∷ xs) none h (suc i) = at_each p xs none (and_parts (p x) (list_all p xs) h).1 i

-- a text without colons ends in none
pub no_colon_last : (text : List ℕ) → list_all is_no_colon text ≡ true → (slice_index text (length text - 1) == 58) ≡ false
no_colon_last text all = not-true _ (at_each is_no_colon text refl all (length text - 1))

pub digit_in_run : (b : ℕ) → is_ascii_digit b ≡ true → is_run_byte b ≡ true
digit_in_run b is = grind (arith, nat_tests)

pub digit_no_colon : (b : ℕ) → is_ascii_digit b ≡ true → is_no_colon b ≡ true
digit_no_colon b is = grind (arith, nat_tests)

pub digit_alphanumeric : (b : ℕ) → is_ascii_digit b ≡ true → is_ascii_alphanumeric b ≡ true
digit_alphanumeric b is = grind (arith, nat_tests)

pub digit_no_letter : (b : ℕ) → is_ascii_digit b ≡ true → is_ascii_alphabetic b ≡ false
digit_no_letter b is = grind (arith, nat_tests)

digit_of : (n : ℕ) → n < 10 → is_ascii_digit (48 + n) ≡ true
digit_of n small = grind (arith, nat_tests)

-- numerals are digits
pub decimal_all : (n : ℕ) → n < 2 ^ 64 → list_all is_ascii_digit (decimal n) ≡ true
decimal_all n small =
    decimal_by_steps (λ k ds. list_all is_ascii_digit ds ≡ true)
    (λ k below. and_from (is_ascii_digit (48 + k)) true (digit_of k below) refl)
    (λ k ds more h. all_join is_ascii_digit ds ((48 + k % 10) ∷ []) h (and_from (is_ascii_digit (48 + k % 10)) true (digit_of (k % 10) (omega arith)) refl))
    n small

first_of : (p : ℕ → Bool) (xs : List ℕ) → 0 < length xs → list_all p xs ≡ true → p (slice_index xs 0) ≡ true
first_of p [] some h = absurd (omega (arith, some))
first_of p (x ∷ xs) some h = (and_parts (p x) (list_all p xs) h).0

pub decimal_first : (n : ℕ) → n < 2 ^ 64 → is_ascii_digit (slice_index (decimal n) 0) ≡ true
decimal_first n small = first_of is_ascii_digit (decimal n) (decimal_nonempty n small) (decimal_all n small)

pub decimal_is_decimal : (n : ℕ) → n < 2 ^ 64 → is_decimal (decimal n) ≡ true
decimal_is_decimal n small = and_from _ _ (decimal_first n small) (decimal_all n small)

pub letter_some : (text : List ℕ) → is_ascii_alphabetic (slice_index text 0) ≡ true → 0 < length text
letter_some [] is = cc
letter_some (b ∷ bs) is = omega arith
