-- The sum of words, byte by byte.
use Rattle.std.proofs.Common.{◌≡◌, ◌≤◌, ◌<◌, ℕ, suc, ◌+◌, ◌*◌, ◌%◌, ◌^◌, ◌++◌, List, [], ◌∷◌, if◌then◌else◌, length, take, get_or, sym, ap, ◌∙◌, arith}
use Rattle.std.{specs.Prelude.◌==◌, proofs.lemmas.{Bool.Decides.nat_tests, List.{length-take, take_more}}}
use Rattle.npf_possible.specs.Witness.{sum_of_pairs}

-- what a byte counts at a place
abbrev pub in_word : ℕ → ℕ → ℕ
in_word place byte = if place % 2 == 0 then 2 ^ 8 * byte else byte

in_word-next : (place byte : ℕ) → in_word (suc (suc place)) byte ≡ in_word place byte
in_word-next place byte = let e : suc (suc place) % 2 ≡ place % 2 = omega arith in ap (λ r. if r == 0 then 2 ^ 8 * byte else byte) e

sum_of_pairs-append : (xs : List ℕ) (x : ℕ) → sum_of_pairs (xs ++ x ∷ []) ≡ sum_of_pairs xs + in_word (length xs) x
sum_of_pairs-append [] x = omega arith
sum_of_pairs-append (a ∷ []) x = omega arith
sum_of_pairs-append (a ∷ b ∷ xs) x =
    let rest = sum_of_pairs-append xs x in
    let turn = in_word-next (length xs) x in
    omega (arith, rest, turn)

-- one byte more
pub pairs_more : (xs : List ℕ) (i total : ℕ) → i < length xs → total ≡ sum_of_pairs (take i xs)
    → total + in_word i (get_or xs i 0) ≡ sum_of_pairs (take (i + 1) xs)
pairs_more xs i total within is =
    let size : length (take i xs) ≡ i = omega (arith, length-take i xs) in
    ap (λ t. t + in_word i (get_or xs i 0)) is
    ∙ ap (λ n. sum_of_pairs (take i xs) + in_word n (get_or xs i 0)) (sym size)
    ∙ sym (sum_of_pairs-append (take i xs) (get_or xs i 0))
    ∙ ap sum_of_pairs (sym (take_more xs i 0 within))

pub in_word-small : (place byte : ℕ) → byte < 2 ^ 8 → in_word place byte ≤ 65280
in_word-small place byte small = grind (arith, nat_tests, small)
