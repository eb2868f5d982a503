-- Which bits of a word are clear.
use Rattle.std.{specs.Int.{w64, bit_at, trailing_zeros}, proofs.Common.{◌≡◌, ◌≢◌, ◌≤◌, ◌<◌, ◌-◌, ◌/◌, ◌^◌, ◌%◌, ℕ, ap, ◌∙◌, ⊎_elim, arith}}
use Rattle.std.proofs.lemmas.{Bool.cases_eq, Nat.{shr-shr, Bits.{bit_at-zero, bit_at-trailing_zeros}}}

-- the bits below the lowest that is set
pub below_lowest_clear : (word i : ℕ) → word < 2 ^ 64 → i < trailing_zeros w64 word → bit_at word i ≡ 0
below_lowest_clear word i fits below = ⊎_elim
    (λ (none : word ≡ 0). ap (λ w. bit_at w i) none ∙ bit_at-zero i)
    (λ (some : word ≢ 0). (bit_at-trailing_zeros w64 word (omega (arith, some)) fits).2 i below)
    (cases_eq word 0)

-- a bit of a word that is shifted is one of the word
pub bit_shifted : (word place i : ℕ) → place ≤ i → bit_at (word / 2 ^ place) (i - place) ≡ bit_at word i
bit_shifted word place i from = ap (λ n. n % 2) (shr-shr word place (i - place)) ∙ ap (λ k. word / 2 ^ k % 2) (omega (arith, from))
