-- The words of a header's addresses add up to the addresses in one's complement, in which 2 ^ 16 is 1.
use Rattle.std.{proofs.Common.{◌≡◌, ℕ, ◌+◌, ◌%◌, ap, refl, List, arith}, specs.Prelude.slice_index}
use Rattle.npf_fields.specs.Field.{number128}
use Rattle.npf_types.specs.declared.address.Addr.TheVariants.{V6}
use Rattle.npf_rewrite.{specs.Verified.{addresses_total, words_total}, proofs.TotalLemmas.words_total-split}

-- the eight words of an address
words_are : (bytes : List ℕ) (at : ℕ) → words_total (slice_index bytes) at 8 % 65535 ≡ number128 bytes at % 65535
words_are bytes at =
    let f = slice_index bytes in
    let four : at + 2 + 2 ≡ at + 4 = omega arith in
    let six : at + 2 + 2 + 2 ≡ at + 4 + 2 = omega arith in
    let eight : at + 2 + 2 + 2 + 2 ≡ at + 8 = omega arith in
    let ten : at + 2 + 2 + 2 + 2 + 2 ≡ at + 8 + 2 = omega arith in
    let twelve : at + 2 + 2 + 2 + 2 + 2 + 2 ≡ at + 8 + 4 = omega arith in
    let fourteen : at + 2 + 2 + 2 + 2 + 2 + 2 + 2 ≡ at + 8 + 4 + 2 = omega arith in
    omega (
      arith,
      ap f four,
      ap (λ k. f (k + 1)) four,
      ap f six,
      ap (λ k. f (k + 1)) six,
      ap f eight,
      ap (λ k. f (k + 1)) eight,
      ap f ten,
      ap (λ k. f (k + 1)) ten,
      ap f twelve,
      ap (λ k. f (k + 1)) twelve,
      ap f fourteen,
      ap (λ k. f (k + 1)) fourteen,
    )

-- and those of the two of a header of IPv6
pub addresses_are : (bytes : List ℕ) (ip a : ℕ)
    → addresses_total (slice_index bytes) ip (V6 a) % 65535
    ≡ (number128 bytes (ip + 8) + number128 bytes (ip + 24)) % 65535
addresses_are bytes ip a =
    let both = words_total-split (slice_index bytes) (ip + 8) (ip + 24) 8 8 16 (omega arith) refl in
    omega (arith, both, words_are bytes (ip + 8), words_are bytes (ip + 24))
