-- The words of a new table.
use Rattle.std.specs.Int.{bit_at}
use Rattle.std.proofs.Common.{◌≡◌, ◌≢◌, ◌⊎◌, ℕ, zero, suc, ◌+◌, ◌-◌, ◌*◌, ◌/◌, ◌%◌, ◌^◌, ◌<◌, ◌≤◌, Bool, true, false, cond, eqb, List, length, set}
use Rattle.std.proofs.{Common.{slice_index, replicate, refl, ap, ◌∙◌, ⊎_elim, inl, inr, arith, length-set}, lemmas.Bool.cases_eq}
use Rattle.std.proofs.lemmas.{Bool.Decides.{Decides-eqb, not_from_Decides}, List.{get_or-set_same, get_or-set_other, length-replicate}}
use Rattle.std.proofs.lemmas.Nat.Bits.{bit_at-zero, bit_at_mask_inside, bit_at_mask_below}
use Rattle.npf_cells_words.specs.declared.layout.{Layout.Layout, Pool.{Pool, TheVariants.{Slots, Nodes}}}
use Rattle.npf_cells_words.specs.{Layout.{pools_at, pool_words, pool_places, pool_at, pool_bit, root_at, word_count}, Opening.{with_past, opening_words}}

zeros : (n i : ℕ) → slice_index (replicate n 0) i ≡ 0
zeros zero i = refl
zeros (suc n) zero = refl
zeros (suc n) (suc i) = zeros n i

-- the bits past the last of so many places
module _ (at places : ℕ) (words : List ℕ) (reach : at + pool_words places ≤ length words) where
  length_past : length (with_past at places words) ≡ length words
  length_past = by_test (eqb (places % 64) 0)
    where
      by_test : (b : Bool) → length (cond b words (set words (at + places / 64) (2 ^ 64 - 2 ^ (places % 64)))) ≡ length words
      by_test true = refl
      by_test false = length-set words (at + places / 64) (2 ^ 64 - 2 ^ (places % 64))

  -- no other word changes
  past_else : (i : ℕ) → ((i < at) ⊎ (at + pool_words places ≤ i)) → slice_index (with_past at places words) i ≡ slice_index words i
  past_else i out = by_test (eqb (places % 64) 0) refl
    where
      by_test : (b : Bool) → eqb (places % 64) 0 ≡ b → slice_index (cond b words (set words (at + places / 64) (2 ^ 64 - 2 ^ (places % 64)))) i ≡ slice_index words i
      by_test true e = refl
      by_test false e =
          let ne : places % 64 ≢ 0 = not_from_Decides _ (Decides-eqb (places % 64) 0) e in
          get_or-set_other words (at + places / 64) i (2 ^ 64 - 2 ^ (places % 64)) 0
          (λ h. ⊎_elim (λ (l : i < at). omega (arith, h, l)) (λ (l : at + pool_words places ≤ i). omega (arith, h, l, ne)) out)

  module _ (idle : (i : ℕ) → at ≤ i → i < at + pool_words places → slice_index words i ≡ 0) where
    no_bit : (i p : ℕ) → slice_index words i ≡ 0 → bit_at (slice_index words i) (p % 64) ≡ 0
    no_bit i p e = ap (λ n. bit_at n (p % 64)) e ∙ bit_at-zero (p % 64)

    bit_clear : (p : ℕ) → p < places → bit_at (slice_index (with_past at places words) (at + p / 64)) (p % 64) ≡ 0
    bit_clear p h = by_test (eqb (places % 64) 0) refl
      where
        by_test : (b : Bool) → eqb (places % 64) 0 ≡ b → bit_at (slice_index (cond b words (set words (at + places / 64) (2 ^ 64 - 2 ^ (places % 64)))) (at + p / 64)) (p % 64) ≡ 0
        by_test true e = no_bit (at + p / 64) p (idle (at + p / 64) (omega arith) (omega (arith, h)))
        by_test false e = ⊎_elim
            (λ (same : at + p / 64 ≡ at + places / 64).
            let word : slice_index (set words (at + places / 64) (2 ^ 64 - 2 ^ (places % 64))) (at + p / 64) ≡ 2 ^ 64 - 2 ^ (places % 64)
            = ap (slice_index (set words (at + places / 64) (2 ^ 64 - 2 ^ (places % 64)))) same
            ∙ get_or-set_same words (at + places / 64) (2 ^ 64 - 2 ^ (places % 64)) 0 (omega (arith, reach, h, same)) in
            ap (λ n. bit_at n (p % 64)) word ∙ bit_at_mask_below (places % 64) 64 (p % 64) (omega (arith, h, same)))
            (λ (ne : at + p / 64 ≢ at + places / 64).
            ap (λ n. bit_at n (p % 64)) (get_or-set_other words (at + places / 64) (at + p / 64) (2 ^ 64 - 2 ^ (places % 64)) 0 ne)
            ∙ no_bit (at + p / 64) p (idle (at + p / 64) (omega arith) (omega (arith, h))))
            (cases_eq (at + p / 64) (at + places / 64))

    bit_past : (p : ℕ) → places ≤ p → p < 64 * pool_words places → bit_at (slice_index (with_past at places words) (at + p / 64)) (p % 64) ≡ 1
    bit_past p h k = by_test (eqb (places % 64) 0) refl
      where
        by_test : (b : Bool) → eqb (places % 64) 0 ≡ b → bit_at (slice_index (cond b words (set words (at + places / 64) (2 ^ 64 - 2 ^ (places % 64)))) (at + p / 64)) (p % 64) ≡ 1
        by_test true e = let none : places % 64 ≡ 0 = (Decides-eqb _ _).0 e in absurd (omega (arith, none, h, k))
        by_test false e =
            let ne : places % 64 ≢ 0 = not_from_Decides _ (Decides-eqb (places % 64) 0) e in
            let same : at + p / 64 ≡ at + places / 64 = omega (arith, ne, h, k) in
            let word : slice_index (set words (at + places / 64) (2 ^ 64 - 2 ^ (places % 64))) (at + p / 64) ≡ 2 ^ 64 - 2 ^ (places % 64)
            = ap (slice_index (set words (at + places / 64) (2 ^ 64 - 2 ^ (places % 64)))) same ∙ get_or-set_same words (at + places / 64) (2 ^ 64 - 2 ^ (places % 64)) 0 (omega (arith, reach, ne)) in
            ap (λ n. bit_at n (p % 64)) word ∙ bit_at_mask_inside (places % 64) 64 (p % 64) (omega (arith, h, same)) (omega arith)

module _ (layout : Layout) where
  abbrev start : List ℕ
  start = set (replicate (word_count layout) 0) 0 2

  abbrev middle : List ℕ
  middle = with_past (pool_at layout Slots) layout.slots start

  start_count : length start ≡ word_count layout
  start_count = length-set (replicate (word_count layout) 0) 0 2 ∙ length-replicate (word_count layout) 0

  pub start_zero : (i : ℕ) → 1 ≤ i → slice_index start i ≡ 0
  start_zero i h = get_or-set_other (replicate (word_count layout) 0) 0 i 2 0 (λ e. absurd (omega (arith, h, e))) ∙ zeros (word_count layout) i

  slots_reach : pool_at layout Slots + pool_words layout.slots ≤ length start
  slots_reach = let a = start_count in omega (arith, a)

  nodes_reach : pool_at layout Nodes + pool_words layout.nodes ≤ length middle
  nodes_reach = let a = start_count in let b = length_past (pool_at layout Slots) layout.slots start slots_reach in omega (arith, a, b)

  pub count : length (opening_words layout) ≡ word_count layout
  count = length_past (pool_at layout Nodes) layout.nodes middle nodes_reach ∙ (length_past (pool_at layout Slots) layout.slots start slots_reach ∙ start_count)

  -- the words before those of the pools are as at the start
  pub before : (i : ℕ) → i < pools_at → slice_index (opening_words layout) i ≡ slice_index start i
  before i h = past_else (pool_at layout Nodes) layout.nodes middle nodes_reach i (inl (omega (arith, h))) ∙ past_else (pool_at layout Slots) layout.slots start slots_reach i (inl h)

  middle_zero : (i : ℕ) → pool_at layout Nodes ≤ i → slice_index middle i ≡ 0
  middle_zero i h = past_else (pool_at layout Slots) layout.slots start slots_reach i (inr h) ∙ start_zero i (omega (arith, h))

  -- and those behind them are 0
  pub behind : (i : ℕ) → root_at layout ≤ i → slice_index (opening_words layout) i ≡ 0
  behind i h = past_else (pool_at layout Nodes) layout.nodes middle nodes_reach i (inr (omega (arith, h))) ∙ middle_zero i (omega (arith, h))

  pub clear : (pool : Pool) (p : ℕ) → p < pool_places layout pool → pool_bit layout pool (opening_words layout) p ≡ 0
  clear Slots p h =
      ap (λ n. bit_at n (p % 64)) (past_else (pool_at layout Nodes) layout.nodes middle nodes_reach (pools_at + p / 64) (inl (omega (arith, h))))
      ∙ bit_clear (pool_at layout Slots) layout.slots start slots_reach (λ i low high. start_zero i (omega (arith, low))) p h
  clear Nodes p h = bit_clear (pool_at layout Nodes) layout.nodes middle nodes_reach (λ i low high. middle_zero i low) p h

  pub past : (pool : Pool) (p : ℕ) → pool_places layout pool ≤ p → p < 64 * pool_words (pool_places layout pool) → pool_bit layout pool (opening_words layout) p ≡ 1
  past Slots p h k =
      ap (λ n. bit_at n (p % 64)) (past_else (pool_at layout Nodes) layout.nodes middle nodes_reach (pools_at + p / 64) (inl (omega (arith, k))))
      ∙ bit_past (pool_at layout Slots) layout.slots start slots_reach (λ i low high. start_zero i (omega (arith, low))) p h k
  past Nodes p h k = bit_past (pool_at layout Nodes) layout.nodes middle nodes_reach (λ i low high. middle_zero i low) p h k
