-- The numbers of a range of bytes are those of all bytes, that many places on.
use Rattle.std.proofs.{Common.{ℕ, ◌≡◌, ◌<◌, ◌≤◌, ◌+◌, ◌-◌, ◌∙◌, List, length, drop, arith}, lemmas.{Grind.common_steps, List.get_or-take}}
use Rattle.std.specs.Prelude.{slice_index, slice_range}
use Rattle.npf_fields.{specs.Field.{number16, number32, number64, number128}, proofs.FieldNumbers.byte-drop}

module _ (bytes : List ℕ) (from to : ℕ) where
  pub length-range : to ≤ length bytes → length (slice_range bytes from to) ≡ to - from
  length-range within = grind (arith, common_steps)

  pub byte-range : (k p : ℕ) → p ≡ from + k → p < to
      → slice_index (slice_range bytes from to) k ≡ slice_index bytes p
  byte-range k p e within = get_or-take (to - from) (drop from bytes) k 0 (omega arith)
      ∙ byte-drop bytes from k p e

  pub number16-range : (k p : ℕ) → p ≡ from + k → p + 2 ≤ to
      → number16 (slice_range bytes from to) k ≡ number16 bytes p
  number16-range k p e within =
      omega (
        arith,
        byte-range k p e (omega arith),
        byte-range (k + 1) (p + 1) (omega arith) (omega arith),
      )

  pub number32-range : (k p : ℕ) → p ≡ from + k → p + 4 ≤ to
      → number32 (slice_range bytes from to) k ≡ number32 bytes p
  number32-range k p e within =
      omega (
        arith,
        number16-range k p e (omega arith),
        number16-range (k + 2) (p + 2) (omega arith) (omega arith),
      )

  pub number64-range : (k p : ℕ) → p ≡ from + k → p + 8 ≤ to
      → number64 (slice_range bytes from to) k ≡ number64 bytes p
  number64-range k p e within =
      omega (
        arith,
        number32-range k p e (omega arith),
        number32-range (k + 4) (p + 4) (omega arith) (omega arith),
      )

  pub number128-range : (k p : ℕ) → p ≡ from + k → p + 16 ≤ to
      → number128 (slice_range bytes from to) k ≡ number128 bytes p
  number128-range k p e within =
      omega (
        arith,
        number64-range k p e (omega arith),
        number64-range (k + 8) (p + 8) (omega arith) (omega arith),
      )
