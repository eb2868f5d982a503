-- An Internet checksum once words of what it sums have changed (RFC 1624, equation 3).
use Rattle.std.specs.Prelude.{ℕ, ◌==◌, if◌then◌else◌, List, [], ◌∷◌}
use Rattle.npf_fields.specs.Checksum.{adjusted_sum}
use Rattle.npf_fields.specs.Field.{number16}
use Rattle.npf_rewrite.specs.declared.word.WordAt.{WordAt}

-- A sum that comes to 0 is written as `zero`: as 0xFFFF in UDP, where 0 says that there is no sum
-- (RFC 768), and elsewhere as 0.
module _ (zero : ℕ) where
  abbrev pub never_zero : ℕ → ℕ
  never_zero sum = if sum == 0 then zero else sum

  -- the sum once the word `old` is `new`; a word that stays the same changes nothing
  abbrev pub sum_after_word : ℕ → ℕ → ℕ → ℕ
  sum_after_word sum old new = if old == new then sum else never_zero (adjusted_sum sum old new)

  -- the sum once these words of the bytes are written
  abbrev pub sum_after : List ℕ → List WordAt → ℕ → ℕ
  sum_after bytes [] sum = sum
  sum_after bytes (w ∷ ws) sum =
      sum_after bytes ws (sum_after_word sum (number16 bytes w.at) w.value)
