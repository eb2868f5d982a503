-- The 16-bit words of a packet, in which the Internet checksum counts (RFC 1071 section 1), and
-- what its bytes are once some are written.
use Rattle.std.specs.Prelude.{◌≡◌, ℕ, ◌+◌, ◌/◌, ◌%◌, ◌^◌, ◌≤◌, ◌==◌, if◌then◌else◌, Option, Some, None, List, [], ◌∷◌, length, slice_index, ⊤}
use Rattle.npf_rewrite.specs.declared.word.WordAt.{WordAt}

abbrev pub word : ℕ → ℕ → WordAt
word at value = record { at = at; value = value }

-- the word at a place, where its value is named
abbrev pub named_word : ℕ → Option ℕ → Option WordAt
named_word at (Some value) = Some (word at value)
named_word at None = None

-- no word or one
abbrev pub word_list : Option WordAt → List WordAt
word_list (Some w) = w ∷ []
word_list None = []

-- the byte at a place, which was `byte`, once a word is written, its upper half first
abbrev pub byte_after : WordAt → ℕ → ℕ → ℕ
byte_after w at byte =
    if at == w.at then w.value / 2 ^ 8
    else (if at == w.at + 1 then w.value % 2 ^ 8 else byte)

-- the byte at a place once these words are written
abbrev pub byte_there : List WordAt → ℕ → ℕ → ℕ
byte_there [] at byte = byte
byte_there (w ∷ ws) at byte = byte_there ws at (byte_after w at byte)

-- these words are written in their order, and every other byte is the same
pub record Rewrites (old : List ℕ) (words : List WordAt) (new : List ℕ) : Type 0 where
  pub size : length new ≡ length old
  pub each : (at : ℕ) → slice_index new at ≡ byte_there words at (slice_index old at)

-- each word lies within so many bytes
abbrev pub AllWithin : ℕ → List WordAt → Type 0
AllWithin size [] = ⊤
AllWithin size (w ∷ ws) = (w.at + 2 ≤ size) × AllWithin size ws
