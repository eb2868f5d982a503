-- The words of a line: bytes without blanks, parted by blanks, which are spaces and tabs. A carriage return is no blank.
use Rattle.std.specs.Prelude.{◌≡◌, ℕ, ◌⊎◌, Option, List, [], Some, drop, slice_get, MatchOption}
use Rattle.std.specs.List.{before_first, position_or_len}
use Rattle.npf_table.specs.Line.{is_blank, after_blanks}

-- the first word of a text, empty where it has none
abbrev pub leading_word : List ℕ → List ℕ
leading_word text = before_first is_blank (after_blanks text)

-- what stands behind the first word
abbrev pub behind_word : List ℕ → List ℕ
behind_word text = drop (position_or_len is_blank (after_blanks text)) (after_blanks text)

-- nothing but blanks
abbrev pub HasNoWord : List ℕ → Type 0
HasNoWord text = after_blanks text ≡ []

-- the text's first byte is `#`
abbrev pub IsComment : List ℕ → Type 0
IsComment text = slice_get text 0 ≡ Some 35

-- lines that are no commands: comments and blank ones
abbrev pub IsSkipped : List ℕ → Type 0
IsSkipped line = IsComment line ⊎ HasNoWord line

-- the only word of a text
pub record IsOnlyWord (text word : List ℕ) : Type 0 where
  pub first : word ≡ leading_word text
  pub alone : HasNoWord (behind_word text)

-- what a reader answers: what x is read as, or that it isn't read as anything
abbrev pub IsFound : {X Y : Type 0} → (X → Y → Type 0) → X → Option Y → Type 0
IsFound {X} {Y} Reads x answer = MatchOption answer ((y : Y) → ¬ Reads x y) (λ y. Reads x y)
