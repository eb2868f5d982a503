-- A table file: its lines part at line feeds, and each is blank or an entry.
use Rattle.std.specs.Prelude.{◌≡◌, ◌==◌, ◌+◌, ◌<◌, ◌↔◌, ℕ, Bool, List, Some, Contains, slice_get}
use Rattle.std.specs.List.{slice_split}
use Rattle.npf_model.specs.declared.table.Kind.{Kind}
use Rattle.npf_types.specs.declared.prefix.Prefix.{Prefix}
use Rattle.npf_table.specs.Line.{IsEntry, IsBad}

abbrev pub is_line_feed : ℕ → Bool
is_line_feed byte = byte == 10

-- the lines of a text
abbrev pub lines : List ℕ → List (List ℕ)
lines text = slice_split is_line_feed text

-- some of these lines writes the prefix
pub record Writes (kind : Kind) (all : List (List ℕ)) (prefix : Prefix) : Type 0 where
  pub line : List ℕ
  pub among : Contains all line
  pub entry : IsEntry kind line prefix

-- the prefixes are those that the lines write, and no line is bad
pub record AreEntries (kind : Kind) (all : List (List ℕ)) (prefixes : List Prefix) : Type 0 where
  pub written : (prefix : Prefix) → Contains prefixes prefix ↔ Writes kind all prefix
  pub none_bad : (line : List ℕ) → Contains all line → ¬ IsBad kind line

-- the line with this number, from 1, is the first bad one
pub record IsFirstBadLine (kind : Kind) (all : List (List ℕ)) (number : ℕ) : Type 0 where
  pub before : ℕ
  pub counted : number ≡ before + 1
  pub line : List ℕ
  pub there : slice_get all before ≡ Some line
  pub bad : IsBad kind line
  pub first : (k : ℕ) → k < before → (earlier : List ℕ) → slice_get all k ≡ Some earlier → ¬ IsBad kind earlier
