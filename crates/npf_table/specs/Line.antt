-- A line of a table file: it is blank, or has one entry that the table's kind takes, or is bad. Spaces and tabs may stand
-- round an entry, and a comment from `#` on behind it. A carriage return is no blank, and part of a comment that it stands in.
use Rattle.std.specs.Prelude.{◌≡◌, ◌==◌, ◌||◌, ◌-◌, ℕ, Bool, List, [], take, drop, length}
use Rattle.std.specs.List.{before_first, prefix_len, suffix_len}
use Rattle.npf_model.specs.declared.table.Kind.{Kind}
use Rattle.npf_model.specs.declared.table.Kind.TheVariants.{Ipset, Lpm, Const}
use Rattle.npf_types.specs.declared.prefix.Prefix.{Prefix}
use Rattle.npf_types.specs.Address.{width}
use Rattle.npf_table.specs.declared.line.Line.{Line}
use Rattle.npf_table.specs.declared.line.Line.TheVariants.{Blank, Entry, Bad}
use Rattle.npf_table.specs.PrefixText.{IsPrefixText}
use Rattle.npf_types.specs.Reading.{IsOnly}

abbrev pub is_blank : ℕ → Bool
is_blank byte = byte == 32 || byte == 9

abbrev pub is_hash : ℕ → Bool
is_hash byte = byte == 35

-- the text without the blanks at its front
abbrev pub after_blanks : List ℕ → List ℕ
after_blanks text = drop (prefix_len is_blank text) text

-- the text without the blanks at its end
abbrev pub before_blanks : List ℕ → List ℕ
before_blanks text = take (length text - suffix_len is_blank text) text

-- what a line has besides its comment and the blanks round it
abbrev pub entry_text : List ℕ → List ℕ
entry_text line = before_blanks (after_blanks (before_first is_hash line))

-- nothing but blanks stands before a comment
abbrev pub IsBlankLine : List ℕ → Type 0
IsBlankLine line = entry_text line ≡ []

-- the prefix is a single address
abbrev pub IsHost : Prefix → Type 0
IsHost prefix = prefix.len ≡ width prefix.addr

-- a table of this kind may have the prefix: only an `lpm` table has others than single addresses
abbrev pub Takes : Kind → Prefix → Type 0
Takes Ipset prefix = IsHost prefix
Takes Lpm prefix = Unit {0}
Takes Const prefix = IsHost prefix

-- the line isn't blank and writes the prefix, as a table of this kind may have it
pub record IsEntry (kind : Kind) (line : List ℕ) (prefix : Prefix) : Type 0 where
  pub not_blank : ¬ IsBlankLine line
  pub written : IsPrefixText (entry_text line) prefix
  pub taken : Takes kind prefix

-- the line is neither blank nor an entry
pub record IsBad (kind : Kind) (line : List ℕ) : Type 0 where
  pub not_blank : ¬ IsBlankLine line
  pub no_entry : (prefix : Prefix) → ¬ IsEntry kind line prefix

-- what a line is; an entry is one prefix only, and no line is two of these
abbrev pub IsLine : Kind → List ℕ → Line → Type 0
IsLine kind line Blank = IsBlankLine line × ((prefix : Prefix) → ¬ IsEntry kind line prefix)
IsLine kind line (Entry prefix) = IsOnly (IsEntry kind) line prefix
IsLine kind line Bad = IsBad kind line
