-- A text without what holds a place: the innermost statement, item or call, or, where the text has no tokens, the line.
use Rattle.std.specs.Prelude.{◌≡◌, ℕ, ◌+◌, ◌-◌, ◌==◌, if◌then◌else◌, Ok, Err, List, [], ◌++◌, drop, length, map, take}
use Rattle.std.specs.List.{prefix_len}
use Rattle.npf_types.specs.Reading.{IsOnly}
use Rattle.npf_types.specs.declared.span.Span.{Span}
use Rattle.npf_faults.specs.declared.fault.ConfFault.{ConfFault}
use Rattle.npf_lexer.specs.ByteClass.{is_line_byte}
use Rattle.npf_lexer.specs.Lexer.{IsLexed}
use Rattle.npf_lexer.specs.declared.token.Token.{Token}
use Rattle.npf_why.specs.declared.stretch.Stretch.{Stretch}
use Rattle.npf_why.specs.Stretch.{stretch_of}

-- the bytes from one up to another
abbrev pub bytes_between : ℕ → ℕ → List ℕ → List ℕ
bytes_between from to text = take (to - from) (drop from text)

-- a byte that is taken out is a space, and a line feed stays: so each place of what is left is that of the text
abbrev pub blank : ℕ → ℕ
blank b = if b == 10 then 10 else 32

-- the text without these bytes
abbrev pub taken_out : List ℕ → Stretch → List ℕ
taken_out text stretch =
    let rest = drop stretch.from text in
    let len = stretch.to - stretch.from in
    take stretch.from text ++ (map blank (take len rest) ++ drop len rest)

-- the line in which a place is
abbrev pub line_of : List ℕ → Span → Stretch
line_of text span =
    let start = span.at + 1 - span.col in
    record { from = start; to = start + prefix_len is_line_byte (drop start text) }

-- the tokens of these bytes, or none where they aren't tokens
pub data AreTokensOf (bytes : List ℕ) : List Token → Type 0 where
  lexed : {tokens : List Token} → IsOnly IsLexed bytes (Ok tokens) → AreTokensOf bytes tokens
  unlexed : {fault : ConfFault} → IsOnly IsLexed bytes (Err fault) → AreTokensOf bytes []

-- what is left of the text without these bytes, and the tokens that are gone with those up to a byte
pub record IsTextWithout (text : List ℕ) (stretch : Stretch) (read : ℕ) (left : List ℕ) (gone : List Token) : Type 0 where
  pub bytes : left ≡ taken_out text stretch
  pub tokens : AreTokensOf (bytes_between stretch.from read text) gone

-- what is left of the text without what holds the place, and the tokens that are gone; of a line those before the place
pub data TakesOutPart (text : List ℕ) (span : Span) (left : List ℕ) (gone : List Token) : Type 0 where
  part : (tokens : List Token) (stretch : Stretch) → IsOnly IsLexed text (Ok tokens) → stretch ≡ stretch_of (length text) span.at tokens →
      IsTextWithout text stretch stretch.to left gone → TakesOutPart text span left gone
  line : (fault : ConfFault) → IsOnly IsLexed text (Err fault) → IsTextWithout text (line_of text span) span.at left gone → TakesOutPart text span left gone
