-- Where the bytes of a text stand: lines and columns count from 1, a column is a byte.
use Rattle.std.specs.Prelude.{ℕ, ◌+◌}
use Rattle.npf_types.specs.declared.span.Span.{Span}
use Rattle.npf_lexer.specs.declared.place.TextPlace.{TextPlace}

-- the place of the first byte
abbrev pub text_start : TextPlace
text_start = record { line = 1; col = 1; at = 0 }

-- the place of the byte that comes `n` bytes later in the same line
abbrev pub along : ℕ → TextPlace → TextPlace
along n p = record { line = p.line; col = p.col + n; at = p.at + n }

-- the place behind `n` bytes of which the last is the only line feed
abbrev pub over_line : ℕ → TextPlace → TextPlace
over_line n p = record { line = p.line + 1; col = 1; at = p.at + n }

-- the `n` bytes from a place on
abbrev pub span_of : ℕ → TextPlace → Span
span_of n p = record { line = p.line; col = p.col; at = p.at; len = n }
