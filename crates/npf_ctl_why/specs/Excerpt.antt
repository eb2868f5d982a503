-- The line of a text at a place, as it is shown, and the caret below the place.
use Rattle.std.specs.Prelude.{ℕ, ◌+◌, ◌-◌, ◌==◌, ◌||◌, nat_lt, if◌then◌else◌, List, ◌++◌, codes, drop, map, replicate, take}
use Rattle.std.specs.List.{prefix_len}
use Rattle.npf_lexer.specs.ByteClass.{is_line_byte}
use Rattle.npf_types.specs.declared.span.Span.{Span}

-- the line in which a place is: from the first byte that has its line, to the next line feed
abbrev pub line_at : List ℕ → Span → List ℕ
line_at text span =
    let rest = drop (span.at + 1 - span.col) text in
    take (prefix_len is_line_byte rest) rest

-- a tab as a space, and another byte that isn't printed as a question mark
abbrev pub shown_byte : ℕ → ℕ
shown_byte b = if b == 9 then 32 else if nat_lt b 32 || nat_lt 126 b then 63 else b

abbrev pub shown_text : List ℕ → List ℕ
shown_text bytes = map shown_byte bytes

abbrev pub shown_line_text : List ℕ → List ℕ
shown_line_text line = codes "  " ++ (shown_text line ++ codes "\n")

abbrev pub caret_text : ℕ → List ℕ
caret_text col = codes "  " ++ (replicate (col - 1) 32 ++ codes "^\n")

abbrev pub excerpt_text : List ℕ → Span → List ℕ
excerpt_text text span = shown_line_text (line_at text span) ++ caret_text span.col
