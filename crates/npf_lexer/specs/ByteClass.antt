-- What a byte of npf.conf(5) begins, outside comments and strings, and which bytes go on.
use Rattle.std.specs.Prelude.{ℕ, Bool, not, ◌||◌, ◌&&◌, ◌==◌, if◌then◌else◌}
use Rattle.std.specs.Char.{is_ascii_alphabetic, is_ascii_alphanumeric}
use Rattle.npf_lexer.specs.declared.byte_class.ByteClass.{ByteClass}
use Rattle.npf_lexer.specs.declared.byte_class.ByteClass.TheVariants.{Blank, LineFeed, Semicolon, Backslash, Comment, Quote, Dollar, Run, Other}

-- a letter, a digit, `_`, `.` or `:`
abbrev pub is_run_byte : ℕ → Bool
is_run_byte b = is_ascii_alphanumeric b || b == 95 || b == 46 || b == 58

-- a letter or `_`
abbrev pub is_variable_start : ℕ → Bool
is_variable_start b = is_ascii_alphabetic b || b == 95

-- a letter, a digit or `_`
abbrev pub is_variable_byte : ℕ → Bool
is_variable_byte b = is_ascii_alphanumeric b || b == 95

-- neither `"` nor a line feed
abbrev pub is_string_byte : ℕ → Bool
is_string_byte b = not (b == 34) && not (b == 10)

-- no line feed
abbrev pub is_line_byte : ℕ → Bool
is_line_byte b = not (b == 10)

-- space, tab and carriage return; line feed; `;`; `\`; `#`; `"`; `$`; a run; and all else
abbrev pub byte_class : ℕ → ByteClass
byte_class b =
    if b == 32 || b == 9 || b == 13 then Blank
    else (if b == 10 then LineFeed
    else (if b == 59 then Semicolon
    else (if b == 92 then Backslash
    else (if b == 35 then Comment
    else (if b == 34 then Quote
    else (if b == 36 then Dollar
    else (if is_run_byte b then Run
    else Other)))))))
