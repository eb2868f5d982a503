-- The line of a sentence, what it shows, and what of a text decides it.
use Rattle.std.specs.Prelude.{ℕ, ◌+◌, ◌==◌, ◌&&◌, nat_le, Bool, List, [], ◌++◌, codes, drop, length, slice_index, take}
use Rattle.std.specs.Char.{is_ascii_hexdigit}
use Rattle.npf_types.specs.declared.span.Span.{Span}
use Rattle.std.specs.Fmt.{decimal}
use Rattle.npf_why.specs.declared.sentence.Sentence.{Sentence}
use Rattle.npf_why.specs.declared.sentence.Sentence.TheVariants as Say
use Rattle.npf_why.specs.Sentence.{words}
use Rattle.npf_ctl_why.specs.Excerpt.{shown_text}

abbrev pub marked_text : List ℕ → List ℕ
marked_text shown = codes "`" ++ (shown_text shown ++ codes "`")

-- what stands behind the words of a sentence
abbrev pub tail_text : Sentence → List ℕ → List ℕ
tail_text (Say.NumberUnfit most) shown = decimal most
tail_text Say.CannotGoOn shown = marked_text shown
tail_text Say.VariableUnfit shown = marked_text shown
tail_text Say.UndefinedVariable shown = marked_text shown
tail_text _ shown = []

abbrev pub sentence_text : Sentence → List ℕ → List ℕ
sentence_text sentence shown = codes "  " ++ (words sentence ++ (tail_text sentence shown ++ codes "\n"))

-- the bytes of a place
abbrev pub shown_at : List ℕ → Span → List ℕ
shown_at text span = take span.len (drop span.at text)

-- two hexadecimal digits
abbrev pub is_pair : List ℕ → ℕ → Bool
is_pair bytes at = is_ascii_hexdigit (slice_index bytes at) && is_ascii_hexdigit (slice_index bytes (at + 1))

abbrev pub is_pair_behind_colon : List ℕ → ℕ → Bool
is_pair_behind_colon bytes at = slice_index bytes at == 58 && is_pair bytes (at + 1)

-- six pairs, with colons between
abbrev pub is_hardware_address : List ℕ → Bool
is_hardware_address bytes =
    nat_le 17 (length bytes) && is_pair bytes 0 && is_pair_behind_colon bytes 2 && is_pair_behind_colon bytes 5 && is_pair_behind_colon bytes 8
    && is_pair_behind_colon bytes 11 && is_pair_behind_colon bytes 14
