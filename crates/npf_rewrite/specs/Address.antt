-- The words of an address, in network byte order (RFC 791 section 3.1, RFC 8200 section 3).
use Rattle.std.specs.Prelude.{ℕ, ◌+◌, ◌/◌, ◌%◌, ◌^◌, Option, Some, None, List, [], ◌∷◌}
use Rattle.npf_types.specs.declared.address.Addr.{Addr}
use Rattle.npf_types.specs.declared.address.Addr.TheVariants.{V4, V6}
use Rattle.npf_types.specs.declared.change.End.{End}
use Rattle.npf_rewrite.specs.declared.word.WordAt.{WordAt}
use Rattle.npf_rewrite.specs.Word.{word}

-- the 16 bits of a number above so many
abbrev pub word_of : ℕ → ℕ → ℕ
word_of a below = a / 2 ^ below % 2 ^ 16

abbrev pub words_v4 : ℕ → ℕ → List WordAt
words_v4 at a = word at (word_of a 16) ∷ word (at + 2) (word_of a 0) ∷ []

abbrev pub words_v6 : ℕ → ℕ → List WordAt
words_v6 at a =
    word at (word_of a 112) ∷ word (at + 2) (word_of a 96) ∷ word (at + 4) (word_of a 80)
    ∷ word (at + 6) (word_of a 64) ∷ word (at + 8) (word_of a 48) ∷ word (at + 10) (word_of a 32)
    ∷ word (at + 12) (word_of a 16) ∷ word (at + 14) (word_of a 0) ∷ []

abbrev pub address_words : ℕ → Addr → List WordAt
address_words at (V4 a) = words_v4 at a
address_words at (V6 a) = words_v6 at a

-- the words of the address of an end, where a change names one
abbrev pub end_words : ℕ → Option End → List WordAt
end_words at (Some end) = address_words at end.addr
end_words at None = []
