-- The tokens of npf.conf(5) as phrases, and the text of the tokens that a phrase takes.
use Rattle.std.specs.Prelude.{ℕ, ◌+◌, ◌-◌, ◌^◌, min, ⊤, nat_le, ◌==◌, Bool, true, false, ◌||◌, Option, Some, None, List, [], ◌∷◌, length, slice_get, codes}
use Rattle.std.specs.List.{list_all}
use Rattle.std.specs.Str.{bytes_eq, is_utf8}
use Rattle.npf_types.specs.declared.address.Addr.TheVariants.{V4}
use Rattle.npf_types.specs.declared.span.Span.{Span}
use Rattle.npf_types.specs.NameText.{is_name}
use Rattle.npf_lexer.specs.Sign.{sign_text}
use Rattle.npf_lexer.specs.declared.token.Sign.{Sign}
use Rattle.npf_lexer.specs.declared.token.Token.{Token}
use Rattle.npf_lexer.specs.declared.token.TokenKind.{TokenKind}
use Rattle.npf_lexer.specs.declared.token.TokenKind.TheVariants as Kind
use Rattle.npf_syntax.specs.declared.word.Address.{Address}
use Rattle.npf_syntax.specs.declared.word.Number.{Number}
use Rattle.npf_syntax.specs.declared.word.Str.{Str}
use Rattle.npf_syntax.specs.declared.word.Var.{Var}
use Rattle.npf_syntax.specs.declared.word.Word.{Word}
use Rattle.npf_phrase.specs.Grammar.{Grammar, token, pure, making, either, any_number, fitted, terminated}

-- no place of a text
abbrev pub nowhere : Span
nowhere = record { line = 0; col = 0; at = 0; len = 0 }

-- the first token's place
abbrev pub place_of : List Token → Span
place_of [] = nowhere
place_of (t ∷ _) = t.span

-- the text from one token's first byte to another's last, as far as 32 bits count
abbrev pub joined : Span → Span → Span
joined first last = record { line = first.line; col = first.col; at = first.at; len = min (last.at + last.len - first.at) (2 ^ 32 - 1) }

abbrev pub joined_at : Option Token → Option Token → Span
joined_at (Some first) (Some last) = joined first.span last.span
joined_at _ _ = nowhere

abbrev pub whole_span : List Token → Span
whole_span ts = joined_at (slice_get ts 0) (slice_get ts (length ts - 1))

abbrev pub is_line_feed_kind : TokenKind → Bool
is_line_feed_kind Kind.LineFeed = true
is_line_feed_kind _ = false

abbrev pub before_others : Bool → Token → List Token → List Token
before_others true t [] = []
before_others _ t ts = t ∷ ts

-- without the line feeds at the end
unfoldable pub trimmed : List Token → List Token
trimmed [] = []
trimmed (t ∷ ts) = before_others (is_line_feed_kind t.kind) t (trimmed ts)

-- the text of tokens, without the line feeds at their end
unfoldable pub span_of : List Token → Span
span_of ts = whole_span (trimmed ts)

-- some token of a kind
abbrev pub an_example : TokenKind → Token
an_example kind = record { kind = kind; span = nowhere }

abbrev pub when : Bool → Option ⊤
when true = Some tt
when false = None

abbrev pub word_test : List ℕ → TokenKind → Option ⊤
word_test word (Kind.Word text) = when (bytes_eq text word)
word_test word _ = None

-- a word in quotes of the manual, which stands for itself
abbrev pub quoted : List ℕ → Grammar Token ⊤
quoted word = token (λ t. word_test word t.kind) (an_example (Kind.Word word))

-- a quoted word that means something by itself
abbrev pub says : {A : Type 0} → List ℕ → (Span → A) → Grammar Token A
says word means = making (λ ts _. means (span_of ts)) (quoted word)

abbrev pub name_test : List ℕ → TokenKind → Option ⊤
name_test name (Kind.Str text) = when (bytes_eq text name)
name_test name _ = None

-- a name that is written as a string, and stands for itself
abbrev pub quoted_name : List ℕ → Grammar Token ⊤
quoted_name name = token (λ t. name_test name t.kind) (an_example (Kind.Str name))

abbrev pub sign_test : Sign → TokenKind → Option ⊤
sign_test wanted (Kind.Sign found) = when (bytes_eq (sign_text found) (sign_text wanted))
sign_test wanted _ = None

abbrev pub sign : Sign → Grammar Token ⊤
sign wanted = token (λ t. sign_test wanted t.kind) (an_example (Kind.Sign wanted))

abbrev pub separator_test : TokenKind → Option ⊤
separator_test Kind.LineFeed = Some tt
separator_test Kind.Semicolon = Some tt
separator_test _ = None

-- a line feed or a semicolon
abbrev pub separator : Grammar Token ⊤
separator = token (λ t. separator_test t.kind) (an_example Kind.LineFeed)

abbrev pub string_test : TokenKind → Span → Option Str
string_test (Kind.Str text) span = Some (record { text = text; span = span })
string_test _ _ = None

abbrev pub string : Grammar Token Str
string = token (λ t. string_test t.kind t.span) (an_example (Kind.Str []))

abbrev pub a_word_test : TokenKind → Span → Option Word
a_word_test (Kind.Word text) span = Some (record { text = text; span = span })
a_word_test _ _ = None

abbrev pub word : Grammar Token Word
word = token (λ t. a_word_test t.kind t.span) (an_example (Kind.Word (codes "a")))

abbrev pub variable_test : TokenKind → Span → Option Var
variable_test (Kind.Var name) span = Some (record { name = name; span = span })
variable_test _ _ = None

abbrev pub variable : Grammar Token Var
variable = token (λ t. variable_test t.kind t.span) (an_example (Kind.Var (codes "a")))

abbrev pub number_test : TokenKind → Span → Option Number
number_test (Kind.Number value) span = Some (record { value = value; span = span })
number_test _ _ = None

abbrev pub number : Grammar Token Number
number = token (λ t. number_test t.kind t.span) (an_example (Kind.Number 0))

abbrev pub address_test : TokenKind → Span → Option Address
address_test (Kind.Address addr) span = Some (record { addr = addr; span = span })
address_test _ _ = None

abbrev pub address : Grammar Token Address
address = token (λ t. address_test t.kind t.span) (an_example (Kind.Address (V4 0)))

-- a number of at most so much
abbrev pub number_to : ℕ → Grammar Token Number
number_to most = fitted (λ n. nat_le n.value most) number

-- a word that is a name of at most 15 bytes
abbrev pub name_word : Grammar Token Word
name_word = fitted (λ w. is_name w.text) word

-- a string that is such a name
abbrev pub name_string : Grammar Token Str
name_string = fitted (λ s. is_name s.text) string

-- a string that is text in UTF-8
abbrev pub text_string : Grammar Token Str
text_string = fitted (λ s. is_utf8 s.text) string

-- F, S, R, P, A, U, E or W
abbrev pub is_flag : ℕ → Bool
is_flag b = b == 70 || b == 83 || b == 82 || b == 80 || b == 65 || b == 85 || b == 69 || b == 87

-- a word of the letters of TCP's flags
abbrev pub flags : Grammar Token Word
flags = fitted (λ w. list_all is_flag w.text) word

abbrev pub line_feed_test : TokenKind → Option ⊤
line_feed_test Kind.LineFeed = Some tt
line_feed_test _ = None

abbrev pub line_feed : Grammar Token ⊤
line_feed = token (λ t. line_feed_test t.kind) (an_example Kind.LineFeed)

-- what may lie behind a token: nothing, but inside the braces of a value list as many line feeds as stand there
abbrev pub gap : Bool → Grammar Token ⊤
gap true = making (λ _ _. tt) (any_number line_feed)
gap false = pure tt

-- a phrase and what may lie behind it
abbrev pub spaced : {A : Type 0} → Bool → Grammar Token A → Grammar Token A
spaced inside g = terminated g (gap inside)

abbrev pub end_test : TokenKind → Span → Option Span
end_test Kind.End span = Some span
end_test _ _ = None

abbrev pub end_token : Grammar Token Span
end_token = token (λ t. end_test t.kind t.span) (an_example Kind.End)

abbrev pub is_over : Option Token → Bool
is_over None = true
is_over (Some _) = false

-- the text's end, with its place: its last token, or that there is none
abbrev pub text_end : Grammar Token Span
text_end = either is_over (pure nowhere) end_token
