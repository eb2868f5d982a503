-- What is told of a place at which the grammar halts, by the kinds of tokens that can stand there.
use Rattle.std.specs.Prelude.{ℕ, ◌==◌, ◌&&◌, ◌||◌, not, nat_lt, Bool, true, false, if◌then◌else◌, Option, Some, None, List, [], ◌∷◌, codes}
use Rattle.std.specs.List.{list_any}
use Rattle.std.specs.Str.{bytes_eq}
use Rattle.npf_types.specs.declared.address.Addr.TheVariants.{V4}
use Rattle.npf_types.specs.NameText.{is_name}
use Rattle.npf_lexer.specs.declared.token.Sign.TheVariants.{Less}
use Rattle.npf_lexer.specs.declared.token.TokenKind.{TokenKind}
use Rattle.npf_lexer.specs.declared.token.TokenKind.TheVariants as Kind
use Rattle.npf_syntax.specs.Reserved.{is_iface_word}
use Rattle.npf_why.specs.declared.sentence.Sentence.{Sentence}
use Rattle.npf_why.specs.declared.sentence.Sentence.TheVariants as Say
use Rattle.npf_why.specs.Candidate.{same_kind}

-- a token of this kind can stand
abbrev pub stands : List TokenKind → TokenKind → Bool
stands kinds kind = list_any (same_kind kind) kinds

abbrev pub larger : Option ℕ → ℕ → ℕ
larger None number = number
larger (Some found) number = if nat_lt number found then found else number

-- the greatest number that can stand, of one that is found and of those of these kinds
abbrev pub greatest_from : Option ℕ → List TokenKind → Option ℕ
greatest_from found [] = found
greatest_from found (Kind.Number number ∷ kinds) = greatest_from (Some (larger found number)) kinds
greatest_from found (_ ∷ kinds) = greatest_from found kinds

-- where numbers can stand, this one is too great, or it stands in a range that doesn't fit
abbrev pub number_sentence : ℕ → Option ℕ → Sentence
number_sentence number None = Say.CannotGoOn
number_sentence number (Some most) = if nat_lt most number then Say.NumberUnfit most else Say.RangeUnfit

-- where names can stand, this is none; where the letters of flags can, it isn't of them
abbrev pub word_sentence : List ℕ → List TokenKind → Sentence
word_sentence text kinds =
    if stands kinds (Kind.Word (codes "a")) then (if is_name text then Say.CannotGoOn else Say.NameUnfit)
    else if stands kinds (Kind.Word (codes "S")) then Say.FlagsUnfit else Say.CannotGoOn

-- where every text can stand, this is none; where names can, it isn't one
abbrev pub string_sentence : List TokenKind → Sentence
string_sentence kinds =
    if stands kinds (Kind.Str []) then Say.FileNameUnfit
    else if stands kinds (Kind.Str (codes "a")) then Say.NameUnfit else Say.CannotGoOn

-- what is said of a token where those can stand
abbrev pub sentence_at : TokenKind → List TokenKind → Sentence
sentence_at Kind.LineFeed kinds = Say.LineEnds
sentence_at Kind.End kinds = Say.TextEnds
sentence_at (Kind.Number number) kinds = number_sentence number (greatest_from None kinds)
sentence_at (Kind.Address _) kinds = if stands kinds (Kind.Address (V4 0)) then Say.PrefixUnfit else Say.CannotGoOn
sentence_at (Kind.Word text) kinds = word_sentence text kinds
sentence_at (Kind.Str _) kinds = string_sentence kinds
sentence_at (Kind.Sign Less) kinds = if stands kinds (Kind.Sign Less) then Say.NameUnfit else Say.CannotGoOn
sentence_at _ kinds = Say.CannotGoOn

-- words that only older texts have
abbrev pub is_older : List ℕ → Bool
is_older text = bytes_eq text (codes "hash") || bytes_eq text (codes "tree") || bytes_eq text (codes "cdb") || bytes_eq text (codes "inet") || bytes_eq text (codes "normalise")

-- words of what isn't built
abbrev pub is_unbuilt : List ℕ → Bool
is_unbuilt text = bytes_eq text (codes "no-ports") || bytes_eq text (codes "layer-2") || bytes_eq text (codes "user") || bytes_eq text (codes "pcap-filter") || bytes_eq text (codes "route")

abbrev pub is_passed_over : List ℕ → Bool
is_passed_over text = is_older text || is_unbuilt text

abbrev pub is_function : List ℕ → Bool
is_function text = bytes_eq text (codes "inet4") || bytes_eq text (codes "inet6") || bytes_eq text (codes "ifaddrs")

-- the word stands as a name, where names can: as an interface's each that isn't kept back there, as `block` is; as another each
abbrev pub is_name_there : List ℕ → List TokenKind → Bool
is_name_there text kinds = stands kinds (Kind.Word (codes "a")) && (is_iface_word text || stands kinds (Kind.Word (codes "block")))

-- `group` begins a statement where `procedure` does, and `dynamic` a map's kind where `static` does; elsewhere they are what isn't built or is older
abbrev pub has_its_companion : List ℕ → List TokenKind → Bool
has_its_companion text kinds =
    if bytes_eq text (codes "group") then stands kinds (Kind.Word (codes "procedure"))
    else if bytes_eq text (codes "dynamic") then stands kinds (Kind.Word (codes "static")) else true

-- of words that are names where they stand one is told, and beside it those of functions, where an address can stand
abbrev pub is_told_word : List ℕ → List TokenKind → Bool
is_told_word text kinds =
    if bytes_eq text (codes "a") then true
    else if bytes_eq text (codes "S") then not (stands kinds (Kind.Word (codes "a")))
    else has_its_companion text kinds && not (is_passed_over text) && (not (is_name_there text kinds) || (is_function text && stands kinds (Kind.Address (V4 0))))

-- of strings one where any can stand, and else the names of options
abbrev pub is_told_string : List ℕ → List TokenKind → Bool
is_told_string text kinds =
    if bytes_eq text (codes "a") then true
    else not (bytes_eq text []) && not (bytes_eq text (codes "random-id")) && not (stands kinds (Kind.Str (codes "a")))

abbrev pub is_greatest : ℕ → Option ℕ → Bool
is_greatest number None = false
is_greatest number (Some most) = most == number

-- what is named of what can stand
abbrev pub is_told : TokenKind → List TokenKind → Bool
is_told (Kind.Word text) kinds = is_told_word text kinds
is_told (Kind.Str text) kinds = is_told_string text kinds
is_told (Kind.Number number) kinds = is_greatest number (greatest_from None kinds)
is_told _ kinds = true
