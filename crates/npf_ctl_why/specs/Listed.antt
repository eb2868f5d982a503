-- What could stand, and near names, as they are listed in a line.
use Rattle.std.specs.Prelude.{ℕ, ◌==◌, if◌then◌else◌, List, [], ◌∷◌, ◌++◌, codes, filter, map}
use Rattle.std.specs.Fmt.{decimal}
use Rattle.std.specs.List.{flat_map}
use Rattle.std.specs.Str.{bytes_eq}
use Rattle.npf_lexer.specs.Sign.{sign_text}
use Rattle.npf_lexer.specs.declared.token.TokenKind.{TokenKind}
use Rattle.npf_lexer.specs.declared.token.TokenKind.TheVariants as Kind
use Rattle.npf_why.specs.Halt.{is_told}
use Rattle.npf_ctl_why.specs.declared.listed.Marks.{Marks}
use Rattle.npf_ctl_why.specs.declared.listed.Marks.TheVariants as Mark
use Rattle.npf_ctl_why.specs.Excerpt.{shown_text}

abbrev pub quoted_text : List ℕ → List ℕ
quoted_text text = codes "\"" ++ (text ++ codes "\"")

abbrev pub word_text : List ℕ → List ℕ
word_text text =
    if bytes_eq text (codes "a") then codes "a name" else if bytes_eq text (codes "S") then codes "letters of FSRPAUEW" else quoted_text text

abbrev pub string_text : List ℕ → List ℕ
string_text text = if bytes_eq text (codes "a") then codes "a string" else quoted_text text

-- the greatest number of all has no bound
abbrev pub number_text : ℕ → List ℕ
number_text number = if number == 4294967295 then codes "a number" else codes "a number to " ++ decimal number

-- a token that could stand, or what it is an example of
abbrev pub candidate_text : TokenKind → List ℕ
candidate_text (Kind.Word text) = word_text text
candidate_text (Kind.Str text) = string_text text
candidate_text (Kind.Sign sign) = quoted_text (sign_text sign)
candidate_text (Kind.Number number) = number_text number
candidate_text (Kind.Var _) = codes "a variable"
candidate_text (Kind.Address _) = codes "an address"
candidate_text Kind.End = codes "the end of the text"
candidate_text _ = codes "the end of the line"

-- a name as it is written where it stands
abbrev pub named_text : Marks → List ℕ → List ℕ
named_text Mark.None name = shown_text name
named_text Mark.Variable name = codes "$" ++ shown_text name
named_text Mark.Table name = codes "<" ++ (shown_text name ++ codes ">")

abbrev pub behind_comma : List ℕ → List ℕ
behind_comma item = codes ", " ++ item

-- a line of items behind some words, with commas between, if there are any
abbrev pub listed_text : List ℕ → List (List ℕ) → List ℕ
listed_text front [] = []
listed_text front (item ∷ items) = front ++ (item ++ (flat_map behind_comma items ++ codes "\n"))

-- what is named of what could stand
abbrev pub told_kinds : List TokenKind → List TokenKind
told_kinds kinds = filter (λ kind. is_told kind kinds) kinds

-- the line of what is named
abbrev pub told_text : List TokenKind → List ℕ
told_text kinds = listed_text (codes "  could stand here: ") (map candidate_text kinds)

-- the line of what could stand, of these kinds
abbrev pub standing_text : List TokenKind → List ℕ
standing_text kinds = told_text (told_kinds kinds)

-- the line of near names
abbrev pub names_text : Marks → List (List ℕ) → List ℕ
names_text marks names = listed_text (codes "  near: ") (map (named_text marks) names)
