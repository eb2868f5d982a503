-- The name that isn't known, at the place of a fault, and those that are near it.
use Rattle.std.specs.Prelude.{ℕ, Option, Some, None, if◌then◌else◌, List, [], ◌∷◌, codes, map, slice_get}
use Rattle.std.specs.List.{flat_map}
use Rattle.std.specs.Str.{bytes_eq}
use Rattle.npf_faults.specs.declared.fault.ConfFault.{ConfFault}
use Rattle.npf_faults.specs.declared.fault.Fault.{Fault}
use Rattle.npf_faults.specs.declared.fault.Fault.TheVariants.{UnknownVariable, UnknownInterface, UnknownService, UnknownTable, UnknownProcedure, Unbuilt}
use Rattle.npf_lexer.specs.declared.token.Sign.TheVariants.{OpenParen}
use Rattle.npf_lexer.specs.declared.token.Token.{Token}
use Rattle.npf_lexer.specs.declared.token.TokenKind.{TokenKind}
use Rattle.npf_lexer.specs.declared.token.TokenKind.TheVariants as Kind
use Rattle.npf_model.specs.declared.iface.Iface.{Iface}
use Rattle.npf_syntax.specs.declared.stmt.Tree.{Tree}
use Rattle.npf_why.specs.Known.{given_by, iface_text, setting_names}
use Rattle.npf_why.specs.declared.known.GivenNames.{GivenNames}
use Rattle.npf_why.specs.NameTable.{looked_up}
use Rattle.npf_why.specs.Nearest.{nearest}
use Rattle.npf_why.specs.Tokens.{tokens_at, tokens_before}
use Rattle.npf_ctl_why.specs.declared.listed.Marks.{Marks}
use Rattle.npf_ctl_why.specs.declared.listed.Marks.TheVariants as Mark
use Rattle.npf_ctl_why.specs.Listed.{names_text}

-- the text of a word or a string
abbrev pub worded : TokenKind → Option (List ℕ)
worded (Kind.Word text) = Some text
worded (Kind.Str text) = Some text
worded _ = None

abbrev pub word_of_token : Option Token → Option (List ℕ)
word_of_token None = None
word_of_token (Some token) = worded token.kind

abbrev pub word_in : List Token → ℕ → Option (List ℕ)
word_in tokens place = word_of_token (slice_get tokens place)

abbrev pub variable_named : TokenKind → Option (List ℕ)
variable_named (Kind.Var name) = Some name
variable_named _ = None

abbrev pub variable_in : List Token → Option (List ℕ)
variable_in [] = None
variable_in (token ∷ _) = variable_named token.kind

-- an interface, or that whose addresses a function gives
abbrev pub interface_before : TokenKind → List Token → Option (List ℕ)
interface_before (Kind.Sign OpenParen) tokens = word_in tokens 2
interface_before _ tokens = word_in tokens 0

abbrev pub interface_by : Option Token → List Token → Option (List ℕ)
interface_by None tokens = None
interface_by (Some token) tokens = interface_before token.kind tokens

abbrev pub interface_in : List Token → Option (List ℕ)
interface_in tokens = interface_by (slice_get tokens 1) tokens

abbrev pub if_first : List ℕ → Option (List ℕ) → Option (List ℕ) → Option (List ℕ)
if_first first None word = None
if_first first (Some found) word = if bytes_eq found first then word else None

-- the word at a place, where this word is the first
abbrev pub word_behind : List ℕ → ℕ → List Token → Option (List ℕ)
word_behind first place tokens = if_first first (word_in tokens 0) (word_in tokens place)

-- what a statement sets
abbrev pub setting_in : List Token → Option (List ℕ)
setting_in tokens = word_behind (codes "set") 1 tokens

-- the name that isn't known, of the tokens at the fault's place: a variable's; an interface's; what is looked up for its number; a table's,
-- behind its sign; a procedure's; a setting's
abbrev pub unknown_word : Fault → List Token → Option (List ℕ)
unknown_word UnknownVariable tokens = variable_in tokens
unknown_word UnknownInterface tokens = interface_in tokens
unknown_word UnknownService tokens = word_in tokens 0
unknown_word UnknownTable tokens = word_in tokens 1
unknown_word UnknownProcedure tokens = word_in tokens 0
unknown_word Unbuilt tokens = setting_in tokens
unknown_word _ tokens = None

-- the names that are known of that kind
abbrev pub names_by : Fault → ℕ → List Iface → List Token → Tree → List (List ℕ)
names_by UnknownVariable at ifaces tokens tree = flat_map (given_by (GivenNames.VariablesBefore at)) tree.stmts
names_by UnknownInterface at ifaces tokens tree = map iface_text ifaces
names_by UnknownService at ifaces tokens tree = looked_up (tokens_before at tokens)
names_by UnknownTable at ifaces tokens tree = flat_map (given_by GivenNames.Tables) tree.stmts
names_by Unbuilt at ifaces tokens tree = setting_names
names_by _ at ifaces tokens tree = flat_map (given_by GivenNames.Procedures) tree.stmts

abbrev pub known_names : List Iface → List Token → Tree → ConfFault → List (List ℕ)
known_names ifaces tokens tree fault = names_by fault.fault fault.span.at ifaces tokens tree

abbrev pub marks : Fault → Marks
marks UnknownVariable = Mark.Variable
marks UnknownTable = Mark.Table
marks _ = Mark.None

-- the line of the names that are near a word, if there is one
abbrev pub near_line : Marks → List (List ℕ) → Option (List ℕ) → List ℕ
near_line marks known None = []
near_line marks known (Some word) = names_text marks (nearest word known)

abbrev pub near_text : List Iface → List Token → Tree → ConfFault → List ℕ
near_text ifaces tokens tree fault = near_line (marks fault.fault) (known_names ifaces tokens tree fault) (unknown_word fault.fault (tokens_at fault.span.at tokens))
