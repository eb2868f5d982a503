-- What is said of a fault of a text from which something was taken out: nothing of a name that a part gives which is gone.
use Rattle.std.specs.Prelude.{◌≡◌, ℕ, ◌||◌, not, Bool, true, false, if◌then◌else◌, Option, Some, None, Ok, Err, List, [], ◌∷◌, codes, slice_get}
use Rattle.std.specs.Str.{bytes_eq}
use Rattle.npf_types.specs.Reading.{IsOnly}
use Rattle.npf_ctl_messages.specs.declared.fault.CommandFault.{CommandFault}
use Rattle.npf_ctl_messages.specs.declared.fault.CommandFault.TheVariants.{Configuration}
use Rattle.npf_faults.specs.declared.fault.ConfFault.{ConfFault}
use Rattle.npf_faults.specs.declared.fault.Fault.{Fault}
use Rattle.npf_faults.specs.declared.fault.Fault.TheVariants.{UnknownVariable, UnknownTable, UnknownProcedure}
use Rattle.npf_lexer.specs.Lexer.{IsLexed}
use Rattle.npf_lexer.specs.declared.token.Sign.TheVariants.{Equals}
use Rattle.npf_lexer.specs.declared.token.Token.{Token}
use Rattle.npf_lexer.specs.declared.token.TokenKind.{TokenKind}
use Rattle.npf_lexer.specs.declared.token.TokenKind.TheVariants as Kind
use Rattle.npf_model.specs.declared.iface.Iface.{Iface}
use Rattle.npf_why.specs.Tokens.{tokens_at}
use Rattle.npf_ctl_why.specs.Names.{unknown_word, variable_in, word_behind}
use Rattle.npf_ctl_why.specs.Text.{IsExplanation}

abbrev pub equals : TokenKind → Bool
equals (Kind.Sign Equals) = true
equals _ = false

abbrev pub has_equals : Option Token → Bool
has_equals None = false
has_equals (Some token) = equals token.kind

-- the name that a statement gives which begins with these tokens, of the kind that the fault is about: a variable's, a table's, a procedure's
abbrev pub name_of_statement : Fault → List Token → Option (List ℕ)
name_of_statement UnknownVariable tokens = if has_equals (slice_get tokens 1) then variable_in tokens else None
name_of_statement UnknownTable tokens = word_behind (codes "table") 2 tokens
name_of_statement UnknownProcedure tokens = word_behind (codes "procedure") 1 tokens
name_of_statement _ tokens = None

abbrev pub is_same_word : List ℕ → Option (List ℕ) → Bool
is_same_word word None = false
is_same_word word (Some other) = bytes_eq other word

-- a statement among these tokens gives the name
abbrev pub gives_name : Fault → List ℕ → List Token → Bool
gives_name fault name [] = false
gives_name fault name (token ∷ tokens) = is_same_word name (name_of_statement fault (token ∷ tokens)) || gives_name fault name tokens

abbrev pub gives_word : Fault → Option (List ℕ) → List Token → Bool
gives_word fault None gone = false
gives_word fault (Some name) gone = gives_name fault name gone

-- the fault is that a name isn't known which was given by what is gone
abbrev pub is_left_out : ConfFault → List Token → List Token → Bool
is_left_out fault gone tokens = gives_word fault.fault (unknown_word fault.fault (tokens_at fault.span.at tokens)) gone

-- whether a fault of a text is left out; each of a text without tokens is told
pub data LeavesOut (text : List ℕ) (gone : List Token) (fault : ConfFault) : Bool → Type 0 where
  lexed : {out : Bool} (tokens : List Token) → IsOnly IsLexed text (Ok tokens) → out ≡ is_left_out fault gone tokens → LeavesOut text gone fault out
  unlexed : (other : ConfFault) → IsOnly IsLexed text (Err other) → LeavesOut text gone fault false

-- whether a fault is told: each that has no place in the text is
abbrev pub IsToldOfLeft : List ℕ → List Token → CommandFault → Bool → Type 0
IsToldOfLeft text gone (Configuration file fault) is_told = LeavesOut text gone fault (not is_told)
IsToldOfLeft text gone told is_told = is_told ≡ true

abbrev pub SaysIf : Bool → List Iface → List ℕ → CommandFault → List ℕ → Type 0
SaysIf true ifaces text told out = IsExplanation ifaces told (Some text) out
SaysIf false ifaces text told out = out ≡ []

-- what is said of a fault of what is left: its explanation, or nothing
pub record SaysOfLeft (ifaces : List Iface) (text : List ℕ) (gone : List Token) (told : CommandFault) (out : List ℕ) : Type 0 where
  pub is_told : Bool
  pub tells : IsToldOfLeft text gone told is_told
  pub says : SaysIf is_told ifaces text told out
