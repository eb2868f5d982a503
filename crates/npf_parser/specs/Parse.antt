-- How `parse` and `parse_rule` answer to a grammar.
use Rattle.std.specs.Prelude.{◌≡◌, ◌⊎◌, ⊤, Result, Ok, Err, List, [], ◌++◌}
use Rattle.npf_types.specs.declared.span.Span.{Span}
use Rattle.npf_faults.specs.declared.fault.ConfFault.{ConfFault}
use Rattle.npf_faults.specs.declared.fault.Refused.{Refused}
use Rattle.npf_faults.specs.declared.fault.Refused.TheVariants.{Fault, NoMemory}
use Rattle.npf_lexer.specs.declared.token.Token.{Token}
use Rattle.npf_syntax.specs.declared.stmt.Stmt.{Stmt}
use Rattle.npf_syntax.specs.declared.stmt.Tree.{Tree}
use Rattle.npf_syntax.specs.declared.value.IfaceTree.{IfaceTree}
use Rattle.npf_phrase.specs.Phrase.{Reading, ◌>>=◌, front_of, head}
use Rattle.npf_phrase.specs.Place.{StandsFirst, Stopped}
use Rattle.npf_phrase.specs.Grammar.{Grammar, meaning, loose, IsUnfit}
use Rattle.npf_parser_values.specs.Token.{place_of, span_of}
use Rattle.npf_parser.specs.Stmt.{MapRest, file}

-- a map that is read on behind its interface, and begins with the first of all its tokens
abbrev pub map_behind : Grammar Token MapRest → List Token → IfaceTree → List Token → Reading Token Stmt
map_behind g tokens iface rest = (meaning g).read rest >>= (λ a. Ok (a.0 iface (span_of (front_of tokens a.1)), a.1))

-- the tokens up to the text's end mean this
abbrev pub Means : {A : Type 0} → Grammar Token A → List Token → A → Type 0
Means g tokens a = (rest : List Token) × StandsFirst (meaning g) tokens a rest

-- the tokens are a configuration with this tree
abbrev pub Parses : List Token → Tree → Type 0
Parses = Means file

abbrev pub HasMeaning : {A : Type 0} → Grammar Token A → List Token → Type 0
HasMeaning {A} g tokens = (a : A) × Means g tokens a

-- the tokens halt before a token, or before what is unfit, at this place
pub record HaltsAt {A : Type 0} (g : Grammar Token A) (tokens : List Token) (span : Span) : Type 0 where
  pub at : List Token
  pub halts : Stopped (meaning g) tokens at
  pub place : span ≡ place_of at

-- The tokens stop going on at this place: it is that of the next token, or of a value that is unfit there. The tokens
-- before it begin a text of the grammar without its tests of values. And whatever else stands behind the next token, or
-- behind what is unfit and the token that shows its end, no text of the grammar begins so.
pub record StopsAt {A : Type 0} (g : Grammar Token A) (tokens : List Token) (span : Span) : Type 0 where
  pub front : List Token
  pub unfit : List Token
  pub behind : List Token
  pub parts : tokens ≡ front ++ (unfit ++ behind)
  pub place : span ≡ place_of (unfit ++ behind)
  pub fault : (unfit ≡ []) ⊎ IsUnfit g unfit (head behind)
  pub viable : (more : List Token) × HasMeaning (loose g) (front ++ more)
  pub hopeless : (other : List Token) → head behind ≡ head other → ¬ HasMeaning g (front ++ (unfit ++ other))

-- what holds of a fault, where the answer is one
abbrev pub OnFault : {A : Type 0} → Result A Refused → (ConfFault → Type 0) → Type 0
OnFault (Ok _) P = ⊤
OnFault (Err (Fault fault)) P = P fault
OnFault (Err NoMemory) P = ⊤

-- the answer is this, unless memory ran out
abbrev pub AnswersUnlessMemory : {A : Type 0} → A → Result A Refused → Type 0
AnswersUnlessMemory a (Ok read) = read ≡ a
AnswersUnlessMemory a (Err (Fault _)) = ⊥
AnswersUnlessMemory a (Err NoMemory) = ⊤

-- the answer is a fault at this place, unless memory ran out
abbrev pub FaultsUnlessMemory : {A : Type 0} → Span → Result A Refused → Type 0
FaultsUnlessMemory span (Ok _) = ⊥
FaultsUnlessMemory span (Err (Fault fault)) = fault.span ≡ span
FaultsUnlessMemory span (Err NoMemory) = ⊤
