-- What follows of the grammar, whatever the tokens.
use Rattle.std.specs.Prelude.{◌≡◌, ◌⊎◌, List}
use Rattle.npf_types.specs.declared.span.Span.{Span}
use Rattle.npf_lexer.specs.declared.token.Token.{Token}
use Rattle.npf_syntax.specs.declared.stmt.Tree.{Tree}
use Rattle.npf_parser.specs.Stmt.{file}
use Rattle.npf_parser.specs.Parse.{Parses, HasMeaning, HaltsAt, StopsAt}

-- the grammar is unambiguous
abbrev pub OneTree : Type 0
OneTree = (tokens : List Token) (one other : Tree) → Parses tokens one → Parses tokens other → one ≡ other

-- tokens halt at one place at most
abbrev pub OnePlace : Type 0
OnePlace = (tokens : List Token) (one other : Span) → HaltsAt file tokens one → HaltsAt file tokens other → one ≡ other

-- the tokens halt at some place
abbrev pub HasHalt : List Token → Type 0
HasHalt tokens = (span : Span) × HaltsAt file tokens span

-- tokens have a tree or they halt at some place, and never both
abbrev pub TreeOrHalt : Type 0
TreeOrHalt = (tokens : List Token) → (HasMeaning file tokens ⊎ HasHalt tokens) × ¬ (HasMeaning file tokens × HasHalt tokens)

-- where tokens halt, they can be finished but for their values before that place, and no others help behind it
abbrev pub StopsWhereHalted : Type 0
StopsWhereHalted = (tokens : List Token) (span : Span) → HaltsAt file tokens span → StopsAt file tokens span
