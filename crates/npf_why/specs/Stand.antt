-- What can stand behind some tokens. A candidate is put behind them, with what may follow it, and the grammar says where that halts.
use Rattle.std.specs.Prelude.{◌≡◌, ◌≢◌, ◌≤◌, ◌⊎◌, ℕ, ◌==◌, ◌&&◌, not, nat_lt, Bool, true, false, List, [], ◌∷◌, ◌++◌, length, take}
use Rattle.std.specs.List.{prefix_len}
use Rattle.npf_types.specs.declared.span.Span.{Span}
use Rattle.npf_lexer.specs.declared.token.Sign.{Sign}
use Rattle.npf_lexer.specs.declared.token.Token.{Token}
use Rattle.npf_lexer.specs.declared.token.TokenKind.{TokenKind}
use Rattle.npf_lexer.specs.declared.token.TokenKind.TheVariants as Kind
use Rattle.npf_phrase.specs.Grammar.{loose}
use Rattle.npf_parser.specs.Parse.{HasMeaning, HaltsAt, StopsAt}
use Rattle.npf_parser.specs.Stmt.{file}

-- a token of a text, whose line counts from 1, that begins before this byte
abbrev pub is_before : ℕ → Token → Bool
is_before at token = nat_lt 0 token.span.line && nat_lt token.span.at at

-- the tokens that do
abbrev pub before : ℕ → List Token → List Token
before at tokens = take (prefix_len (is_before at) tokens) tokens

-- a token of a text: its line counts from 1
abbrev pub HasLine : Token → Type 0
HasLine token = token.span.line ≢ 0

-- a token that stands in no text, with a place that none has
abbrev pub put : ℕ → TokenKind → Token
put col kind = record { kind = kind; span = record { line = 0; col = col; at = 0; len = 0 } }

-- the place is that of no token of a text, and not that of a candidate
abbrev pub is_behind : Span → Bool
is_behind span = span.line == 0 && not (span.col == 1)

-- the tokens, a candidate behind them, and the text's end; and the same with a parenthesis before the end
abbrev pub with_end : List Token → TokenKind → List Token
with_end front kind = front ++ put 1 kind ∷ put 2 Kind.End ∷ []

abbrev pub with_paren : List Token → TokenKind → List Token
with_paren front kind = front ++ put 1 kind ∷ put 2 (Kind.Sign Sign.OpenParen) ∷ put 3 Kind.End ∷ []

-- these tokens begin a text of the grammar, or one but for its values
abbrev pub BeginsText : List Token → Type 0
BeginsText tokens = (more : List Token) × (HasMeaning file (tokens ++ more) ⊎ HasMeaning (loose file) (tokens ++ more))

-- the grammar halts behind so many of the tokens at most
pub record HaltsWithin (front tokens : List Token) : Type 0 where
  pub span : Span
  pub halts : HaltsAt file tokens span
  pub stops : StopsAt file tokens span
  pub early : length halts.halts.front ≤ length front

-- with the candidate the tokens begin a text, and they don't halt at it or before it, whichever follows
pub record CanStand (front : List Token) (kind : TokenKind) : Type 0 where
  pub begins : BeginsText (front ++ put 1 kind ∷ [])
  pub passes : ¬ (HaltsWithin front (with_end front kind) × HaltsWithin front (with_paren front kind))

-- they halt at it, or before it
abbrev pub CannotStand : List Token → TokenKind → Type 0
CannotStand front kind = HaltsWithin front (with_end front kind) × HaltsWithin front (with_paren front kind)

-- of these kinds those that can stand behind the tokens, in their order
abbrev pub ThoseThatStand : List Token → List TokenKind → List TokenKind → Type 0
ThoseThatStand front [] told = told ≡ []
ThoseThatStand front (kind ∷ kinds) told =
    (CanStand front kind × (more : List TokenKind) × (told ≡ kind ∷ more) × ThoseThatStand front kinds more)
    ⊎ (CannotStand front kind × ThoseThatStand front kinds told)

-- what is told, with one more kind if it can stand
abbrev pub told_with : Bool → TokenKind → List TokenKind → List TokenKind
told_with true kind told = told ++ kind ∷ []
told_with false kind told = told

-- the tokens are a text, or halt at a place behind a candidate
abbrev pub Passes : List Token → Type 0
Passes tokens = HasMeaning file tokens ⊎ ((span : Span) × HaltsAt file tokens span × StopsAt file tokens span × (is_behind span ≡ true))

-- the tokens halt at a candidate, or before it
abbrev pub Stops : List Token → Type 0
Stops tokens = (span : Span) × HaltsAt file tokens span × StopsAt file tokens span × (is_behind span ≡ false)
