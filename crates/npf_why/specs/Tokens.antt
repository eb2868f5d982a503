-- The tokens of a text before a place, and from it on.
use Rattle.std.specs.Prelude.{ℕ, nat_lt, List, drop, take}
use Rattle.std.specs.List.{prefix_len}
use Rattle.npf_lexer.specs.declared.token.Token.{Token}

-- the tokens before a byte of the text
abbrev pub tokens_before : ℕ → List Token → List Token
tokens_before at tokens = take (prefix_len (λ token. nat_lt token.span.at at) tokens) tokens

-- the tokens from a byte of the text on
abbrev pub tokens_at : ℕ → List Token → List Token
tokens_at at tokens = drop (prefix_len (λ token. nat_lt token.span.at at) tokens) tokens
