-- What the tokens of a text are.
use Rattle.std.specs.Prelude.{◌≡◌, true, List, [], ◌∷◌}
use Rattle.npf_lexer.specs.declared.token.Token.{Token}
use Rattle.npf_lexer.specs.declared.token.TokenKind.{TokenKind}
use Rattle.npf_lexer.specs.declared.token.TokenKind.TheVariants as Kind
use Rattle.npf_show_tokens.specs.Showable.{IsPlain, FitsAddr}
use Rattle.npf_show_tokens.specs.Tokens.{is_run_word}

-- a word is one run, a string has neither quotes nor line feeds, an address fits its family
abbrev pub IsSoundKind : TokenKind → Type 0
IsSoundKind (Kind.Word text) = is_run_word text ≡ true
IsSoundKind (Kind.Str text) = IsPlain text
IsSoundKind (Kind.Address addr) = FitsAddr addr
IsSoundKind _ = Unit {0}

abbrev pub AreSoundTokens : List Token → Type 0
AreSoundTokens [] = Unit {0}
AreSoundTokens (token ∷ tokens) = IsSoundKind token.kind × AreSoundTokens tokens
