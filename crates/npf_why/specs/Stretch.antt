-- Which bytes of a text hold a place: the innermost statement, item or call. It begins behind the separator or brace before the place, and ends
-- at the next from the place on, outside inner braces. What stands in the braces of a list parts nothing.
use Rattle.std.specs.Prelude.{ℕ, ◌+◌, ◌&&◌, ◌||◌, not, Bool, true, false, if◌then◌else◌, List, [], ◌∷◌, codes}
use Rattle.std.specs.Str.{bytes_eq}
use Rattle.npf_lexer.specs.declared.token.Sign.TheVariants.{OpenBrace, CloseBrace, Equals, Exclamation}
use Rattle.npf_lexer.specs.declared.token.Token.{Token}
use Rattle.npf_lexer.specs.declared.token.TokenKind.{TokenKind}
use Rattle.npf_lexer.specs.declared.token.TokenKind.TheVariants as Kind
use Rattle.npf_why.specs.declared.stretch.Stretch.{Stretch}
use Rattle.npf_why.specs.declared.stretch.Walk.{Walk}
use Rattle.npf_why.specs.Tokens.{tokens_at, tokens_before}

abbrev pub is_list_word : List ℕ → Bool
is_list_word word = bytes_eq word (codes "from") || bytes_eq word (codes "to") || bytes_eq word (codes "port") || bytes_eq word (codes "proto")

-- a brace behind this token opens a list, and behind another the items of a group or the calls of a procedure
abbrev pub leads_list : TokenKind → Bool
leads_list (Kind.Sign Equals) = true
leads_list (Kind.Sign Exclamation) = true
leads_list (Kind.Word word) = is_list_word word
leads_list _ = false

-- the token parts statements, items or calls
abbrev pub is_divider : Walk → TokenKind → Bool
is_divider walk Kind.LineFeed = not walk.in_list
is_divider walk Kind.Semicolon = true
is_divider walk (Kind.Sign OpenBrace) = not (walk.in_list || walk.leads_list)
is_divider walk (Kind.Sign CloseBrace) = not walk.in_list
is_divider walk _ = false

-- what stands behind the token is in a list
abbrev pub list_behind : Walk → TokenKind → Bool
list_behind walk Kind.Semicolon = false
list_behind walk (Kind.Sign OpenBrace) = walk.in_list || walk.leads_list
list_behind walk (Kind.Sign CloseBrace) = false
list_behind walk _ = walk.in_list

-- what stands behind the token is in inner braces that are no list's
abbrev pub inner_behind : Walk → TokenKind → Bool
inner_behind walk (Kind.Sign OpenBrace) = walk.is_inner || is_divider walk (Kind.Sign OpenBrace)
inner_behind walk (Kind.Sign CloseBrace) = walk.is_inner && walk.in_list
inner_behind walk _ = walk.is_inner

-- the byte behind a token
abbrev pub end_of_token : Token → ℕ
end_of_token token = token.span.at + token.span.len

-- what is known behind one more token
abbrev pub step : Walk → Token → Walk
step walk token = record {
  start = if is_divider walk token.kind then end_of_token token else walk.start;
  is_empty = is_divider walk token.kind;
  in_list = list_behind walk token.kind;
  leads_list = leads_list token.kind;
  is_inner = inner_behind walk token.kind;
}

abbrev pub walked : Walk → List Token → Walk
walked walk [] = walk
walked walk (token ∷ tokens) = walked (step walk token) tokens

-- at the text's front
abbrev pub at_front : Walk
at_front = record { start = 0; is_empty = true; in_list = false; leads_list = false; is_inner = false }

-- at the place, behind which braces are inner
abbrev pub from_place : Walk → Walk
from_place walk = record { start = walk.start; is_empty = walk.is_empty; in_list = walk.in_list; leads_list = walk.leads_list; is_inner = false }

-- what holds the place ends at this token
abbrev pub is_end : Walk → TokenKind → Bool
is_end walk Kind.End = true
is_end walk (Kind.Sign OpenBrace) = false
is_end walk kind = is_divider walk kind && not walk.is_inner

-- where it ends, of the tokens from the place on; without one, at the text's end
abbrev pub end_from : ℕ → Walk → List Token → ℕ
end_from len walk [] = len
end_from len walk (token ∷ tokens) = if is_end walk token.kind then token.span.at else end_from len (step walk token) tokens

-- and where nothing stands before the token at which it ends, behind that token
abbrev pub end_at : ℕ → Walk → List Token → ℕ
end_at len walk [] = len
end_at len walk (token ∷ tokens) = if walk.is_empty && is_end walk token.kind then end_of_token token else end_from len walk (token ∷ tokens)

-- the bytes that hold byte `at` of a text with so many bytes and these tokens
abbrev pub stretch_of : ℕ → ℕ → List Token → Stretch
stretch_of len at tokens =
    let walk = from_place (walked at_front (tokens_before at tokens)) in
    record { from = walk.start; to = end_at len walk (tokens_at at tokens) }
