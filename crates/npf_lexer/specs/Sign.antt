-- The signs of npf.conf(5).
use Rattle.std.specs.Prelude.{ℕ, List, [], ◌∷◌, Option, codes, find, nat_eq}
use Rattle.std.specs.List.{starts_with}
use Rattle.npf_lexer.specs.declared.token.Sign.{Sign}
use Rattle.npf_lexer.specs.declared.token.Sign.TheVariants.{Both, Left, Right, Less, Greater, Equals, OpenBrace, CloseBrace, OpenParen, CloseParen, Comma, Slash, Dash, Colon, Exclamation}

-- how a sign is spelled
abbrev pub sign_text : Sign → List ℕ
sign_text Both = codes "<->"
sign_text Left = codes "<-"
sign_text Right = codes "->"
sign_text Less = codes "<"
sign_text Greater = codes ">"
sign_text Equals = codes "="
sign_text OpenBrace = codes "{"
sign_text CloseBrace = codes "}"
sign_text OpenParen = codes "("
sign_text CloseParen = codes ")"
sign_text Comma = codes ","
sign_text Slash = codes "/"
sign_text Dash = codes "-"
sign_text Colon = codes ":"
sign_text Exclamation = codes "!"

-- the signs, each before those that it begins with
abbrev pub longest_first : List Sign
longest_first = Both ∷ Left ∷ Right ∷ Less ∷ Greater ∷ Equals ∷ OpenBrace ∷ CloseBrace ∷ OpenParen ∷ CloseParen ∷ Comma ∷ Slash ∷ Dash ∷ Colon ∷ Exclamation ∷ []

-- the longest sign that a text begins with
abbrev pub sign_at : List ℕ → Option Sign
sign_at text = find (λ s. starts_with nat_eq text (sign_text s)) longest_first
