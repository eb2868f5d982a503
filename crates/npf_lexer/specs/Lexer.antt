-- Which tokens a text of npf.conf(5) spells, or which fault it has first.
-- READ 5 of docs/READING.md
use Rattle.std.specs.Prelude.{ℕ, ⊤, Result, Ok, Err, List, [], ◌∷◌, drop}
use Rattle.npf_faults.specs.declared.fault.ConfFault.{ConfFault}
use Rattle.npf_faults.specs.declared.fault.Refused.{Refused}
use Rattle.npf_faults.specs.declared.fault.Refused.TheVariants.{Fault, NoMemory}
use Rattle.npf_lexer.specs.declared.front.Front.TheVariants.{End, Skipped, Found, Faulty}
use Rattle.npf_lexer.specs.declared.place.TextPlace.{TextPlace}
use Rattle.npf_lexer.specs.declared.token.Token.{Token}
use Rattle.npf_lexer.specs.declared.token.TokenKind.TheVariants as Kind
use Rattle.npf_lexer.specs.Front.{Begins}
use Rattle.npf_lexer.specs.Place.{text_start, span_of}

-- tokens, or the first fault
abbrev pub Lexed : Type 0
Lexed = Result (List Token) ConfFault

-- the token at the text's end
abbrev pub end_token : TextPlace → Token
end_token p = record { kind = Kind.End; span = span_of 0 p }

-- a token before what is read behind it
abbrev pub onto : Token → Lexed → Lexed
onto t (Ok ts) = Ok (t ∷ ts)
onto _ (Err f) = Err f

-- what the text is from a place on
pub data Lexes : TextPlace → List ℕ → Lexed → Type 0 where
  end : (p : TextPlace) (text : List ℕ) → Begins p text End → Lexes p text (Ok (end_token p ∷ []))
  skip : (p : TextPlace) (text : List ℕ) (n : ℕ) (q : TextPlace) (lexed : Lexed) → Begins p text (Skipped n q) → Lexes q (drop n text) lexed → Lexes p text lexed
  token : (p : TextPlace) (text : List ℕ) (t : Token) (n : ℕ) (q : TextPlace) (lexed : Lexed) → Begins p text (Found t n q) → Lexes q (drop n text) lexed → Lexes p text (onto t lexed)
  fault : (p : TextPlace) (text : List ℕ) (f : ConfFault) → Begins p text (Faulty f) → Lexes p text (Err f)

-- what the text is: all its tokens, or its first fault
abbrev pub IsLexed : List ℕ → Lexed → Type 0
IsLexed text lexed = Lexes text_start text lexed

-- a fact of the fault, where a text was refused for one
abbrev pub IfFault : (ConfFault → Type 0) → Refused → Type 0
IfFault P (Fault f) = P f
IfFault P NoMemory = ⊤
