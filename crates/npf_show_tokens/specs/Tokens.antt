-- Which tokens the pieces of a text are. A piece's token is its own where the text behind it doesn't lengthen it: a word before a letter
-- or `-` would go on, `<` before `-` would be another sign.
use Rattle.std.specs.Prelude.{◌≡◌, ◌<◌, ℕ, ◌^◌, ◌==◌, ⊤, Bool, true, not, ◌&&◌, ◌||◌, Option, Some, None, Ok, List, [], ◌∷◌, ◌++◌, length, drop, map, slice_index}
use Rattle.std.specs.List.{flat_map, list_all}
use Rattle.npf_types.specs.declared.address.Addr.TheVariants.{V4, V6}
use Rattle.npf_lexer.specs.declared.token.Sign.{Sign}
use Rattle.npf_lexer.specs.declared.token.Sign.TheVariants.{Left, Less, Dash, Colon}
use Rattle.npf_lexer.specs.declared.token.Token.{Token}
use Rattle.npf_lexer.specs.declared.token.TokenKind.{TokenKind}
use Rattle.npf_lexer.specs.declared.token.TokenKind.TheVariants as Kind
use Rattle.npf_lexer.specs.ByteClass.{is_run_byte, is_string_byte}
use Rattle.npf_lexer.specs.Lexer.{IsLexed}
use Rattle.npf_lexer.specs.Run.{is_word, longest_run}
use Rattle.npf_lexer.specs.Sign.{sign_text, sign_at}
use Rattle.npf_show.specs.Piece.{Piece, spelled}
use Rattle.npf_show.specs.Piece as Pieces

abbrev pub sign_kind : Option Sign → List TokenKind
sign_kind None = []
sign_kind (Some sign) = Kind.Sign sign ∷ []

-- what a piece is as a token; a space is none
abbrev pub kind_of_piece : Piece → List TokenKind
kind_of_piece Pieces.Space = []
kind_of_piece Pieces.LineEnd = Kind.LineFeed ∷ []
kind_of_piece (Pieces.Word text) = Kind.Word text ∷ []
kind_of_piece (Pieces.Quoted text) = Kind.Str text ∷ []
kind_of_piece (Pieces.Number number) = Kind.Number number ∷ []
kind_of_piece (Pieces.Address addr) = Kind.Address addr ∷ []
kind_of_piece (Pieces.Sign text) = sign_kind (sign_at text)

abbrev pub kinds_of_pieces : List Piece → List TokenKind
kinds_of_pieces pieces = flat_map kind_of_piece pieces

-- a word that is one run
abbrev pub is_run_word : List ℕ → Bool
is_run_word text = is_word text && longest_run true text == length text

-- the bytes behind a run end it, also one that begins with a letter
abbrev pub ends_run : List ℕ → Bool
ends_run behind = not (is_run_byte (slice_index behind 0)) && not (slice_index behind 0 == 45)

-- or begin with a colon that stays a sign
abbrev pub leaves_colon : List ℕ → Bool
leaves_colon behind = slice_index behind 0 == 58 && ends_run (drop 1 behind)

-- the bytes behind a sign make no longer sign of it, nor a run of `:`
abbrev pub ends_sign : Sign → List ℕ → Bool
ends_sign Less behind = not (slice_index behind 0 == 45)
ends_sign Left behind = not (slice_index behind 0 == 62)
ends_sign Dash behind = not (slice_index behind 0 == 62)
ends_sign Colon behind = ends_run behind
ends_sign _ behind = true

-- the text is a sign's, which ends there
pub record IsSignBefore (text behind : List ℕ) : Type 0 where
  pub sign : Sign
  pub spelled : text ≡ sign_text sign
  pub ends : ends_sign sign behind ≡ true

-- the piece can be told from the text behind it
abbrev pub IsTold : Piece → List ℕ → Type 0
IsTold Pieces.Space behind = ⊤
IsTold Pieces.LineEnd behind = ⊤
IsTold (Pieces.Word text) behind = (is_run_word text ≡ true) × ((ends_run behind || leaves_colon behind) ≡ true)
IsTold (Pieces.Quoted text) behind = list_all is_string_byte text ≡ true
IsTold (Pieces.Number number) behind = (number < 2 ^ 32) × (not (is_run_byte (slice_index behind 0)) ≡ true)
IsTold (Pieces.Address (V4 bits)) behind = (bits < 2 ^ 32) × (ends_run behind ≡ true)
IsTold (Pieces.Address (V6 bits)) behind = (bits < 2 ^ 128) × (ends_run behind ≡ true)
IsTold (Pieces.Sign text) behind = IsSignBefore text behind

-- each piece can be told from the pieces behind it
abbrev pub AreTold : List Piece → Type 0
AreTold [] = ⊤
AreTold (piece ∷ pieces) = IsTold piece (spelled pieces) × AreTold pieces

-- a text of such pieces has their tokens, and the end's
abbrev pub TellsTokens : Type 0
TellsTokens = (pieces : List Piece) → AreTold pieces
    → (tokens : List Token) × (map (λ token. token.kind) tokens ≡ kinds_of_pieces pieces ++ Kind.End ∷ []) × IsLexed (spelled pieces) (Ok tokens)
