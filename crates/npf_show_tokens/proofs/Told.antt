-- The tokens of pieces, piece by piece from the last on.
use Rattle.std.proofs.Common.{◌≡◌, ℕ, ◌+◌, ◌==◌, true, Ok, List, [], ◌∷◌, ◌++◌, length, drop, map, slice_index, decimal, refl, sym, ap, subst, ◌∙◌, arith, append_assoc}
use Rattle.std.{proofs.{lemmas.{Bool.and_parts, Grind.common_steps}, Math.Seq.drop-append_seam}, specs.{Char.is_ascii_alphabetic, Int.{w32, to_be_bytes}}}
use Rattle.std.specs.List.{list_all}
use Rattle.npf_show.specs.{Address.address_text, Piece.{Piece, spelled, piece_text}}
use Rattle.npf_lexer.specs.{Run.{is_word, is_no_colon, longest_run}, declared.token.{Sign.Sign, Token.Token, TokenKind.TokenKind}, Front.{Begins, token_front}}
use Rattle.npf_types.specs.declared.address.Addr.TheVariants.{V4, V6}
use Rattle.npf_lexer.specs.declared.token.Sign.TheVariants as Signs
use Rattle.npf_lexer.specs.declared.token.TokenKind.TheVariants as Kind
use Rattle.npf_lexer.specs.{Lexer.{Lexes, end, skip, token, end_token}, Place.{along, over_line, span_of, text_start}, Sign.{sign_text, sign_at}}
use Rattle.npf_show.specs.Piece as Pieces
use Rattle.npf_show_tokens.specs.Tokens.{kind_of_piece, kinds_of_pieces, sign_kind, AreTold, IsSignBefore, TellsTokens}
use Rattle.npf_show_tokens.proofs.{Addresses.{v4_dotted, v4_reads, v6_reads, v6_segments, v6_small}, AddressRuns.{dotted_is_run, eight_are_run}}
use Rattle.npf_show_tokens.proofs.{Fronts.{At, quoted_begins, sign_begins, number_begins, word_begins, address_begins}, NoAddress.word_not_address}

-- pieces from a place on, whose tokens are found
abbrev Found : At → List Piece → Type 0
Found p pieces = (tokens : List Token) × (map (λ token. token.kind) tokens ≡ kinds_of_pieces pieces ++ Kind.End ∷ []) × Lexes p (spelled pieces) (Ok tokens)

-- a token of a piece in front of others
one_more : (p : At) (piece : Piece) (pieces : List Piece) (kind : TokenKind) (n : ℕ) → kind_of_piece piece ≡ kind ∷ []
    → n ≡ length (piece_text piece) → Begins p (piece_text piece ++ spelled pieces) (token_front kind n p) → ((q : At) → Found q pieces) → Found p (piece ∷ pieces)
one_more p piece pieces kind n is len begins behind =
    let text = piece_text piece in
    let rest = behind (along n p) in
    let t : Token = record { kind = kind; span = span_of n p } in
    let left : drop n (text ++ spelled pieces) ≡ spelled pieces = ap (λ k. drop k (text ++ spelled pieces)) len ∙ drop-append_seam text (spelled pieces) in
    let lexes = subst (λ bytes. Lexes (along n p) bytes (Ok rest.0)) (sym left) rest.2 in (
      t ∷ rest.0,
      ap (λ kinds. kind ∷ kinds) rest.1 ∙ ap (λ kinds. kinds ++ kinds_of_pieces pieces ++ Kind.End ∷ []) (sym is),
      token p (text ++ spelled pieces) t n (along n p) (Ok rest.0) begins lexes,
    )

sign_kind_is : (sign : Sign) → sign_kind (sign_at (sign_text sign)) ≡ Kind.Sign sign ∷ []
sign_kind_is Signs.Both = refl
sign_kind_is Signs.Left = refl
sign_kind_is Signs.Right = refl
sign_kind_is Signs.Less = refl
sign_kind_is Signs.Greater = refl
sign_kind_is Signs.Equals = refl
sign_kind_is Signs.OpenBrace = refl
sign_kind_is Signs.CloseBrace = refl
sign_kind_is Signs.OpenParen = refl
sign_kind_is Signs.CloseParen = refl
sign_kind_is Signs.Comma = refl
sign_kind_is Signs.Slash = refl
sign_kind_is Signs.Dash = refl
sign_kind_is Signs.Colon = refl
sign_kind_is Signs.Exclamation = refl

sign_told : (p : At) (text : List ℕ) (pieces : List Piece) → IsSignBefore text (spelled pieces) → ((q : At) → Found q pieces) → Found p (Pieces.Sign text ∷ pieces)
sign_told p text pieces is behind =
    subst (λ bytes. Found p (Pieces.Sign bytes ∷ pieces)) (sym is.spelled)
    (one_more p (Pieces.Sign (sign_text is.sign)) pieces (Kind.Sign is.sign) (length (sign_text is.sign)) (sign_kind_is is.sign) refl
    (sign_begins p is.sign (spelled pieces) is.ends) behind)

quoted_text_is : (text rest : List ℕ) → 34 ∷ (text ++ 34 ∷ rest) ≡ piece_text (Pieces.Quoted text) ++ rest
quoted_text_is text rest = ap (λ bytes. 34 ∷ bytes) (sym (append_assoc text (34 ∷ []) rest))

length_quoted : (text : List ℕ) → length text + 2 ≡ length (piece_text (Pieces.Quoted text))
length_quoted text = grind (arith, common_steps)

told : (pieces : List Piece) → AreTold pieces → (p : At) → Found p pieces
told [] are p = (end_token p ∷ [], refl, end p [] refl)
told (Pieces.Space ∷ pieces) are p =
    let rest = told pieces are.1 (along 1 p) in
    (rest.0, rest.1, skip p (32 ∷ spelled pieces) 1 (along 1 p) (Ok rest.0) refl rest.2)
told (Pieces.LineEnd ∷ pieces) are p =
    let rest = told pieces are.1 (over_line 1 p) in
    let t : Token = record { kind = Kind.LineFeed; span = span_of 1 p } in
    (t ∷ rest.0, ap (λ kinds. Kind.LineFeed ∷ kinds) rest.1, token p (10 ∷ spelled pieces) t 1 (over_line 1 p) (Ok rest.0) refl rest.2)
told (Pieces.Word text ∷ pieces) are p =
    let word = and_parts (is_word text) (longest_run true text == length text) are.0.0 in
    let parts = and_parts (is_ascii_alphabetic (slice_index text 0)) (list_all is_no_colon text) word.0 in
    one_more p (Pieces.Word text) pieces (Kind.Word text) (length text) refl refl
    (word_begins p text (spelled pieces) are.0.0 (λ addr. word_not_address text addr parts.0 parts.1) are.0.1) (told pieces are.1)
told (Pieces.Quoted text ∷ pieces) are p =
    one_more p (Pieces.Quoted text) pieces (Kind.Str text) (length text + 2) refl (length_quoted text)
    (subst (λ bytes. Begins p bytes (token_front (Kind.Str text) (length text + 2) p)) (quoted_text_is text (spelled pieces))
    (quoted_begins p text (spelled pieces) are.0)) (told pieces are.1)
told (Pieces.Number number ∷ pieces) are p =
    one_more p (Pieces.Number number) pieces (Kind.Number number) (length (decimal number)) refl refl
    (number_begins p number (spelled pieces) are.0.0 are.0.1) (told pieces are.1)
told (Pieces.Address (V4 bits) ∷ pieces) are p =
    let text = address_text (V4 bits) in
    one_more p (Pieces.Address (V4 bits)) pieces (Kind.Address (V4 bits)) (length text) refl refl
    (address_begins p text (spelled pieces) (V4 bits) (dotted_is_run text (to_be_bytes w32 bits) (v4_dotted bits)) (v4_reads bits are.0.0) are.0.1)
    (told pieces are.1)
told (Pieces.Address (V6 bits) ∷ pieces) are p =
    let text = address_text (V6 bits) in
    one_more p (Pieces.Address (V6 bits)) pieces (Kind.Address (V6 bits)) (length text) refl refl
    (address_begins p text (spelled pieces) (V6 bits) (eight_are_run (v6_segments bits) (v6_small bits) refl) (v6_reads bits are.0.0) are.0.1) (told pieces are.1)
told (Pieces.Sign text ∷ pieces) are p = sign_told p text pieces are.0 (told pieces are.1)

pub tells_tokens_lem : TellsTokens
tells_tokens_lem pieces are = told pieces are text_start
