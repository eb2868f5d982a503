-- Parts of lines: each can be told from what stands behind it, where that begins with a space, a line feed or a comma, and begins so itself.
use Rattle.std.proofs.Common.{◌≡◌, ℕ, ◌<◌, ◌^◌, ◌==◌, ◌&&◌, ◌||◌, Bool, true, false, not, Option, Some, None, List, [], ◌∷◌, ◌++◌, slice_index, codes, refl, sym, subst, arith, append_assoc}
use Rattle.std.{proofs.lemmas.{Bool.Decides.nat_tests, List.Elements.{All-head, All-tail}}, specs.{List.{All, flat_map}, Prelude.IfSome}}
use Rattle.npf_lexer.specs.{declared.token.Sign.Sign, ByteClass.is_run_byte, Sign.sign_text}
use Rattle.npf_lexer.specs.declared.token.Sign.TheVariants as Signs
use Rattle.npf_show.specs.Piece.{Piece, spelled, glued, spaced, line_end, optional_pieces, comma_list, list_pieces}
use Rattle.npf_show.specs.Piece as Pieces
use Rattle.npf_show_tokens.specs.{Showable.IsPlain, Tokens.{AreTold, ends_run, ends_sign, leaves_colon, is_run_word}}

-- a space, a line feed, a comma, or the end
abbrev pub is_parting : ℕ → Bool
is_parting b = b == 32 || b == 10 || b == 44 || b == 0

abbrev pub Parts : List Piece → Type 0
Parts rest = is_parting (slice_index (spelled rest) 0) ≡ true

pub record Stands (pieces : List Piece) : Type 0 where
  pub told : AreTold pieces
  pub parts : Parts pieces

-- a part of a line
abbrev pub Follows : List Piece → Type 0
Follows chunk = (rest : List Piece) → Stands rest → Stands (chunk ++ rest)

ends_by : (b : ℕ) → is_parting b ≡ true → (not (is_run_byte b) && not (b == 45)) ≡ true
ends_by b is = grind (arith, nat_tests)

pub ends_here : (rest : List Piece) → Parts rest → ends_run (spelled rest) ≡ true
ends_here rest parts = ends_by (slice_index (spelled rest) 0) parts

no_greater : (b : ℕ) → is_parting b ≡ true → not (b == 62) ≡ true
no_greater b is = grind (arith, nat_tests)

no_dash : (b : ℕ) → is_parting b ≡ true → not (b == 45) ≡ true
no_dash b is = grind (arith, nat_tests)

no_run : (b : ℕ) → is_parting b ≡ true → not (is_run_byte b) ≡ true
no_run b is = grind (arith, nat_tests)

pub either_true : (a b : Bool) → a ≡ true → (a || b) ≡ true
either_true true b is = refl
either_true false b is = cc

-- behind a space anything parts
pub behind_space : (pieces : List Piece) → AreTold pieces → Stands (Pieces.Space ∷ pieces)
behind_space pieces told = record { told = (tt, told); parts = refl }

pub behind_line : (pieces : List Piece) → AreTold pieces → Stands (Pieces.LineEnd ∷ pieces)
behind_line pieces told = record { told = (tt, told); parts = refl }

pub word_told : (text : List ℕ) (rest : List Piece) → is_run_word text ≡ true → Stands rest → AreTold (Pieces.Word text ∷ rest)
word_told text rest is stands = ((is, either_true (ends_run (spelled rest)) (leaves_colon (spelled rest)) (ends_here rest stands.parts)), stands.told)

pub word_follows : (text : List ℕ) → is_run_word text ≡ true → Follows (spaced (Pieces.Word text))
word_follows text is rest stands = behind_space (Pieces.Word text ∷ rest) (word_told text rest is stands)

pub quoted_follows : (text : List ℕ) → IsPlain text → Follows (spaced (Pieces.Quoted text))
quoted_follows text is rest stands = behind_space (Pieces.Quoted text ∷ rest) (is, stands.told)

pub number_told : (n : ℕ) (rest : List Piece) → n < 2 ^ 32 → Stands rest → AreTold (Pieces.Number n ∷ rest)
number_told n rest small stands = ((small, no_run (slice_index (spelled rest) 0) stands.parts), stands.told)

pub number_follows : (n : ℕ) → n < 2 ^ 32 → Follows (spaced (Pieces.Number n))
number_follows n small rest stands = behind_space (Pieces.Number n ∷ rest) (number_told n rest small stands)

sign_ends : (sign : Sign) (text : List ℕ) → is_parting (slice_index text 0) ≡ true → ends_sign sign text ≡ true
sign_ends Signs.Less text is = no_dash (slice_index text 0) is
sign_ends Signs.Left text is = no_greater (slice_index text 0) is
sign_ends Signs.Dash text is = no_greater (slice_index text 0) is
sign_ends Signs.Colon text is = ends_by (slice_index text 0) is
sign_ends Signs.Both text is = refl
sign_ends Signs.Right text is = refl
sign_ends Signs.Greater text is = refl
sign_ends Signs.Equals text is = refl
sign_ends Signs.Exclamation text is = refl
sign_ends Signs.OpenBrace text is = refl
sign_ends Signs.CloseBrace text is = refl
sign_ends Signs.OpenParen text is = refl
sign_ends Signs.CloseParen text is = refl
sign_ends Signs.Comma text is = refl
sign_ends Signs.Slash text is = refl

pub sign_told : (sign : Sign) (rest : List Piece) → Stands rest → AreTold (Pieces.Sign (sign_text sign) ∷ rest)
sign_told sign rest stands = (record { sign = sign; spelled = refl; ends = sign_ends sign (spelled rest) stands.parts }, stands.told)

pub sign_follows : (sign : Sign) → Follows (spaced (Pieces.Sign (sign_text sign)))
sign_follows sign rest stands = behind_space (Pieces.Sign (sign_text sign) ∷ rest) (sign_told sign rest stands)

comma_follows : Follows (glued (Pieces.Sign (codes ",")))
comma_follows rest stands = record { told = sign_told Signs.Comma rest stands; parts = refl }

pub nothing_follows : Follows []
nothing_follows rest stands = stands

pub both_follow : (a b : List Piece) → Follows a → Follows b → Follows (a ++ b)
both_follow a b f g rest stands = subst Stands (sym (append_assoc a b rest)) (f (b ++ rest) (g rest stands))

pub option_follows : {A : Type 0} (P : A → Type 0) (pieces : A → List Piece) → ((a : A) → P a → Follows (pieces a))
    → (o : Option A) → IfSome o P → Follows (optional_pieces pieces o)
option_follows P pieces step None is = nothing_follows
option_follows P pieces step (Some a) is = step a is

others_follow : {A : Type 0} (P : A → Type 0) (pieces : A → List Piece) → ((a : A) → P a → Follows (pieces a))
    → (xs : List A) → All P xs → Follows (flat_map (λ x. glued (Pieces.Sign (codes ",")) ++ pieces x) xs)
others_follow P pieces step [] all = nothing_follows
others_follow P pieces step (x ∷ xs) all =
    both_follow (glued (Pieces.Sign (codes ",")) ++ pieces x) (flat_map (λ y. glued (Pieces.Sign (codes ",")) ++ pieces y) xs)
    (both_follow (glued (Pieces.Sign (codes ","))) (pieces x) comma_follows (step x (All-head P x xs all)))
    (others_follow P pieces step xs (All-tail P x xs all))

pub comma_list_follows : {A : Type 0} (P : A → Type 0) (pieces : A → List Piece) → ((a : A) → P a → Follows (pieces a))
    → (xs : List A) → All P xs → Follows (comma_list pieces xs)
comma_list_follows P pieces step [] all = nothing_follows
comma_list_follows P pieces step (x ∷ xs) all =
    both_follow (pieces x) (flat_map (λ y. glued (Pieces.Sign (codes ",")) ++ pieces y) xs) (step x (All-head P x xs all))
    (others_follow P pieces step xs (All-tail P x xs all))

braced_follows : (inside : List Piece) → Follows inside → Follows (spaced (Pieces.Sign (codes "{")) ++ inside ++ spaced (Pieces.Sign (codes "}")))
braced_follows inside f =
    both_follow (spaced (Pieces.Sign (codes "{")) ++ inside) (spaced (Pieces.Sign (codes "}")))
    (both_follow (spaced (Pieces.Sign (codes "{"))) inside (sign_follows Signs.OpenBrace) f) (sign_follows Signs.CloseBrace)

pub list_follows : {A : Type 0} (P : A → Type 0) (pieces : A → List Piece) → ((a : A) → P a → Follows (pieces a))
    → (xs : List A) → All P xs → Follows (list_pieces pieces xs)
list_follows P pieces step [] all = braced_follows [] nothing_follows
list_follows P pieces step (x ∷ []) all = step x (All-head P x [] all)
list_follows P pieces step (x ∷ y ∷ xs) all = braced_follows (comma_list pieces (x ∷ y ∷ xs)) (comma_list_follows P pieces step (x ∷ y ∷ xs) all)
