-- Texts: line feeds at the end of tokens, and bytes that are UTF-8.
use Rattle.std.{proofs.Common.{◌≡◌, ℕ, Bool, true, false, List, [], ◌∷◌, ◌++◌, length, arith, refl, sym, ap, ◌∙◌, IsUtf8}, specs.Str.is_utf8}
use Rattle.std.proofs.lemmas.Str.{IsUtf8-from_is_utf8, is_utf8-from_IsUtf8}
use Rattle.npf_lexer.specs.declared.token.Token.{Token}
use Rattle.npf_parser_values.specs.Token.{trimmed, is_line_feed_kind, before_others}

trimmed_none : trimmed [] ≡ []
unfolding trimmed
trimmed_none = refl

pub trimmed_empty : (ts : List Token) → length ts ≡ 0 → ts ≡ trimmed ts
trimmed_empty [] is = sym trimmed_none
trimmed_empty (t ∷ ts) is = absurd (let none : ⊥ = omega arith in none)

trimmed_cons : (t : Token) (ts : List Token) → trimmed (t ∷ ts) ≡ before_others (is_line_feed_kind t.kind) t (trimmed ts)
unfolding trimmed
trimmed_cons t ts = refl

-- a line feed at the end is dropped
pub trimmed_feed : (front : List Token) (t : Token) → is_line_feed_kind t.kind ≡ true → trimmed (front ++ t ∷ []) ≡ trimmed front
trimmed_feed [] t feeds = trimmed_cons t [] ∙ ap (λ b. before_others b t (trimmed [])) feeds ∙ ap (before_others true t) trimmed_none ∙ sym trimmed_none
trimmed_feed (u ∷ front) t feeds = trimmed_cons u (front ++ t ∷ []) ∙ ap (before_others (is_line_feed_kind u.kind) u) (trimmed_feed front t feeds) ∙ sym (trimmed_cons u front)

before_last : (b : Bool) (u t : Token) (front : List Token) → before_others b u (front ++ t ∷ []) ≡ u ∷ (front ++ t ∷ [])
before_last true u t [] = refl
before_last true u t (v ∷ front) = refl
before_last false u t front = refl

-- and any other token stays
pub trimmed_other : (front : List Token) (t : Token) → is_line_feed_kind t.kind ≡ false → trimmed (front ++ t ∷ []) ≡ front ++ t ∷ []
trimmed_other [] t other = trimmed_cons t [] ∙ ap (λ b. before_others b t (trimmed [])) other ∙ ap (λ us. t ∷ us) trimmed_none
trimmed_other (u ∷ front) t other = trimmed_cons u (front ++ t ∷ []) ∙ ap (before_others (is_line_feed_kind u.kind) u) (trimmed_other front t other) ∙ before_last (is_line_feed_kind u.kind) u t front

pub is_utf8_true : (text : List ℕ) → IsUtf8 text → true ≡ is_utf8 text
is_utf8_true text is = sym (is_utf8-from_IsUtf8 text is)

tested_false : (text : List ℕ) (b : Bool) → is_utf8 text ≡ b → ¬ IsUtf8 text → false ≡ b
tested_false text true is none = absurd (none (IsUtf8-from_is_utf8 text is))
tested_false text false is none = refl

pub is_utf8_false : (text : List ℕ) → ¬ IsUtf8 text → false ≡ is_utf8 text
is_utf8_false text none = tested_false text (is_utf8 text) refl none
