-- Words that are written one after the other.
use Rattle.std.proofs.Common.{◌≡◌, ℕ, ◌+◌, ◌<◌, List, [], ◌∷◌, ◌++◌, length, get_or, drop, refl, sym, ap, ◌∙◌, subst, drop-cons, add-one}
use Rattle.std.specs.Prelude.{slice_index}
use Rattle.npf_rewrite.specs.{declared.word.WordAt.WordAt, Word.{AllWithin, Rewrites, byte_after, byte_there}}

pub byte_there-append : (ws vs : List WordAt) (at byte : ℕ)
    → byte_there (ws ++ vs) at byte ≡ byte_there vs at (byte_there ws at byte)
byte_there-append [] vs at byte = refl
byte_there-append (w ∷ ws) vs at byte = byte_there-append ws vs at (byte_after w at byte)

pub rewrites_both : (a b c : List ℕ) (ws vs : List WordAt)
    → Rewrites a ws b → Rewrites b vs c → Rewrites a (ws ++ vs) c
rewrites_both a b c ws vs p q = record {
  size = q.size ∙ p.size;
  each = λ at. q.each at ∙ ap (byte_there vs at) (p.each at)
      ∙ sym (byte_there-append ws vs at (slice_index a at));
}

pub rewrites_as : (a b : List ℕ) (ws vs : List WordAt) → ws ≡ vs → Rewrites a ws b → Rewrites a vs b
rewrites_as a b ws vs e h = let P : List WordAt → Type 0 = λ xs. Rewrites a xs b in subst P e h

-- the word at a place, and those behind it
pub at_head : (words : List WordAt) (i : ℕ) (d : WordAt) → i < length words
    → drop i words ≡ get_or words i d ∷ drop (i + 1) words
at_head words i d within = rw add-one (drop-cons words i d within)

-- once the word at a place is written, those behind it are left
pub rewrites_next : (a b : List ℕ) (words : List WordAt) (i : ℕ) (d : WordAt) → i < length words
    → Rewrites a (get_or words i d ∷ []) b
    → (c : List ℕ) → Rewrites b (drop (i + 1) words) c → Rewrites a (drop i words) c
rewrites_next a b words i d within one c rest =
    rewrites_as a c (get_or words i d ∷ drop (i + 1) words) (drop i words)
    (sym (at_head words i d within))
    (rewrites_both a b c (get_or words i d ∷ []) (drop (i + 1) words) one rest)

pub within_next : (a b : List ℕ) (words : List WordAt) (i : ℕ) (d : WordAt) → i < length words
    → length b ≡ length a
    → AllWithin (length a) (drop i words) → AllWithin (length b) (drop (i + 1) words)
within_next a b words i d within same h =
    let P : List WordAt → Type 0 = λ ws. AllWithin (length a) ws in
    let Q : ℕ → Type 0 = λ n. AllWithin n (drop (i + 1) words) in
    subst Q (sym same) (subst P (at_head words i d within) h).1
