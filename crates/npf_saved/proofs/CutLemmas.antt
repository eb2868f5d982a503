-- A text that is a word, a mark and a rest is cut into the word and the rest, where the word lacks the mark.
use Rattle.std.proofs.Common.{◌≡◌, ◌<◌, ◌+◌, ◌-◌, ◌==◌, ℕ, Bool, true, not, ◌&&◌, Some, None, position, List, [], ◌∷◌, ◌++◌, length, take, drop, get_or, refl, sym, ap, ◌∙◌, arith}
use Rattle.std.{specs.List.{list_all, before_first, after_first, position_or_len, prefix_len}, proofs.lemmas.Bool.and_parts}
use Rattle.std.proofs.{lemmas.List.{drop_all, length-drop, take_all}, Math.Seq.{take-append_seam, drop-append-add}}
use Rattle.npf_shelf.proofs.PositionLemmas.{position-some_or_len, position-none_or_len}

-- no byte of the word is the mark
abbrev pub lacks : ℕ → List ℕ → Bool
lacks mark word = list_all (λ byte. not (byte == mark)) word

-- two words with a mark of their own between lack a third
pub lacks_both : (mark other : ℕ) (word rest : List ℕ) → lacks mark word ≡ true → not (other == mark) ≡ true → lacks mark rest ≡ true
    → lacks mark (word ++ other ∷ rest) ≡ true
lacks_both mark other [] rest one two three = rw (two, three) refl
lacks_both mark other (byte ∷ word) rest one two three =
    let both = and_parts (not (byte == mark)) (lacks mark word) one in
    rw (both.0, lacks_both mark other word rest both.1 two three) refl

-- the first mark stands behind the word
pub first_mark : (mark : ℕ) (word rest : List ℕ) → lacks mark word ≡ true → position_or_len (λ byte. byte == mark) (word ++ mark ∷ rest) ≡ length word
first_mark mark [] rest _ = search (arith)
first_mark mark (byte ∷ word) rest lack =
    let both = and_parts (not (byte == mark)) (lacks mark word) lack in
    rw (both.0, first_mark mark word rest both.1) (omega arith)

pub word_before : (mark : ℕ) (text word rest : List ℕ) → text ≡ word ++ mark ∷ rest → lacks mark word ≡ true → before_first (λ byte. byte == mark) text ≡ word
word_before mark text word rest is lack =
    ap (before_first (λ byte. byte == mark)) is
    ∙ ap (λ n. take n (word ++ mark ∷ rest)) (first_mark mark word rest lack)
    ∙ take-append_seam word (mark ∷ rest)

pub rest_behind : (mark : ℕ) (text word rest : List ℕ) → text ≡ word ++ mark ∷ rest → lacks mark word ≡ true → after_first (λ byte. byte == mark) text ≡ rest
rest_behind mark text word rest is lack =
    ap (after_first (λ byte. byte == mark)) is
    ∙ ap (λ n. drop (n + 1) (word ++ mark ∷ rest)) (first_mark mark word rest lack)
    ∙ drop-append-add word (mark ∷ rest) 1

pub found_behind : (p : ℕ → Bool) (text : List ℕ) (at : ℕ) → position p text ≡ Some at
    → take (length text - (at + 1)) (drop (at + 1) text) ≡ after_first p text
found_behind p text at found =
    let long = length-drop (at + 1) text in
    take_all (length text - (at + 1)) (drop (at + 1) text) (omega (arith, long)) ∙ ap (λ n. drop (n + 1) text) (sym (position-some_or_len p text at found))

pub none_behind : (p : ℕ → Bool) (text : List ℕ) → position p text ≡ None → [] ≡ after_first p text
none_behind p text none = let all = position-none_or_len p text none in sym (drop_all (position_or_len p text + 1) text (omega (arith, all)))

-- and a text that lacks the mark is cut into itself and nothing
no_mark : (mark : ℕ) (text : List ℕ) → lacks mark text ≡ true → position_or_len (λ byte. byte == mark) text ≡ length text
no_mark mark [] _ = refl
no_mark mark (byte ∷ text) lack =
    let both = and_parts (not (byte == mark)) (lacks mark text) lack in
    rw (both.0, no_mark mark text both.1) (omega arith)

pub whole_before : (mark : ℕ) (text : List ℕ) → lacks mark text ≡ true → before_first (λ byte. byte == mark) text ≡ text
whole_before mark text lack = ap (λ n. take n text) (no_mark mark text lack) ∙ take_all (length text) text (omega arith)

pub none_after : (mark : ℕ) (text : List ℕ) → lacks mark text ≡ true → after_first (λ byte. byte == mark) text ≡ []
none_after mark text lack = ap (λ n. drop (n + 1) text) (no_mark mark text lack) ∙ drop_all (length text + 1) text (omega arith)
