-- The first line of a text.
use Rattle.std.proofs.Common.{◌≡◌, ◌<◌, ◌≤◌, ◌+◌, ◌-◌, ◌==◌, ℕ, Bool, true, false, Some, None, List, [], ◌∷◌, ◌++◌, length, take, drop, get_or, position, refl, sym, ap, ◌∙◌, append_assoc, arith}
use Rattle.std.{specs.List.before_first, proofs.lemmas.Bool.eqb-true}
use Rattle.std.proofs.lemmas.List.{append_cancel_left, drop_more, length-append, length-drop, take-append-drop, take_all, Quantifiers.position-Some}
use Rattle.npf_shelf.proofs.PositionLemmas.{position-some_before, position-none_before}
use Rattle.npf_saved.specs.File.{ended_line}
use Rattle.npf_saved_file.specs.File.{IsFirstLine, is_line_feed}

-- it ends at the first line feed
pub line_at : (text : List ℕ) (at : ℕ) → position is_line_feed text ≡ Some at
    → IsFirstLine text (take at text) (take (length text - (at + 1)) (drop (at + 1) text))
line_at text at found =
    let is = position-Some is_line_feed text at 0 found in
    let feed : get_or text at 0 ≡ 10 = eqb-true (get_or text at 0) 10 is.1 in
    let long = length-drop (at + 1) text in
    let all : take (length text - (at + 1)) (drop (at + 1) text) ≡ drop (at + 1) text = take_all (length text - (at + 1)) (drop (at + 1) text) (omega (arith, long)) in
    record {
      spelled = sym (take-append-drop at text)
          ∙ ap (λ rest. take at text ++ rest) (drop_more text at 0 is.0 ∙ ap (λ byte. byte ∷ drop (at + 1) text) feed ∙ ap (λ rest. 10 ∷ rest) (sym all))
          ∙ sym (append_assoc (take at text) (10 ∷ []) (take (length text - (at + 1)) (drop (at + 1) text)));
      whole = position-some_before is_line_feed text at found;
    }

-- and there is none without one
pub no_line : (text : List ℕ) → position is_line_feed text ≡ None → (line behind : List ℕ) → ¬ IsFirstLine text line behind
no_line text none line behind first =
    let same : line ≡ text = first.whole ∙ sym (position-none_before is_line_feed text none) in
    let long : length text ≡ length line + 1 + length behind =
    ap length first.spelled ∙ length-append (ended_line line) behind ∙ ap (λ n. n + length behind) (length-append line (10 ∷ [])) in
    let short = ap length same in
    absurd (omega (arith, long, short))

-- a text has one first line
pub one_line : (text line behind other rest : List ℕ) → IsFirstLine text line behind → IsFirstLine text other rest → other ≡ line
one_line text line behind other rest one two = two.whole ∙ sym one.whole

pub shorter : (text line behind : List ℕ) → IsFirstLine text line behind → length behind + length line + 1 ≡ length text
shorter text line behind first =
    let long : length text ≡ length line + 1 + length behind =
    ap length first.spelled ∙ length-append (ended_line line) behind ∙ ap (λ n. n + length behind) (length-append line (10 ∷ [])) in
    omega (arith, long)
