-- One line more is taken.
use Rattle.std.proofs.Common.{◌≡◌, ◌≢◌, ◌<◌, ◌≤◌, ◌+◌, ◌==◌, ℕ, Bool, true, false, List, [], ◌∷◌, ◌++◌, length, refl, sym, ap, subst, ◌∙◌, true≢false, append-nil, inl, inr, arith}
use Rattle.std.{specs.Prelude.◌⊎◌, proofs.lemmas.{Bool.eqb-true, List.length_push}}
use Rattle.npf_types.specs.declared.name.Name.{Name}
use Rattle.npf_saved.specs.{declared.saved.Saved.Saved, File.saved_text}
use Rattle.npf_saved_file.specs.{declared.lines.Lines.Lines, File.{IsFirstLine, IsNoSavedFile, IsOnlySavedFile}}
use Rattle.npf_saved_file.{specs.{Lines.{AreTaken, IsBadSavedLine, TakesConn, TakesName}, Refusal.IsFirstBadSaved}, proofs.LineLemmas.{one_line, shorter}}
use Rattle.npf_saved_file.proofs.OnlyLemmas.{Follows, IsSoFar, after_conn, after_name, no_file, no_file_behind, nothing_left}
use Rattle.npf_saved_file.proofs.TextLemmas.{onward_conn, onward_name}

pub some_left : (xs : List ℕ) → false ≡ (length xs == 0) → xs ≢ []
some_left [] is = λ none. absurd (true≢false (sym is))
some_left (x ∷ xs) is = λ none. absurd cc

pub none_left : (xs : List ℕ) → true ≡ (length xs == 0) → xs ≡ []
none_left [] is = refl
none_left (x ∷ xs) is = let e = eqb-true (length (x ∷ xs)) 0 (sym is) in absurd (omega (arith, e))

module _ (text rest line behind : List ℕ) (old new : Lines) (first : IsFirstLine rest line behind) where
  pub spelled_on : text ≡ saved_text old.names.items old.conns.items ++ rest → TakesName old line new ⊎ TakesConn old line new
      → text ≡ saved_text new.names.items new.conns.items ++ behind
  spelled_on is (inl t) =
      onward_name text rest line behind old.names.items new.names.items old.conns.items new.conns.items t.name is first t.is.reads.spelled t.first t.names t.conns
  spelled_on is (inr t) =
      onward_conn text rest line behind old.names.items new.names.items old.conns.items new.conns.items t.saved is first t.is.reads.spelled t.names t.conns

  pub only_on : IsSoFar text old.names.items old.conns.items rest → TakesName old line new ⊎ TakesConn old line new → IsSoFar text new.names.items new.conns.items behind
  only_on so_far (inl t) = λ others all file.
      subst (λ (names : List Name). Follows names new.conns.items behind others all) (sym t.names)
      (subst (λ (conns : List Saved). Follows (old.names.items ++ t.name ∷ []) conns behind others all) (sym t.conns)
      (after_name old.names.items old.conns.items rest line behind others all first file.named file.good (so_far others all file) t.name t.first t.is))
  only_on so_far (inr t) = λ others all file.
      subst (λ (names : List Name). Follows names new.conns.items behind others all) (sym t.names)
      (subst (λ (conns : List Saved). Follows old.names.items conns behind others all) (sym t.conns)
      (after_conn old.names.items old.conns.items rest line behind others all first file.named file.good (so_far others all file) t.saved t.other t.is))

  pub counted_on : (number : ℕ) → number ≡ length old.names.items + length old.conns.items + 1 → TakesName old line new ⊎ TakesConn old line new
      → number + 1 ≡ length new.names.items + length new.conns.items + 1
  counted_on number is (inl t) =
      let names = ap length t.names ∙ length_push old.names.items t.name in
      let conns = ap length t.conns in
      omega (arith, is, names, conns)
  counted_on number is (inr t) =
      let names = ap length t.names in
      let conns = ap length t.conns ∙ length_push old.conns.items t.saved in
      omega (arith, is, names, conns)

  pub room_on : (number : ℕ) → number + length rest ≤ length text → number + 1 + length behind ≤ length text
  room_on number room = let less = shorter rest line behind first in omega (arith, room, less)

module _ (text rest : List ℕ) (lines : Lines) (number : ℕ) (taken : AreTaken lines) (spelled : text ≡ saved_text lines.names.items lines.conns.items ++ rest)
    (so_far : IsSoFar text lines.names.items lines.conns.items rest) (counted : number ≡ length lines.names.items + length lines.conns.items + 1) where
  bad_at : rest ≢ [] → ((line behind : List ℕ) → IsFirstLine rest line behind → IsBadSavedLine lines.conns.items line) → IsNoSavedFile text → IsFirstBadSaved text (number + 1)
  bad_at some bad none = record {
    bad = inr (record {
      names = lines.names.items;
      conns = lines.conns.items;
      rest = rest;
      spelled = spelled;
      named = taken.names;
      good = taken.conns;
      counted = omega (arith, counted);
      some = some;
      bad = bad;
    });
    none = none;
  }

  pub no_line_feed : rest ≢ [] → ((line behind : List ℕ) → ¬ IsFirstLine rest line behind) → IsFirstBadSaved text (number + 1)
  no_line_feed some none =
      bad_at some (λ line behind first. absurd (none line behind first)) (no_file text lines.names.items lines.conns.items rest so_far some none)

  pub bad_line : rest ≢ [] → (line behind : List ℕ) → IsFirstLine rest line behind → IsBadSavedLine lines.conns.items line → IsFirstBadSaved text (number + 1)
  bad_line some line behind first bad =
      bad_at some (λ other more also. subst (IsBadSavedLine lines.conns.items) (sym (one_line rest line behind other more first also)) bad)
      (no_file_behind text lines.names.items lines.conns.items rest line behind so_far first bad)

  pub all_taken : rest ≡ [] → IsOnlySavedFile text lines.names.items lines.conns.items
  all_taken none = record {
    file = record {
      spelled = spelled ∙ ap (λ r. saved_text lines.names.items lines.conns.items ++ r) none ∙ append-nil (saved_text lines.names.items lines.conns.items);
      named = taken.names;
      good = taken.conns;
    };
    only = λ others all file.
        nothing_left lines.names.items lines.conns.items others all
        (subst (λ (r : List ℕ). Follows lines.names.items lines.conns.items r others all) none (so_far others all file));
  }
