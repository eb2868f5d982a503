-- Lines, one after the other.
use Rattle.std.proofs.Common.{◌≡◌, ℕ, suc, ◌+◌, ◌<◌, ◌≤◌, ◌++◌, min, List, [], ◌∷◌, length, get_or, drop, zip, sym, ap, ap₂, ◌∙◌, append_assoc, arith}
use Rattle.std.proofs.lemmas.List.{append-nil, drop_all, length_push}
use Rattle.std.proofs.lemmas.Slice.Zip.{length-zip, get_or-zip}
use Rattle.std.proofs.Math.Seq.{drop-cons}
use Rattle.std.specs.List.{flat_map}
use Rattle.npf_lint.specs.declared.found.RuleFinding.{RuleFinding}
use Rattle.npf_ctl_lint.specs.RuleLine.{finding_line, finding_lines}
use denote.Ref.{Bor}

-- a piece was put behind what stood there, and then the rest
pub then_rest : (old piece rest : List ℕ) {put new : List ℕ} → put ≡ old ++ piece → new ≡ put ++ rest → new ≡ old ++ (piece ++ rest)
then_rest old piece rest here there = there ∙ ap (λ text. text ++ rest) here ∙ append_assoc old piece rest

module _ (findings : List RuleFinding) (i : ℕ) where
  -- one rule more was told
  pub lines_more : (finding : RuleFinding) (whole old new : List ℕ) → i < length findings → finding ≡ get_or findings i finding
      → whole ≡ old ++ finding_lines i (drop i findings) → new ≡ old ++ finding_line i finding
      → whole ≡ new ++ finding_lines (i + 1) (drop (i + 1) findings)
  lines_more finding whole old new low is before told =
      let next : suc i ≡ i + 1 = omega arith in
      before
      ∙ ap (λ rest. old ++ finding_lines i rest) (drop-cons findings i finding low)
      ∙ ap (λ one. old ++ (finding_line i one ++ finding_lines (i + 1) (drop (suc i) findings))) (sym is)
      ∙ ap (λ n. old ++ (finding_line i finding ++ finding_lines (i + 1) (drop n findings))) next
      ∙ sym (append_assoc old (finding_line i finding) (finding_lines (i + 1) (drop (i + 1) findings)))
      ∙ ap (λ text. text ++ finding_lines (i + 1) (drop (i + 1) findings)) (sym told)

  pub lines_done : (whole old : List ℕ) → length findings ≤ i → whole ≡ old ++ finding_lines i (drop i findings) → old ≡ whole
  lines_done whole old past before =
      sym (before ∙ ap (λ rest. old ++ finding_lines i rest) (drop_all i findings past) ∙ append-nil old)

-- two lists were gone along side by side, and these pairs were met
module _ {X Y : Type 0} (line : X × Y → List ℕ) (xs : List X) (ys : List Y) (met : List (Bor X × Bor Y)) where
  -- what one pair more has to tell was told
  pub pairs_more : (pair : Bor X × Bor Y) (whole old new : List ℕ) → length met < length xs → length met < length ys
      → pair.0.now ≡ get_or xs (length met) pair.0.now → pair.1.now ≡ get_or ys (length met) pair.1.now
      → whole ≡ old ++ flat_map line (drop (length met) (zip xs ys)) → new ≡ old ++ line (pair.0.now, pair.1.now)
      → whole ≡ new ++ flat_map line (drop (length (met ++ pair ∷ [])) (zip xs ys))
  pairs_more pair whole old new in_xs in_ys x y before told =
      let n = length met in
      let one : X × Y = (pair.0.now, pair.1.now) in
      let low : n < length (zip xs ys) = omega (arith, length-zip xs ys, in_xs, in_ys) in
      let next : suc n ≡ length (met ++ pair ∷ []) = omega (arith, length_push met pair) in
      let is : get_or (zip xs ys) n one ≡ one = get_or-zip xs ys n one in_xs in_ys ∙ ap₂ (λ a b. (a, b)) (sym x) (sym y) in
      before
      ∙ ap (λ rest. old ++ flat_map line rest) (drop-cons (zip xs ys) n one low)
      ∙ ap (λ one. old ++ (line one ++ flat_map line (drop (suc n) (zip xs ys)))) is
      ∙ sym (append_assoc old (line one) (flat_map line (drop (suc n) (zip xs ys))))
      ∙ ap₂ (λ text n. text ++ flat_map line (drop n (zip xs ys))) (sym told) next

  pub pairs_done : (whole old : List ℕ) → length met ≡ min (length xs) (length ys)
      → whole ≡ old ++ flat_map line (drop (length met) (zip xs ys)) → old ≡ whole
  pairs_done whole old count before =
      let past : length (zip xs ys) ≤ length met = omega (arith, length-zip xs ys, count) in
      sym (before ∙ ap (λ rest. old ++ flat_map line rest) (drop_all (length met) (zip xs ys) past) ∙ append-nil old)
