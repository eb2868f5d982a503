-- A text reads as one script at most, and no such text has a bad line.
use Rattle.std.proofs.Common.{◌≡◌, ◌<◌, ◌≤◌, ◌+◌, ℕ, List, [], ◌∷◌, ◌++◌, ◌⊎◌, ⊎_elim, inl, inr, length, take, get_or, refl, sym, ap, subst, ◌∙◌, arith}
use Rattle.std.proofs.lemmas.{List.{get_or_append_left, length-append, take-append-le, get_or_at}, Bool.cases_lt}
use Rattle.std.proofs.{lemmas.Option.{get_or_from_slice_get, slice_get_within}, Math.Seq.take-append_seam}
use Rattle.npf_table.specs.TableFile.{lines}
use Rattle.npf_ctl_script.specs.{declared.script.ScriptLine.ScriptLine, Arguments.IsForm, Laws.{NoScriptIsRefused, OneScript}}
use Rattle.npf_ctl_script.specs.{Lines.{AreRead, nothing, skipped, told, IsBadNext, IsFirstBadScriptLine, IsNext, IsScript, section_of}, Words.IsSkipped}
use Rattle.npf_ctl_script.proofs.FormLemmas.{form_same}

-- lists with a last item are one where their fronts and their last items are
module _ {X : Type 0} (xs ys : List X) (x y : X) (same : xs ++ x ∷ [] ≡ ys ++ y ∷ []) where
  as_long : length xs ≡ length ys
  as_long = omega (arith, ap length same, length-append xs (x ∷ []), length-append ys (y ∷ []))

  fronts : xs ≡ ys
  fronts = sym (take-append_seam xs (x ∷ [])) ∙ ap (take (length xs)) same ∙ ap (λ n. take n (ys ++ y ∷ [])) as_long ∙ take-append_seam ys (y ∷ [])

  lasts : x ≡ y
  lasts = sym (get_or_at xs x [] x (length xs) refl) ∙ ap (λ l. get_or l (length xs) x) same ∙ get_or_at ys y [] x (length xs) (sym as_long)

not_empty : {X : Type 0} (ys : List X) (y : X) → [] ≡ ys ++ y ∷ [] → ⊥
not_empty ys y same = omega (arith, ap length same, length-append ys (y ∷ []))

read_same : (all other : List (List ℕ)) (a b : List (ℕ × ScriptLine)) → AreRead all a → AreRead other b → all ≡ other → a ≡ b
read_same _ _ _ _ nothing nothing same = refl
read_same _ _ _ _ nothing (skipped front line read so_far none) same = absurd (not_empty front line same)
read_same _ _ _ _ nothing (told front line read said so_far kept next) same = absurd (not_empty front line same)
read_same _ _ _ _ (skipped front line read so_far none) nothing same = absurd (not_empty front line (sym same))
read_same _ _ _ _ (told front line read said so_far kept next) nothing same = absurd (not_empty front line (sym same))
read_same _ _ _ _ (skipped front line read so_far none) (skipped front' line' read' so_far' none') same =
    read_same front front' read read' so_far so_far' (fronts front front' line line' same)
read_same _ _ _ _ (skipped front line read so_far none) (told front' line' read' said' so_far' kept' next') same =
    absurd (kept' (subst IsSkipped (lasts front front' line line' same) none))
read_same _ _ _ _ (told front line read said so_far kept next) (skipped front' line' read' so_far' none') same =
    absurd (kept (subst IsSkipped (sym (lasts front front' line line' same)) none'))
read_same _ _ _ _ (told front line read said so_far kept next) (told front' line' read' said' so_far' kept' next') same =
    let before = read_same front front' read read' so_far so_far' (fronts front front' line line' same) in
    let form = form_same line' said said' (subst (λ (l : List ℕ). IsForm l said) (lasts front front' line line' same) next.form) next'.form in
    let number : length front + 1 ≡ length front' + 1 = ap (λ l. length l + 1) (fronts front front' line line' same) in
    λ i. before i ++ (number i, form i) ∷ []

-- each line of what is read is skipped or may come next
line_is_fine : (all : List (List ℕ)) (read : List (ℕ × ScriptLine)) → AreRead all read → (k : ℕ) (line : List ℕ) → k < length all → get_or all k line ≡ line
    → (earlier : List (ℕ × ScriptLine)) → AreRead (take k all) earlier → ¬ IsBadNext earlier line
line_is_fine _ _ nothing k line within is earlier good bad = absurd (omega (arith, within))
line_is_fine _ _ (skipped front last read so_far none) k line within is earlier good bad = ⊎_elim
    (λ (below : k < length front).
    line_is_fine front read so_far k line below (sym (get_or_append_left front (last ∷ []) line k below) ∙ is) earlier
    (subst (λ (ls : List (List ℕ)). AreRead ls earlier) (take-append-le k front (last ∷ []) (omega (arith, below))) good) bad)
    (λ (past : length front ≤ k).
    let at : length front ≡ k = omega (arith, past, within, length-append front (last ∷ [])) in
    bad.kept (subst IsSkipped (sym (get_or_at front last [] line k at) ∙ is) none))
    (cases_lt k (length front))
line_is_fine _ _ (told front last read said so_far kept next) k line within is earlier good bad = ⊎_elim
    (λ (below : k < length front).
    line_is_fine front read so_far k line below (sym (get_or_append_left front (last ∷ []) line k below) ∙ is) earlier
    (subst (λ (ls : List (List ℕ)). AreRead ls earlier) (take-append-le k front (last ∷ []) (omega (arith, below))) good) bad)
    (λ (past : length front ≤ k).
    let at : length front ≡ k = omega (arith, past, within, length-append front (last ∷ [])) in
    let same : last ≡ line = sym (get_or_at front last [] line k at) ∙ is in
    let whole : take k (front ++ last ∷ []) ≡ front = ap (λ n. take n (front ++ last ∷ [])) (sym at) ∙ take-append_seam front (last ∷ []) in
    let known : read ≡ earlier = read_same front (take k (front ++ last ∷ [])) read earlier so_far good (sym whole) in
    bad.none said (subst (λ (l : List ℕ). IsNext (section_of earlier) l said) same (subst (λ (r : List (ℕ × ScriptLine)). IsNext (section_of r) last said) known next)))
    (cases_lt k (length front))

pub one_script : OneScript
one_script text read other h k = read_same (lines text) (lines text) read other h k refl

pub none_refused : NoScriptIsRefused
none_refused text read number h fault =
    line_is_fine (lines text) read h fault.before fault.line (slice_get_within (lines text) fault.before fault.line fault.there)
    (get_or_from_slice_get (lines text) fault.before fault.line fault.line fault.there) fault.earlier fault.good fault.bad
