-- A rule that a script adds is no longer than the script.
use Rattle.std.proofs.Common.{◌≡◌, ℕ, zero, suc, ◌+◌, ◌≤◌, Bool, true, false, cond, Some, List, [], ◌∷◌, ◌++◌, All, length, length-drop, refl, subst, arith}
use Rattle.std.{specs.List.{onto_first, slice_split}, proofs.lemmas.List.Elements.{All-cons, All-head, All-nil, All-pop, All-push, All-tail, All-weaker}}
use Rattle.npf_types.specs.declared.limits.TheConstants.{MAX_TEXT_BYTES}
use Rattle.npf_table.specs.{Line.after_blanks, TableFile.{is_line_feed, lines}}
use Rattle.npf_ctl_script.specs.{declared.script.ScriptLine.{ScriptLine, TheVariants.RuleAdd}, Arguments.{IsForm, behind_change}}
use Rattle.npf_ctl_script.specs.{Lines.{AreRead, IsScript, nothing, skipped, told}, Words.behind_word}
use Rattle.npf_ctl_input.specs.Rules.{AddsShortRule}

-- at most so many bytes
abbrev Fits : ℕ → List ℕ → Type 0
Fits most text = length text ≤ most

fits_more : (most : ℕ) (text : List ℕ) → Fits most text → Fits (suc most) text
fits_more most text fits = omega arith

onto_fits : (most : ℕ) (byte : ℕ) (parts : List (List ℕ)) → All (Fits most) parts → All (Fits (suc most)) (onto_first byte parts)
onto_fits most byte [] all = All-cons (Fits (suc most)) (byte ∷ []) [] (omega arith) (All-nil (Fits (suc most)))
onto_fits most byte (part ∷ parts) all =
    let first = All-head (Fits most) part parts all in
    All-cons (Fits (suc most)) (byte ∷ part) parts (omega (arith, first))
    (All-weaker (Fits most) (Fits (suc most)) (fits_more most) parts (All-tail (Fits most) part parts all))

-- no part of a text is longer than the text
parts_fit : (parts_at : ℕ → Bool) (text : List ℕ) (most : ℕ) → Fits most text → All (Fits most) (slice_split parts_at text)
parts_fit parts_at [] most fits = All-cons (Fits most) [] [] (omega arith) (All-nil (Fits most))
parts_fit parts_at (byte ∷ text) zero fits = absurd (omega (arith, fits))
parts_fit parts_at (byte ∷ text) (suc most) fits =
    let rest = parts_fit parts_at text most (omega (arith, fits)) in
    elim (parts_at byte) as (λ (ends : Bool). All (Fits (suc most)) (cond ends ([] ∷ slice_split parts_at text) (onto_first byte (slice_split parts_at text)))) [
      | true ↦ All-cons (Fits (suc most)) [] (slice_split parts_at text) (omega arith)
          (All-weaker (Fits most) (Fits (suc most)) (fits_more most) (slice_split parts_at text) rest)
      | false ↦ onto_fits most byte (slice_split parts_at text) rest
    ]

rule_fits : (line : List ℕ) → length (after_blanks (behind_change (behind_word line))) ≤ length line
rule_fits line = simp length-drop (omega arith)

form_fits : (line : List ℕ) (said : ScriptLine) → Fits MAX_TEXT_BYTES line → IsForm line said → AddsShortRule said
form_fits line (RuleAdd name rule) fits form = omega (arith, fits, rule_fits line, subst (λ (text : List ℕ). length rule ≡ length text) form.arguments.1 refl)
form_fits line said fits form = tt

-- the lines in front fit, and the last one
parted_fits : (all : List (List ℕ)) (line : List ℕ) → All (Fits MAX_TEXT_BYTES) (all ++ line ∷ []) → All (Fits MAX_TEXT_BYTES) all × Fits MAX_TEXT_BYTES line
parted_fits all line fits = All-pop (Fits MAX_TEXT_BYTES) (all ++ line ∷ []) all (Some line) refl fits

abbrev IsShort : ℕ × ScriptLine → Type 0
IsShort line = AddsShortRule line.1

read_fits : (all : List (List ℕ)) (read : List (ℕ × ScriptLine)) → AreRead all read → All (Fits MAX_TEXT_BYTES) all → All IsShort read
read_fits _ _ nothing fits = All-nil IsShort
read_fits _ _ (skipped all line read good skip) fits = read_fits all read good ((parted_fits all line fits).0)
read_fits _ _ (told all line read said good kept next) fits =
    All-push IsShort read (length all + 1, said) (read_fits all read good ((parted_fits all line fits).0)) (form_fits line said ((parted_fits all line fits).1) next.form)

-- a script that is no longer than a text may be adds short rules
pub script_fits : (text : List ℕ) (read : List (ℕ × ScriptLine)) → length text ≤ MAX_TEXT_BYTES → IsScript text read → All IsShort read
script_fits text read few is = read_fits (lines text) read is (parts_fit is_line_feed text MAX_TEXT_BYTES few)
