-- The lines of a script, one after the other.
use Rattle.std.proofs.Common.{◌≡◌, ◌<◌, ◌+◌, ℕ, true, false, Option, Some, None, List, [], ◌∷◌, ◌++◌, length, map, take, get_or, refl, sym, ap, subst, ◌∙◌, true≢false, arith}
use Rattle.std.proofs.lemmas.{List.{length-take-le, map-append}, Option.slice_get_read}
use Rattle.npf_table.{specs.TableFile.lines, proofs.TableFileLemmas.one_line_more}
use Rattle.npf_ctl_script.specs.{declared.{script.ScriptLine.ScriptLine, section.Section.TheVariants.Captures}, Commands.command_of}
use Rattle.npf_ctl_script.specs.{Lines.{AreRead, IsBadNext, IsFirstBadScriptLine, IsNext, commands, section_of}, Sections.{after_command, section_behind}}
use Rattle.npf_ctl_script.{specs.Words.IsSkipped, proofs.SectionLemmas.section_more}

-- at the beginning nothing is read, and no phase has begun
pub nothing_read : (read : List (ℕ × ScriptLine)) → read ≡ [] → AreRead [] read
nothing_read read none = subst (AreRead []) (sym none) AreRead.nothing

pub no_phase_yet : (read : List (ℕ × ScriptLine)) → read ≡ [] → Captures ≡ section_of read
no_phase_yet read none = sym (ap section_of none)

module _ (all : List (List ℕ)) (n m : ℕ) (line : List ℕ) (within : n < length all) (is : line ≡ get_or all n line) (more : m ≡ n + 1) (read : List (ℕ × ScriptLine)) where
  -- a skipped line is nothing
  pub after_skipped : AreRead (take n all) read → IsSkipped line → AreRead (take m all) read
  after_skipped so_far skipped = subst (λ (front : List (List ℕ)). AreRead front read) (sym (one_line_more all n m line within is more))
      (AreRead.skipped (take n all) line read so_far skipped)

  -- and each other one is its command
  pub after_told : (number : ℕ) (said : ScriptLine) → number ≡ n + 1 → AreRead (take n all) read → ¬ IsSkipped line → IsNext (section_of read) line said
      → AreRead (take m all) (read ++ (number, said) ∷ [])
  after_told number said counted so_far kept next =
      let long : length (take n all) ≡ n = length-take-le n all (omega (arith, within)) in
      let numbered : length (take n all) + 1 ≡ number = omega (arith, long, counted) in
      subst (λ (front : List (List ℕ)). AreRead front (read ++ (number, said) ∷ [])) (sym (one_line_more all n m line within is more))
      (subst (λ (k : ℕ). AreRead (take n all ++ line ∷ []) (read ++ (k, said) ∷ [])) numbered (AreRead.told (take n all) line read said so_far kept next))

-- where the script stands then
pub section_told : (read : List (ℕ × ScriptLine)) (line : List ℕ) (number : ℕ) (said : ScriptLine) → IsNext (section_of read) line said
    → after_command (section_of read) (command_of said) ≡ section_of (read ++ (number, said) ∷ [])
section_told read line number said next =
    sym (section_more (commands read) (command_of said) next.placed)
    ∙ sym (ap (λ front. section_behind front) (map-append (λ numbered. command_of numbered.1) read ((number, said) ∷ [])))

-- the first bad line
pub first_bad : (text : List ℕ) (n number : ℕ) (line : List ℕ) (read : List (ℕ × ScriptLine)) → n < length (lines text) → line ≡ get_or (lines text) n line
    → AreRead (take n (lines text)) read → ¬ IsSkipped line → ((said : ScriptLine) → ¬ IsNext (section_of read) line said) → number ≡ n + 1
    → IsFirstBadScriptLine text number
first_bad text n number line read within is so_far kept none counted = record {
  before = n;
  counted = counted;
  line = line;
  there = slice_get_read (lines text) (length (lines text)) n line refl within is;
  earlier = read;
  good = so_far;
  bad = record { kept = kept; none = none };
}
