-- How the lines of a script part into its phases.
use Rattle.std.proofs.Common.{◌≡◌, ◌≤◌, ◌+◌, ◌∙◌, ℕ, Bool, true, false, cond, None, Some, List, [], ◌∷◌, refl, sym, ap, zero-add, arith}
use Rattle.std.proofs.lemmas.List.Sums.{sum_by-cons}
use Rattle.npf_traffic.specs.{declared.phase.Command.{Command, TheVariants.Publish}, Phases.published_by}
use Rattle.npf_ctl_script.specs.declared.script.ScriptLine.{ScriptLine}
use Rattle.npf_ctl_script.specs.declared.script.ScriptLine.TheVariants as Line
use Rattle.npf_ctl_schedule.specs.Schedule.{changes_in, makes_change, packets_wanted, phase_commands, phase_parts, until_phase}

-- how many changes the parts make
abbrev pub changes_of_parts : List (List ScriptLine) → ℕ
changes_of_parts [] = 0
changes_of_parts (part ∷ parts) = changes_in part + changes_of_parts parts

pub first_change : (line : ScriptLine) (lines : List ScriptLine) → changes_in (line ∷ lines) ≡ cond (makes_change line) 1 0 + changes_in lines
first_change line lines = sum_by-cons (λ other. cond (makes_change other) 1 0) line lines

parted_more :
    (line : ScriptLine) (before lines : List ScriptLine) (rest : ℕ) → changes_in before + rest ≡ changes_in lines →
    changes_in (line ∷ before) + rest ≡ changes_in (line ∷ lines)
parted_more line before lines rest e = omega (arith, first_change line before, first_change line lines)

-- each change stands before the first phase or in a phase
pub changes_parted : (lines : List ScriptLine) → changes_in (until_phase lines) + changes_of_parts (phase_parts lines) ≡ changes_in lines
changes_parted [] = refl
changes_parted (Line.Phase ∷ lines) = zero-add (changes_in (until_phase lines) + changes_of_parts (phase_parts lines)) ∙ changes_parted lines
changes_parted (line ∷ lines) = parted_more line (until_phase lines) lines (changes_of_parts (phase_parts lines)) (changes_parted lines)

-- the phases make no more changes than the lines do
pub parts_within : (lines : List ScriptLine) (most : ℕ) → changes_in lines ≤ most → 0 + changes_of_parts (phase_parts lines) ≤ most
parts_within lines most within = omega (arith, changes_parted lines)

pub wanted_within : (left : ℕ) (part : List ScriptLine) → packets_wanted left part ≤ left
wanted_within left [] = omega arith
wanted_within left (Line.Packets None ∷ part) = omega arith
wanted_within left (Line.Packets (Some count) ∷ part) = omega arith
wanted_within left (_ ∷ part) = wanted_within left part

published_more :
    (place changes : ℕ) (more commands : List Command) (change : Bool) → published_by more ≡ changes → published_by commands ≡ changes →
    published_by (cond change (Publish place ∷ more) commands) ≡ cond change 1 0 + changes
published_more place changes more commands true one other = ap (λ n. 1 + n) one
published_more place changes more commands false one other = other ∙ sym (zero-add changes)

-- a phase publishes a configuration for each change
pub published_in : (made : ℕ) (part : List ScriptLine) → published_by (phase_commands made part) ≡ changes_in part
published_in made [] = refl
published_in made (Line.Expire time ∷ part) = published_in made part
published_in made (line ∷ part) =
    published_more (made + 1) (changes_in part) (phase_commands (made + 1) part) (phase_commands made part) (makes_change line)
    (published_in (made + 1) part) (published_in made part) ∙ sym (first_change line part)
