-- What is read of a script: its lines part at line feeds, and each that isn't skipped has one of the forms.
use Rattle.std.specs.Prelude.{◌≡◌, ◌+◌, ℕ, true, Some, List, [], ◌∷◌, ◌++◌, Option, length, map, take, slice_get}
use Rattle.npf_table.specs.TableFile.{lines}
use Rattle.npf_ctl_script.specs.declared.command.LineCommand.{LineCommand}
use Rattle.npf_ctl_script.specs.declared.script.ScriptFault.{ScriptFault}
use Rattle.npf_ctl_script.specs.declared.script.ScriptFault.TheVariants.{BadLine, NoMemory}
use Rattle.npf_ctl_script.specs.declared.script.ScriptLine.{ScriptLine}
use Rattle.npf_ctl_script.specs.declared.section.Section.{Section}
use Rattle.npf_ctl_script.specs.Arguments.{IsForm}
use Rattle.npf_ctl_script.specs.Commands.{command_of}
use Rattle.npf_ctl_script.specs.Sections.{section_behind, takes}
use Rattle.npf_ctl_script.specs.Words.{IsFound, IsSkipped}

-- the commands of these numbered lines
abbrev pub commands : List (ℕ × ScriptLine) → List LineCommand
commands read = map (λ numbered. command_of numbered.1) read

-- the line has a form whose command may come next
pub record IsNext (section : Section) (line : List ℕ) (said : ScriptLine) : Type 0 where
  pub form : IsForm line said
  pub placed : takes section (command_of said) ≡ true

-- what the reader of a line answers
abbrev pub AnswersLine : Section → List ℕ → Option ScriptLine → Type 0
AnswersLine section line answer = IsFound (IsNext section) line answer

-- where a script stands behind what was read
abbrev pub section_of : List (ℕ × ScriptLine) → Section
section_of read = section_behind (commands read)

-- what is read of these lines: nothing of a skipped one, and each other one, with its number from 1
pub data AreRead : List (List ℕ) → List (ℕ × ScriptLine) → Type 0 where
  nothing : AreRead [] []
  skipped : (all : List (List ℕ)) (line : List ℕ) (read : List (ℕ × ScriptLine)) → AreRead all read → IsSkipped line → AreRead (all ++ line ∷ []) read
  told : (all : List (List ℕ)) (line : List ℕ) (read : List (ℕ × ScriptLine)) (said : ScriptLine) → AreRead all read → ¬ IsSkipped line
      → IsNext (section_of read) line said → AreRead (all ++ line ∷ []) (read ++ (length all + 1, said) ∷ [])

abbrev pub IsScript : List ℕ → List (ℕ × ScriptLine) → Type 0
IsScript text read = AreRead (lines text) read

-- the line isn't skipped, and has no form that may stand behind what was read
pub record IsBadNext (read : List (ℕ × ScriptLine)) (line : List ℕ) : Type 0 where
  pub kept : ¬ IsSkipped line
  pub none : (said : ScriptLine) → ¬ IsNext (section_of read) line said

-- the line of this number, from 1, is the first bad one
pub record IsFirstBadScriptLine (text : List ℕ) (number : ℕ) : Type 0 where
  pub before : ℕ
  pub counted : number ≡ before + 1
  pub line : List ℕ
  pub there : slice_get (lines text) before ≡ Some line
  pub earlier : List (ℕ × ScriptLine)
  pub good : AreRead (take before (lines text)) earlier
  pub bad : IsBadNext earlier line

-- why a script isn't read; want of memory says nothing of it
abbrev pub RefusesScript : List ℕ → ScriptFault → Type 0
RefusesScript text (BadLine line) = IsFirstBadScriptLine text line
RefusesScript text NoMemory = Unit {0}
