-- What a text of expectations says. Its lines and their words part as those of a script do.
use Rattle.std.specs.Prelude.{◌≡◌, ◌≢◌, ◌+◌, ℕ, Ok, Some, List, [], ◌∷◌, ◌++◌, codes, length, take, slice_get}
use Rattle.npf_table.specs.Line.{after_blanks}
use Rattle.npf_table.specs.TableFile.{lines}
use Rattle.npf_model.specs.declared.iface.Iface.{Iface}
use Rattle.npf_model.specs.declared.model.Model.{Model}
use Rattle.npf_class.specs.Class.{ReadsClass}
use Rattle.npf_ctl_script.specs.Words.{IsSkipped, behind_word, leading_word}
use Rattle.npf_ctl_class.specs.ClassFault.{IsClassFault}
use Rattle.npf_ctl_messages.specs.declared.fault.CommandFault.{CommandFault}
use Rattle.npf_ctl_messages.specs.declared.fault.CommandFault.TheVariants.{Configuration, Line, NoMemory}
use Rattle.npf_ctl_messages.specs.declared.fault.LineFault.TheVariants.{BadLine, Conf}
use Rattle.npf_ctl_check.specs.declared.expectation.Amount.{Amount}
use Rattle.npf_ctl_check.specs.declared.expectation.Amount.TheVariants.{Each, One}
use Rattle.npf_ctl_check.specs.declared.expectation.Expectation.{Expectation}
use Rattle.npf_ctl_check.specs.declared.expectation.WantedDecision.{WantedDecision}
use Rattle.npf_ctl_check.specs.declared.expectation.WantedDecision.TheVariants.{Pass, Block}

abbrev pub wanted_word : WantedDecision → List ℕ
wanted_word Pass = codes "pass"
wanted_word Block = codes "block"

-- the text's first word says how packets are to be treated, and behind it stands the text of their class
abbrev pub Wants : List ℕ → WantedDecision → List ℕ → Type 0
Wants text wanted class = (leading_word text ≡ wanted_word wanted) × (class ≡ after_blanks (behind_word text))

-- what a line expects: `some` before that asks for one packet of the class
abbrev pub Expects : List ℕ → Amount → WantedDecision → List ℕ → Type 0
Expects line Each wanted class = Wants line wanted class
Expects line One wanted class = (leading_word line ≡ codes "some") × Wants (behind_word line) wanted class

-- how many packets a line asks for, and what stands behind that
abbrev pub AsksFor : List ℕ → Amount → List ℕ → Type 0
AsksFor line Each text = (leading_word line ≢ codes "some") × (text ≡ line)
AsksFor line One text = (leading_word line ≡ codes "some") × (text ≡ behind_word line)

-- the line has none of the beginnings
abbrev pub ExpectsNothing : List ℕ → Type 0
ExpectsNothing line = (amount : Amount) (wanted : WantedDecision) (class : List ℕ) → ¬ Expects line amount wanted class

-- the fault of a class, told at a line of the file; a class that is too long, or want of memory, is told as it is
abbrev pub told_at : List ℕ → ℕ → CommandFault → CommandFault
told_at file number (Configuration _ fault) = Line file number (Conf fault)
told_at file number fault = fault

module _ (known : List Iface) (model : Model) where
  -- what the line of this number expects, beside a model and these interfaces
  pub record IsExpected (number : ℕ) (line : List ℕ) (expectation : Expectation) : Type 0 where
    pub class : List ℕ
    pub says : Expects line expectation.amount expectation.wanted class
    pub reads : ReadsClass known model class (Ok expectation.class)
    pub numbered : expectation.line ≡ number

  -- what these lines expect: a skipped one nothing, and each other one what it says, with its number from 1
  pub data AreExpected : List (List ℕ) → List Expectation → Type 0 where
    nothing : AreExpected [] []
    skipped : (all : List (List ℕ)) (line : List ℕ) (read : List Expectation) → AreExpected all read → IsSkipped line → AreExpected (all ++ line ∷ []) read
    told : (all : List (List ℕ)) (line : List ℕ) (read : List Expectation) (expectation : Expectation) → AreExpected all read → ¬ IsSkipped line
        → IsExpected (length all + 1) line expectation → AreExpected (all ++ line ∷ []) (read ++ expectation ∷ [])

module _ (file : List ℕ) (known : List Iface) (model : Model) where
  -- why a line of this number that isn't skipped is refused: it expects nothing, or its class has a fault; want of memory says nothing
  pub data RefusesLine (number : ℕ) (line : List ℕ) : CommandFault → Type 0 where
    bad : ExpectsNothing line → RefusesLine number line (Line file number BadLine)
    class : (amount : Amount) (wanted : WantedDecision) (class : List ℕ) (fault : CommandFault) → Expects line amount wanted class
        → IsClassFault known model class fault → RefusesLine number line (told_at file number fault)
    memory : RefusesLine number line NoMemory

  -- a line is the first that is refused, for this fault
  pub record IsFirstRefused (text : List ℕ) (fault : CommandFault) : Type 0 where
    pub before : ℕ
    pub line : List ℕ
    pub there : slice_get (lines text) before ≡ Some line
    pub earlier : List Expectation
    pub good : AreExpected known model (take before (lines text)) earlier
    pub kept : ¬ IsSkipped line
    pub refused : RefusesLine (before + 1) line fault

  -- why the lines of a text aren't read
  pub data RefusesAnyLine (text : List ℕ) : CommandFault → Type 0 where
    line : {fault : CommandFault} → IsFirstRefused text fault → RefusesAnyLine text fault
    memory : RefusesAnyLine text NoMemory
