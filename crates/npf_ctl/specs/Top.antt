-- What the program answers to its words.
-- READ 1 of docs/READING.md
use Rattle.std.specs.Prelude.{◌≡◌, ◌≢◌, ◌⊎◌, ◌+◌, ◌≤◌, ℕ, false, ⊤, Ok, Err, Result, Option, Some, None, List}
use Rattle.npf_outside.specs.Files.{Tree}
use Rattle.npf_outside.specs.Sink.{Appends}
use Rattle.npf_model.specs.Configuration.{Configuration}
use Rattle.npf_ctl_input.specs.File.{told_files}
use Rattle.npf_ctl_input.specs.Loads.{LoadsAlone}
use Rattle.npf_connections.specs.Pass.{Pass}
use Rattle.npf_engine.specs.Histories.{FlowEntry}
use Rattle.npf_ctl_prepare.specs.Prepares.{RunPlan}
use Rattle.npf_ctl_messages.specs.declared.fault.CommandFault.{CommandFault}
use Rattle.npf_ctl_words.specs.declared.command.Invocation.{Invocation}
use Rattle.npf_ctl_words.specs.declared.command.Invocation.TheVariants as Words
use Rattle.npf_ctl_words.specs.declared.command.Load.{Load}
use Rattle.npf_ctl_words.specs.declared.command.RunWords.{RunWords}
use Rattle.npf_ctl_words.specs.CommandLine.{SaysCommand, given_text}
use Rattle.npf_ctl.specs.Commands.{is_question, loaded_by, names_of_run}
use Rattle.npf_ctl.specs.declared.findings.Finding.{Finding}
use Rattle.npf_ctl.specs.declared.findings.Finding.TheVariants.{Nothing, Something}
use Rattle.npf_ctl.specs.Generated.{HoldsWorkload, PreparesOf}
use Rattle.npf_ctl.specs.Run.{Moment, IsRun}
use Rattle.npf_ctl.specs.Starting.{StartsRun}
use Rattle.npf_ctl.specs.Texts.{TextOf}

-- the command's whole text was put on the output
pub record PutsText (command : Invocation) (finding : Finding) (before after : Moment) : Type 0 where
  pub text : List ℕ
  pub of : TextOf before after command finding text
  pub put : Appends before.out.held after.out.held text

-- what the command does was done; a run looks for nothing
abbrev pub DoesCommand : Invocation → Finding → Moment → Moment → Type 0
DoesCommand (Words.Run run) Nothing before after = IsRun run before after
DoesCommand (Words.Run run) Something before after = ⊥
DoesCommand command finding before after = PutsText command finding before after

-- what the words say was done, with what is found by it
pub record DoesWords (words : List (List ℕ)) (finding : Finding) (before after : Moment) : Type 0 where
  pub command : Invocation
  pub said : SaysCommand words command
  pub does : DoesCommand command finding before after

-- the words name this file to be written: that of the packets that pass, or of the connections that are saved
pub record NamesOutput (words : List (List ℕ)) (name : List ℕ) : Type 0 where
  pub run : RunWords
  pub said : SaysCommand words (Words.Run run)
  pub named : (given_text run.output ≡ Some name) ⊎ (given_text run.save ≡ Some name)

-- every file is as before, where contents are told, but those that the words name to be written
abbrev pub KeepsOtherFiles : List (List ℕ) → Option Tree → Option Tree → Type 0
KeepsOtherFiles words None None = ⊤
KeepsOtherFiles words (Some old) (Some new) = (name : List ℕ) → ¬ NamesOutput words name → new name ≡ old name
KeepsOtherFiles words _ _ = ⊥

-- with these statuses no command's text is put on the output, and no file changes
abbrev pub IsQuiet : ℕ → Type 0
IsQuiet status = (status ≢ 0) × (status ≢ 1) × (status ≢ 5) × (status ≢ 10)

-- this status, or want of memory
abbrev pub HasStatus : ℕ → ℕ → Type 0
HasStatus wanted status = (status ≡ wanted) ⊎ (status ≡ 1)

-- the table had no node for a key of a connection that was to be loaded: with status 6 the count of sweeps rose
pub record RanOutOfNodes (old new : Pass FlowEntry) (status : ℕ) : Type 0 where
  pub status_is : status ≡ 6
  pub sweeps : old.sweeps + 1 ≤ new.sweeps

-- something is answered, and no fault
abbrev pub IsOk : {A F : Type 0} → Result A F → Type 0
IsOk (Ok a) = ⊤
IsOk (Err fault) = ⊥

module _ (words : List (List ℕ)) (tree : Tree) (slots : ℕ) where
  -- the command's files end in this fault, and so in none of another status, and in no plan (npf_ctl_prepare_law)
  pub data MustRefuse (fault : CommandFault) : Type 0 where
    run : {words_of : RunWords} → SaysCommand words (Words.Run words_of) →
        StartsRun (told_files tree) (told_files tree) (names_of_run words_of) (given_text words_of.load) slots (Err fault) → MustRefuse fault
    load : {command : Invocation} {load_of : Load} → SaysCommand words command → loaded_by command ≡ Some load_of →
        LoadsAlone (told_files tree) (told_files tree) (given_text load_of.ifaces) load_of.conf.now (Err fault) → MustRefuse fault

  -- the command's files are in their grammars and limits: they come to a plan, or to a configuration of which nothing is asked
  pub data CanDo : Type 0 where
    run : {words_of : RunWords} {plan : RunPlan} → SaysCommand words (Words.Run words_of) →
        StartsRun (told_files tree) (told_files tree) (names_of_run words_of) (given_text words_of.load) slots (Ok plan) → CanDo
    load : {command : Invocation} {load_of : Load} {config : Configuration} → SaysCommand words command → loaded_by command ≡ Some load_of →
        is_question command ≡ false → LoadsAlone (told_files tree) (told_files tree) (given_text load_of.ifaces) load_of.conf.now (Ok config) → CanDo

-- the words ask for a generated run, whose files, which stand in memory, are in their grammars and limits
pub record CanGenerate (words : List (List ℕ)) : Type 0 where
  pub number : ℕ
  pub said : SaysCommand words (Words.Gen number)
  pub accepted : (held : Tree) → HoldsWorkload number held → (plan : RunPlan) × PreparesOf held (Ok plan)
