-- The first fault that a command met: its cause, what was put before it, and its line.
-- READ 1 of docs/READING.md
use Rattle.std.specs.Prelude.{◌≡◌, ◌≢◌, ◌⊎◌, ℕ, false, Ok, Err, Option, Some, List, []}
use Rattle.npf_outside.specs.Counts.{Rose}
use Rattle.npf_outside.specs.Files.{SameFiles, SameOthers, Tree}
use Rattle.npf_outside.specs.Sink.{SinkMoment, Appends, AppendsFront}
use Rattle.npf_engine.specs.declared.outcome.Outcome.{Outcome}
use Rattle.npf_ctl_input.specs.Loads.{LoadsAlone}
use Rattle.npf_model.specs.declared.iface.Iface.{Iface}
use Rattle.npf_model.specs.Configuration.{Configuration}
use Rattle.npf_ctl_output.specs.File.{KeepsUnnamed}
use Rattle.npf_ctl_prepare.specs.Prepares.{RunPlan, PreparesRun}
use Rattle.npf_ctl_saved.specs.Loads.{LacksNode, interface_names}
use Rattle.npf_traffic.specs.declared.packet.Packet.{Packet}
use Rattle.npf_ctl_messages.specs.declared.fault.CommandFault.{CommandFault}
use Rattle.npf_ctl_messages.specs.declared.fault.CommandFault.TheVariants.{Usage, Saved, Unwritten, OutputUnwritten, NoMemory}
use Rattle.npf_ctl_messages.specs.declared.fault.SavedRefusal.TheVariants.{SavedNoNode}
use Rattle.npf_ctl_messages.specs.Message.{message_line, status_of_fault}
use Rattle.npf_ctl_words.specs.declared.command.Invocation.{Invocation}
use Rattle.npf_ctl_words.specs.declared.command.Invocation.TheVariants.{Run, Gen}
use Rattle.npf_ctl_words.specs.declared.command.Load.{Load}
use Rattle.npf_ctl_words.specs.declared.command.RunWords.{RunWords}
use Rattle.npf_ctl_words.specs.CommandLine.{SaysCommand, given_text, is_command_line}
use Rattle.npf_ctl.specs.Questions.{RefusesQuestion}
use Rattle.npf_ctl.specs.Commands.{loaded_by, names_of_run}
use Rattle.npf_ctl.specs.declared.findings.Finding.{Finding}
use Rattle.npf_ctl.specs.Generated.{HoldsWorkload, PreparesOf}
use Rattle.npf_ctl.specs.declared.reasons.WhichFaults.{WhichFaults}
use Rattle.npf_ctl.specs.Reasons.{ExplainsFirst, is_explained, telling_command}
use Rattle.npf_ctl.specs.Run.{Moment, IsReported, WritesPassed}
use Rattle.npf_ctl.specs.Starting.{StartsRun}
use Rattle.npf_ctl.specs.Texts.{IsAskedOf, TextOf}

-- The text was put on the sink; or a front of it, where the sink's own count rose.
abbrev pub PutsLine : SinkMoment → SinkMoment → List ℕ → Type 0
PutsLine old new line = Appends old.held new.held line ⊎ (Rose old.faults new.faults × AppendsFront old.held new.held line)

module _ (before after : Moment) where
  -- nothing was put on the output
  abbrev pub PutsNothing : Type 0
  PutsNothing = Appends before.out.held after.out.held []

  -- no file changed
  abbrev pub ChangesNoFile : Type 0
  ChangesNoFile = SameFiles before.files.contents after.files.contents

  -- nothing was put, no file changed, and the table of connections was asked nothing
  pub record IsUntouched : Type 0 where
    pub put : PutsNothing
    pub files : ChangesNoFile
    pub idle : after.pass ≡ before.pass

module _ (words : List (List ℕ)) (before after : Moment) where
  -- a front of the command's text was put on the output
  pub record PutsFront : Type 0 where
    pub command : Invocation
    pub said : SaysCommand words command
    pub finding : Finding
    pub text : List ℕ
    pub of : TextOf before after command finding text
    pub front : AppendsFront before.out.held after.out.held text

  -- what is said of a fault, or of it and those that are left, was put on the output, or a front of it where that failed; no file changed, and the table was asked nothing
  pub record SaysWhy (fault : CommandFault) : Type 0 where
    pub which : WhichFaults
    pub load : Load
    pub said : SaysCommand words (telling_command which load)
    pub text : List ℕ
    pub explains : ExplainsFirst which before.files after.files (given_text load.ifaces) load.conf.now fault text
    pub put : PutsLine before.out after.out text
    pub flushed : (after.out.waiting ≡ 0) ⊎ Rose before.out.faults after.out.faults
    pub files : ChangesNoFile before after
    pub idle : after.pass ≡ before.pass

  -- no command's text was put, and nothing at all but what is said of a fault
  abbrev pub PutsNoText : Type 0
  PutsNoText = PutsNothing before after ⊎ ((fault : CommandFault) × SaysWhy fault)

  -- a write of the first file failed, to which a run's packets that pass were to be written, and no other file changed
  pub record FailsFirst (run : RunWords) (name : List ℕ) : Type 0 where
    pub said : SaysCommand words (Run run)
    pub named : given_text run.output ≡ Some name
    pub failed : Rose before.files.write_faults after.files.write_faults
    pub others : SameOthers before.files.contents after.files.contents name

  -- a run's report was put, what passed was written, and a write of the second file failed, to which the connections were to be saved; up to then no file
  -- changed but the first, if there is one, and behind that none but the second
  pub record FailsSecond (run : RunWords) (plan : RunPlan) (outputs : List Packet) (outcomes : List Outcome) (name : List ℕ) : Type 0 where
    pub said : SaysCommand words (Run run)
    pub named : given_text run.save ≡ Some name
    pub failed : Rose before.files.write_faults after.files.write_faults
    pub reports : IsReported run before after plan outputs outcomes
    pub written : WritesPassed run after.files plan outputs outcomes
    pub between : Option Tree
    pub first : KeepsUnnamed (given_text run.output) before.files.contents between
    pub second : SameOthers between after.files.contents name

  -- a run's report was put, what passed was written, and memory ran out at the second file, to which the connections were to be saved: no file changed but
  -- the first
  pub record IsBetweenFiles : Type 0 where
    pub run : RunWords
    pub said : SaysCommand words (Run run)
    pub output : List ℕ
    pub first : given_text run.output ≡ Some output
    pub save : List ℕ
    pub second : given_text run.save ≡ Some save
    pub plan : RunPlan
    pub outputs : List Packet
    pub outcomes : List Outcome
    pub reports : IsReported run before after plan outputs outcomes
    pub written : WritesPassed run after.files plan outputs outcomes
    pub others : SameOthers before.files.contents after.files.contents output

  -- what is left of the files: no file changed; or a write failed of the first of a run, or of the second; or memory ran out between the two
  pub data LeavesFiles (status : ℕ) : Type 0 where
    unchanged : ChangesNoFile before after → LeavesFiles status
    at_first : {run : RunWords} {name : List ℕ} → FailsFirst run name → LeavesFiles status
    at_second : {run : RunWords} {plan : RunPlan} {outputs : List Packet} {outcomes : List Outcome} {name : List ℕ} →
        FailsSecond run plan outputs outcomes name → LeavesFiles status
    between : status ≡ 1 → IsBetweenFiles → LeavesFiles status

  -- why this is the first fault, and what was done before it; want of memory says nothing of the words and the files
  pub data MeetsFault : CommandFault → Type 0 where
    in_words : is_command_line words ≡ false → IsUntouched before after → MeetsFault Usage
    in_run : {run : RunWords} {fault : CommandFault} → SaysCommand words (Run run) →
        StartsRun before.files after.files (names_of_run run) (given_text run.load) before.pass.slots (Err fault) → IsUntouched before after →
        MeetsFault fault
    in_nodes : {run : RunWords} {file : List ℕ} {plan : RunPlan} → SaysCommand words (Run run) → given_text run.load ≡ Some file →
        PreparesRun before.files after.files (names_of_run run) (Ok plan) →
        LacksNode before.files after.files file (interface_names plan.ifaces) before.pass after.pass → PutsNothing before after →
        ChangesNoFile before after → MeetsFault (Saved file SavedNoNode)
    in_loading : {command : Invocation} {load : Load} {fault : CommandFault} → SaysCommand words command → loaded_by command ≡ Some load →
        is_explained command fault ≡ false → LoadsAlone before.files after.files (given_text load.ifaces) load.conf.now (Err fault) →
        IsUntouched before after → MeetsFault fault
    in_asking : {command : Invocation} {load : Load} {given : List Iface} {config : Configuration} {fault : CommandFault} → SaysCommand words command →
        loaded_by command ≡ Some load → IsAskedOf before after load given config → RefusesQuestion before.files after.files given config command fault →
        IsUntouched before after → MeetsFault fault
    in_explaining : {fault : CommandFault} → SaysWhy fault → MeetsFault fault
    in_workload : {number : ℕ} {tree : Tree} {fault : CommandFault} → SaysCommand words (Gen number) → HoldsWorkload number tree →
        PreparesOf tree (Err fault) → IsUntouched before after → MeetsFault fault
    in_output : Rose before.out.faults after.out.faults → ChangesNoFile before after → PutsFront → MeetsFault OutputUnwritten
    in_writing : {run : RunWords} {name : List ℕ} {plan : RunPlan} {outputs : List Packet} {outcomes : List Outcome} → FailsFirst run name →
        IsReported run before after plan outputs outcomes → after.out.waiting ≡ 0 → MeetsFault (Unwritten name)
    in_saving : {run : RunWords} {name : List ℕ} {plan : RunPlan} {outputs : List Packet} {outcomes : List Outcome} →
        FailsSecond run plan outputs outcomes name → after.out.waiting ≡ 0 → MeetsFault (Unwritten name)
    in_memory : PutsNothing before after ⊎ PutsFront → LeavesFiles 1 → MeetsFault NoMemory
    in_saying : {fault : CommandFault} → SaysWhy fault → MeetsFault NoMemory

  -- with status 1 alone, nothing was put
  pub record PutsNoLine (old new : SinkMoment) (status : ℕ) : Type 0 where
    pub memory : status ≡ 1
    pub put : Appends old.held new.held []

  -- the first fault was met and told: its line doesn't wait, unless the error sink failed or memory was wanting
  pub record IsFaulted (old new : SinkMoment) (status : ℕ) : Type 0 where
    pub fault : CommandFault
    pub status_is : status ≡ status_of_fault fault
    pub cause : MeetsFault fault
    pub line : PutsLine old new (message_line fault) ⊎ PutsNoLine old new status
    pub flushed : status ≢ 1 → (new.waiting ≡ 0) ⊎ Rose old.faults new.faults
