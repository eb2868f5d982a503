-- How the work on a command ends, and what is left of the pass of the table of connections.
use Rattle.std.specs.Prelude.{◌≡◌, ◌⊎◌, ℕ, Result, Ok, Err, List, [], Option, Some, IfSome}
use Rattle.npf_connections.specs.Pass.{Pass, all_places}
use Rattle.npf_engine.specs.declared.outcome.Outcome.{Outcome}
use Rattle.npf_engine.specs.Histories.{FlowEntry}
use Rattle.npf_ctl_messages.specs.declared.fault.CommandFault.{CommandFault}
use Rattle.npf_ctl_messages.specs.declared.fault.CommandFault.TheVariants.{NoMemory}
use Rattle.npf_ctl_messages.specs.Message.{message_line, status_of_fault}
use Rattle.npf_ctl_input.specs.Unless.{UnlessMemory}
use Rattle.npf_outside.specs.Counts.{Rose}
use Rattle.npf_outside.specs.Files.{FilesMoment, SameFiles, Tree}
use Rattle.npf_outside.specs.Sink.{Appends, AppendsFront, SinkMoment}
use Rattle.npf_ctl_output.specs.SinkText.{HasPutFault}
use Rattle.npf_ctl_output.specs.Report.{report_text}
use Rattle.npf_ctl_output.specs.File.{IsUnwritten}
use Rattle.npf_ctl_prepare.specs.declared.prepare.Prepared.{Prepared}
use Rattle.npf_ctl_prepare.specs.Prepares.{RunPlan}
use Rattle.npf_ctl_prepare.specs.View.{run_plan_of}
use Rattle.npf_traffic.specs.declared.packet.Packet.{Packet}
use Rattle.npf_traffic.specs.declared.phase.Spread.{Spread}
use Rattle.npf_runner.specs.Plays.{IsUnnumbered, PlaysPhases}
use Rattle.npf_ctl_words.specs.declared.command.RunWords.{RunWords}
use Rattle.npf_ctl_words.specs.CommandLine.{given_text}
use Rattle.npf_ctl.specs.Commands.{spread_said}
use Rattle.npf_ctl.specs.Faults.{IsFaulted, MeetsFault, PutsLine}
use Rattle.npf_ctl.specs.declared.findings.Finding.{Finding}
use Rattle.npf_ctl.specs.declared.findings.Finding.TheVariants.{Nothing}
use Rattle.npf_ctl.specs.Findings.{status_of_finding}
use Rattle.npf_ctl.specs.Generated.{HoldsWorkload, PreparesOf}
use Rattle.npf_ctl.specs.declared.reasons.Reason.{Reason}
use Rattle.npf_ctl.specs.Run.{IsWrittenTo, Moment}
use Rattle.npf_ctl.specs.Top.{DoesWords}

-- a pass that owns all of its table, which nothing was asked yet
pub record IsFresh (pass : Pass FlowEntry) : Type 0 where
  pub places : pass.places ≡ all_places
  pub first : pass.history ≡ []

-- a pass that owns all of its table, whose history has entries of no packet
pub record MayBegin (pass : Pass FlowEntry) : Type 0 where
  pub places : pass.places ≡ all_places
  pub unnumbered : (last : ℕ) → IsUnnumbered last pass.history

-- why a plan isn't reported: memory ran out before it was played, and nothing was put; or its report wasn't put whole
pub data FailsReport (plan : RunPlan) (workers : ℕ) (spread : Spread) (old new : Pass FlowEntry) (before after : SinkMoment) : CommandFault → Type 0 where
  unplayed : Appends before.held after.held [] → FailsReport plan workers spread old new before after NoMemory
  unput : {outputs : List Packet} {outcomes : List Outcome} {fault : CommandFault} →
      PlaysPhases plan.configs workers spread old new plan.phases plan.packets outputs outcomes → HasPutFault before.faults after.faults fault →
      AppendsFront before.held after.held (report_text plan.ifaces plan.packets outcomes) → FailsReport plan workers spread old new before after fault

-- a plan was played as the words say, and its report was put and flushed
pub record IsPutOut (run : RunWords) (plan : RunPlan) (old new : Pass FlowEntry) (before after : SinkMoment) (outputs : List Packet) (outcomes : List Outcome) : Type 0 where
  pub played : PlaysPhases plan.configs run.workers (spread_said run.spread) old new plan.phases plan.packets outputs outcomes
  pub reported : Appends before.held after.held (report_text plan.ifaces plan.packets outcomes)
  pub flushed : after.waiting ≡ 0

-- and what passed was written where a file is named for it
pub record FollowsPlan (run : RunWords) (plan : RunPlan) (old new : Pass FlowEntry) (before after : SinkMoment) (files : FilesMoment) : Type 0 where
  pub outputs : List Packet
  pub outcomes : List Outcome
  pub reports : IsPutOut run plan old new before after outputs outcomes
  pub written : IfSome (given_text run.output) (IsWrittenTo files plan.packets outputs outcomes)

-- why it wasn't: it isn't reported, and no file changed; or it is, and what passed isn't written
pub data FailsPlan (run : RunWords) (plan : RunPlan) (old new : Pass FlowEntry) (before after : SinkMoment) (first last : FilesMoment) (fault : CommandFault) : Type 0 where
  unreported : SameFiles first.contents last.contents → FailsReport plan run.workers (spread_said run.spread) old new before after fault →
      FailsPlan run plan old new before after first last fault
  unwritten : {name : List ℕ} {outputs : List Packet} {outcomes : List Outcome} → given_text run.output ≡ Some name →
      IsPutOut run plan old new before after outputs outcomes → IsUnwritten first last name fault → FailsPlan run plan old new before after first last fault

-- why the connections aren't saved to the file of this name, if there is one
pub record FailsSave (given : Option (List ℕ)) (first last : FilesMoment) (fault : CommandFault) : Type 0 where
  pub name : List ℕ
  pub is : given ≡ Some name
  pub unwritten : IsUnwritten first last name fault

-- what preparing the generated run of this number comes to, unless memory is wanting for its files
pub data PreparesGenerated (number : ℕ) : Result Prepared CommandFault → Type 0 where
  unmade : PreparesGenerated number (Err NoMemory)
  made : {tree : Tree} {result : Result Prepared CommandFault} → HoldsWorkload number tree → UnlessMemory run_plan_of result (PreparesOf tree) →
      PreparesGenerated number result

-- what the words say was done, and the output is flushed; or the first fault was met
abbrev pub EndsIn : List (List ℕ) → Moment → Moment → Result (Unit {0}) CommandFault → Type 0
EndsIn words before after (Ok _) = DoesWords words Nothing before after × (after.out.waiting ≡ 0)
EndsIn words before after (Err fault) = MeetsFault words before after fault

-- the same with what is found by it
abbrev pub AnswersIn : List (List ℕ) → Moment → Moment → Result Finding CommandFault → Type 0
AnswersIn words before after (Ok finding) = DoesWords words finding before after × (after.out.waiting ≡ 0)
AnswersIn words before after (Err fault) = MeetsFault words before after fault

-- the fault's line was put and flushed, or a front of it where the sink failed, and the status is the fault's; or memory was wanting for it, and nothing was
-- put
pub data SaysFault (old new : SinkMoment) (fault : CommandFault) (status : ℕ) : Type 0 where
  told : status ≡ status_of_fault fault → PutsLine old new (message_line fault) → (new.waiting ≡ 0) ⊎ Rose old.faults new.faults →
      SaysFault old new fault status
  untold : status ≡ 1 → Appends old.held new.held [] → SaysFault old new fault status

-- what is said of a fault was put and flushed, or a front of it where the output failed, and the fault is answered; or memory was wanting, and
-- nothing was put
pub data AnswersReason (old new : SinkMoment) (reason : Reason) : CommandFault → Type 0 where
  said : PutsLine old new reason.said.items → (new.waiting ≡ 0) ⊎ Rose old.faults new.faults → AnswersReason old new reason reason.fault
  unsaid : Appends old.held new.held [] → AnswersReason old new reason NoMemory

-- the words were answered with this status
pub data AnswersWords (words : List (List ℕ)) (before after : Moment) (old new : SinkMoment) (status : ℕ) : Type 0 where
  done : {finding : Finding} → status ≡ status_of_finding finding → DoesWords words finding before after → after.out.waiting ≡ 0 →
      Appends old.held new.held [] → AnswersWords words before after old new status
  refused : IsFaulted words before after old new status → AnswersWords words before after old new status
