-- What a run does, from its files to the bytes that it puts and writes.
-- READ 1 of docs/READING.md
use Rattle.std.specs.Prelude.{◌≢◌, ℕ, Ok, Option, Some, List, IfSome}
use Rattle.npf_types.specs.declared.name.Name.{Name}
use Rattle.npf_core.specs.History.{state_of}
use Rattle.npf_connections.specs.Pass.{Pass}
use Rattle.npf_engine.specs.declared.outcome.Outcome.{Outcome}
use Rattle.npf_engine.specs.Histories.{FlowEntry}
use Rattle.npf_outside.specs.Files.{FilesMoment, Has}
use Rattle.npf_outside.specs.Sink.{SinkMoment, Appends}
use Rattle.npf_pcap.specs.declared.capture.Record.{Record}
use Rattle.npf_pcap.specs.Spelling.{capture_bytes}
use Rattle.npf_traffic.specs.declared.packet.Packet.{Packet}
use Rattle.npf_traffic.specs.declared.phase.Spread.{Spread}
use Rattle.npf_flow.specs.Flows.{flow_law}
use Rattle.npf_runner.specs.Plays.{PlaysPhases}
use Rattle.npf_connsave.specs.Loads.{StaysSole}
use Rattle.npf_connsave.specs.Saves.{IsSavedText}
use Rattle.npf_ctl_prepare.specs.Prepares.{RunPlan, PreparesRun, RunNames}
use Rattle.npf_ctl_output.specs.Report.{report_text}
use Rattle.npf_ctl_output.specs.Capture.{AreWritten}
use Rattle.npf_ctl_saved.specs.Loads.{BeginsLoaded, interface_names}
use Rattle.npf_ctl_words.specs.declared.command.RunWords.{RunWords}
use Rattle.npf_ctl_words.specs.CommandLine.{given_text}
use Rattle.npf_ctl.specs.Commands.{names_of_run, spread_said}
use Rattle.npf_ctl.specs.Fragments.{HasWholePackets}

-- what is shown at a moment: the files, the output, and the pass of the table of connections
pub record Moment : Type 0 where
  pub files : FilesMoment
  pub out : SinkMoment
  pub pass : Pass FlowEntry

abbrev pub moment : FilesMoment → SinkMoment → Pass FlowEntry → Moment
moment files out pass = record { files = files; out = out; pass = pass }

-- What the files of these names say from the one moment to the other was played, with its fragments put together: each packet of that plan has
-- an outcome that the pass's history explains. That history begins with the entries of the connections that were loaded, where a file of them
-- is named, and they stand before the first phase.
pub record PlaysRun (names : RunNames) (load : Option (List ℕ)) (workers : ℕ) (spread : Spread) (before after : FilesMoment) (old new : Pass FlowEntry) (plan : RunPlan) (outputs : List Packet) (outcomes : List Outcome) : Type 0 where
  pub read : RunPlan
  pub prepared : PreparesRun before after names (Ok read)
  pub whole : HasWholePackets read plan
  pub begun : Pass FlowEntry
  pub same : StaysSole old begun
  pub begins : BeginsLoaded before after load (interface_names plan.ifaces) old begun
  pub played : PlaysPhases plan.configs workers spread begun new plan.phases plan.packets outputs outcomes

-- a run's words were followed so
abbrev pub PlaysWords : RunWords → Moment → Moment → RunPlan → List Packet → List Outcome → Type 0
PlaysWords run before after = PlaysRun (names_of_run run) (given_text run.load) run.workers (spread_said run.spread) before.files after.files before.pass after.pass

-- a run was played, and its report was put on the output
pub record IsReported (run : RunWords) (before after : Moment) (plan : RunPlan) (outputs : List Packet) (outcomes : List Outcome) : Type 0 where
  pub played : PlaysWords run before after plan outputs outcomes
  pub reported : Appends before.out.held after.out.held (report_text plan.ifaces plan.packets outcomes)

-- the file of this name holds the packets that passed, as they were sent
pub record IsWrittenTo (files : FilesMoment) (packets outputs : List Packet) (outcomes : List Outcome) (name : List ℕ) : Type 0 where
  pub records : List Record
  pub written : AreWritten packets outputs outcomes records
  pub holds : Has files.contents name (capture_bytes records)

-- what passed was written where a file is named for it, unless the connections are saved to that file
abbrev pub WritesPassed : RunWords → FilesMoment → RunPlan → List Packet → List Outcome → Type 0
WritesPassed run files plan outputs outcomes =
    IfSome (given_text run.output) (λ name. given_text run.save ≢ Some name → IsWrittenTo files plan.packets outputs outcomes name)

-- the file of this name holds the text of the connections that the pass's table has
pub record IsSavedTo (files : FilesMoment) (pass : Pass FlowEntry) (names : List Name) (name : List ℕ) : Type 0 where
  pub text : List ℕ
  pub saved : IsSavedText (state_of flow_law pass.history) names text
  pub holds : Has files.contents name text

-- a run was done: it was reported, what passed was written, and the connections were saved, where files are named for them
pub record IsRun (run : RunWords) (before after : Moment) : Type 0 where
  pub plan : RunPlan
  pub outputs : List Packet
  pub outcomes : List Outcome
  pub reports : IsReported run before after plan outputs outcomes
  pub written : WritesPassed run after.files plan outputs outcomes
  pub saved : IfSome (given_text run.save) (IsSavedTo after.files after.pass (interface_names plan.ifaces))
