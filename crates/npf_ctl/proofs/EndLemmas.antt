-- How the work on a command ends before it is done.
use Rattle.std.proofs.Common.{◌≡◌, Contains, inl, inr, ⊎_elim, ℕ, List, [], Some, Ok, Err, Result, OnOk, IfErr, sym, subst, arith}
use Rattle.npf_engine.specs.{Histories.{FlowEntry, History}, declared.outcome.Outcome.Outcome}
use Rattle.npf_runner.specs.Plays.{IsUnnumbered, PlaysPhases}
use Rattle.npf_outside.specs.{Counts.Rose, Files.{FilesMoment, SameFiles, SameOthers}, Sink.{Appends, AppendsFront}}
use Rattle.npf_ctl_messages.specs.declared.fault.CommandFault.{CommandFault, TheVariants.{Unwritten, OutputUnwritten, NoMemory}}
use Rattle.npf_ctl_input.specs.Unless.{IfTold}
use Rattle.npf_ctl_output.specs.{SinkText.HasPutFault, Report.report_text, File.IsUnwritten}
use Rattle.npf_connections.specs.Pass.{Pass}
use Rattle.npf_connsave.specs.Loads.{StaysSole}
use Rattle.npf_ctl_prepare.specs.Prepares.{RunPlan, PreparesRun}
use Rattle.npf_ctl_saved.specs.Loads.{BeginsLoaded, interface_names}
use Rattle.npf_traffic.specs.declared.packet.Packet.{Packet}
use Rattle.npf_ctl_words.specs.{declared.command.{Invocation.{Invocation, TheVariants.Run}, RunWords.RunWords}, CommandLine.{SaysCommand, given_text}}
use Rattle.npf_ctl.specs.{Commands.{names_of_run, spread_said}, declared.findings.Finding.{Finding, TheVariants.Nothing}, Ends.{EndsIn, FailsReport}}
use Rattle.npf_ctl.specs.{Faults.{ChangesNoFile, FailsFirst, LeavesFiles, MeetsFault, PutsFront, PutsNothing}, Fragments.HasWholePackets}
use Rattle.npf_ctl.{specs.{Run.{Moment, IsReported, PlaysWords}, Texts.TextOf, Top.{DoesCommand, PutsText}}, proofs.FileLemmas.front_of_whole}

-- a write that failed failed since an earlier moment with the same contents, at which as many had failed
pub unwritten_since : (first before after : FilesMoment) (name : List ℕ) → before.write_faults ≡ first.write_faults → before.contents ≡ first.contents → (fault : CommandFault) →
    IsUnwritten before after name fault → IsUnwritten first after name fault
unwritten_since first before after name same read (Unwritten file) (is, rose) = (is, subst (λ faults. Rose faults after.write_faults) same rose)
unwritten_since first before after name same read NoMemory why =
    ⊎_elim (λ kept. inl (subst (λ contents. SameFiles contents after.contents) read kept)) (λ rose. inr (subst (λ faults. Rose faults after.write_faults) same rose)) why
unwritten_since first before after name same read _ why = absurd why

pub each_unwritten_since : (first before after : FilesMoment) (name : List ℕ) → before.write_faults ≡ first.write_faults →
    before.contents ≡ first.contents → (result : Result (Unit {0}) CommandFault) →
    IfErr result (IsUnwritten before after name) → IfErr result (IsUnwritten first after name)
each_unwritten_since first before after name same read (Ok u) why = why
each_unwritten_since first before after name same read (Err fault) why = unwritten_since first before after name same read fault why

module _ (words : List (List ℕ)) (before after : Moment) where
  -- what is said of a fault is its cause, and where memory runs out nothing was put, and no file changed
  pub early : (Says : CommandFault → Type 0) → ((fault : CommandFault) → Says fault → MeetsFault words before after fault) → PutsNothing before after → ChangesNoFile before after →
      (fault : CommandFault) → IfTold Says fault → MeetsFault words before after fault
  early Says meets nothing same NoMemory told = MeetsFault.in_memory (inl nothing) (LeavesFiles.unchanged same)
  early Says meets nothing same fault told = meets fault told

  module _ (command : Invocation) (finding : Finding) (text : List ℕ) (said : SaysCommand words command) (of : TextOf before after command finding text)
      (front : AppendsFront before.out.held after.out.held text) where
    puts_front : PutsFront words before after
    puts_front = record { command = command; said = said; finding = finding; text = text; of = of; front = front }

    -- the text wasn't put whole
    pub unput : ChangesNoFile before after → (fault : CommandFault) → HasPutFault before.out.faults after.out.faults fault → MeetsFault words before after fault
    unput same OutputUnwritten rose = MeetsFault.in_output rose same puts_front
    unput same NoMemory why = MeetsFault.in_memory (inr puts_front) (LeavesFiles.unchanged same)
    unput same _ why = absurd why

  -- a run's plan was prepared, its fragments were put together, and its connections were loaded
  pub record Starts (run : RunWords) (plan : RunPlan) (begun : Pass FlowEntry) : Type 0 where
    pub read : RunPlan
    pub prepared : PreparesRun before.files after.files (names_of_run run) (Ok read)
    pub whole : HasWholePackets read plan
    pub same : StaysSole before.pass begun
    pub begins : BeginsLoaded before.files after.files (given_text run.load) (interface_names plan.ifaces) before.pass begun

  -- what was started and played is the run of its words
  pub plays_run : (run : RunWords) (plan : RunPlan) (begun : Pass FlowEntry) → Starts run plan begun → (outputs : List Packet) (outcomes : List Outcome) →
      PlaysPhases plan.configs run.workers (spread_said run.spread) begun after.pass plan.phases plan.packets outputs outcomes →
      PlaysWords run before after plan outputs outcomes
  plays_run run plan begun starts outputs outcomes plays = record {
    read = starts.read;
    prepared = starts.prepared;
    whole = starts.whole;
    begun = begun;
    same = starts.same;
    begins = starts.begins;
    played = plays;
  }

  module _ (run : RunWords) (plan : RunPlan) (said : SaysCommand words (Run run)) where
    -- a plan wasn't reported
    pub unreported : ChangesNoFile before after → (begun : Pass FlowEntry) → Starts run plan begun → (fault : CommandFault) →
        FailsReport plan run.workers (spread_said run.spread) begun after.pass before.out after.out fault → MeetsFault words before after fault
    unreported same begun starts _ (FailsReport.unplayed nothing) = MeetsFault.in_memory (inl nothing) (LeavesFiles.unchanged same)
    unreported same begun starts fault (FailsReport.unput {outputs = outputs} {outcomes = outcomes} plays why front) =
        unput (Run run) Nothing (report_text plan.ifaces plan.packets outcomes) said
        (TextOf.report {run = run} {plan = plan} {outputs = outputs} {outcomes = outcomes} (plays_run run plan begun starts outputs outcomes plays)) front same fault why

    module _ (outputs : List Packet) (outcomes : List Outcome) (reports : IsReported run before after plan outputs outcomes) where
      -- the report that was put is a front of itself
      pub reported_front : PutsFront words before after
      reported_front = puts_front (Run run) Nothing (report_text plan.ifaces plan.packets outcomes) said (TextOf.report reports.played)
          (front_of_whole before.out.held after.out.held (report_text plan.ifaces plan.packets outcomes) reports.reported)

      -- and what passed wasn't written
      module _ (name : List ℕ) (named : given_text run.output ≡ Some name) (others : SameOthers before.files.contents after.files.contents name) where
        fails : Rose before.files.write_faults after.files.write_faults → FailsFirst words before after run name
        fails rose = record { said = said; named = named; failed = rose; others = others }

        pub unwritten : after.out.waiting ≡ 0 → (fault : CommandFault) → IsUnwritten before.files after.files name fault → MeetsFault words before after fault
        unwritten passed (Unwritten file) why =
            subst (λ (n : List ℕ). MeetsFault words before after (Unwritten n)) (sym why.0) (MeetsFault.in_writing (fails why.1) reports passed)
        unwritten passed NoMemory why = MeetsFault.in_memory (inr reported_front) (⊎_elim LeavesFiles.unchanged (λ rose. LeavesFiles.at_first (fails rose)) why)
        unwritten passed _ why = absurd why

-- a history without entries carries no number
pub unnumbered_first : (last : ℕ) (history : History) → history ≡ [] → IsUnnumbered last history
unnumbered_first last history none = subst (IsUnnumbered last) (sym none) (λ n entry low high has. absurd (nothing_in entry has))
  where
    nothing_in : {X : Type 0} (x : X) → Contains [] x → ⊥
    nothing_in x has = let below = has.1 in omega (arith, below)

module _ (words : List (List ℕ)) (before after : Moment) (command : Invocation) (text : List ℕ) (said : SaysCommand words command) (of : TextOf before after command Nothing text) where
  -- a text that was put, or not
  pub text_ends : ChangesNoFile before after → (PutsText command Nothing before after → DoesCommand command Nothing before after) → (result : Result (Unit {0}) CommandFault) →
      OnOk result (Appends before.out.held after.out.held text) → OnOk result (after.out.waiting ≡ 0) → AppendsFront before.out.held after.out.held text →
      IfErr result (HasPutFault before.out.faults after.out.faults) → EndsIn words before after result
  text_ends same does (Ok unit) whole flushed front fault =
      (record { command = command; said = said; does = does (record { text = text; of = of; put = whole }) }, flushed)
  text_ends same does (Err why) whole flushed front fault = unput words before after command Nothing text said of front same why fault
