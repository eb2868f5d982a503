-- The run of a generated input.
use Rattle.std.proofs.Common.{◌≡◌, inl, refl, ℕ, List, Ok, Err, Result, OnOk, IfErr}
use Rattle.npf_engine.specs.declared.outcome.Outcome.{Outcome}
use Rattle.npf_ctl_messages.specs.declared.fault.CommandFault.{CommandFault}
use Rattle.npf_outside.specs.{Files.SameFiles, Sink.{Appends, AppendsFront}}
use Rattle.npf_connsave.proofs.KeysLemmas.{sole_self}
use Rattle.npf_ctl_output.specs.SinkText.{HasPutFault}
use Rattle.npf_ctl_prepare.specs.{declared.prepare.Prepared.Prepared, View.run_plan_of}
use Rattle.npf_report.specs.TotalText.{total_text}
use Rattle.npf_traffic.specs.declared.{packet.Packet.Packet, phase.Spread.TheVariants.Rr}
use Rattle.npf_runner.specs.Plays.{PlaysPhases}
use Rattle.npf_ctl_words.specs.{declared.command.Invocation.TheVariants.Gen, CommandLine.SaysCommand}
use Rattle.npf_ctl.specs.{Ends.{EndsIn, PreparesGenerated}, Faults.{IsUntouched, LeavesFiles, MeetsFault}, Fragments.HasWholePackets, Generated.PreparesOf}
use Rattle.npf_ctl.{specs.{Run.Moment, Texts.TextOf}, proofs.EndLemmas.{early, text_ends}}

module _ (words : List (List ℕ)) (before after : Moment) (number : ℕ) (said : SaysCommand words (Gen number)) where
  pub unprepared : IsUntouched before after → (fault : CommandFault) → PreparesGenerated number (Err fault) → MeetsFault words before after fault
  unprepared untouched _ PreparesGenerated.unmade = MeetsFault.in_memory (inl untouched.put) (LeavesFiles.unchanged untouched.files)
  unprepared untouched fault (PreparesGenerated.made {tree = tree} holds comes) =
      early words before after (λ why. PreparesOf tree (Err why)) (λ why says. MeetsFault.in_workload said holds says untouched) untouched.put untouched.files fault comes

  module _ (read whole : Prepared) (outputs : List Packet) (outcomes : List Outcome) where
    pub generated_ends : SameFiles before.files.contents after.files.contents → PreparesGenerated number (Ok read) → HasWholePackets (run_plan_of read) (run_plan_of whole) →
        PlaysPhases (run_plan_of whole).configs 1 Rr before.pass after.pass whole.phases.items whole.packets.items outputs outcomes →
        (result : Result (Unit {0}) CommandFault) → OnOk result (Appends before.out.held after.out.held (total_text outcomes)) → OnOk result (after.out.waiting ≡ 0) →
        AppendsFront before.out.held after.out.held (total_text outcomes) → IfErr result (HasPutFault before.out.faults after.out.faults) → EndsIn words before after result
    generated_ends same (PreparesGenerated.made {tree = tree} holds comes) has_whole plays =
        text_ends words before after (Gen number) (total_text outcomes) said
        (TextOf.total {tree = tree} {plan = run_plan_of whole} {outputs = outputs} holds
        (record { read = run_plan_of read; prepared = comes; whole = has_whole; begun = before.pass; same = sole_self before.pass; begins = refl; played = plays })) same
        (λ puts. puts)
