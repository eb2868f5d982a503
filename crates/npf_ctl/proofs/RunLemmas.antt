-- A run: what was loaded, reported, written and saved.
use Rattle.std.proofs.Common.{◌≡◌, ◌≢◌, ◌∙◌, ⊎_elim, inr, ℕ, List, Option, Some, None, Ok, Err, Result, IfSome, OnOk, IfErr, refl, sym, subst}
use Rattle.npf_types.specs.Stages.{goes_on, stops}
use Rattle.npf_config.specs.Reading.{OnlyReads}
use Rattle.npf_connections.specs.Pass.{Pass}
use Rattle.npf_engine.specs.{declared.outcome.Outcome.Outcome, Histories.FlowEntry}
use Rattle.npf_outside.specs.{Counts.Rose, Files.{FilesMoment, SameFiles, SameOthers}, Sink.SinkMoment}
use Rattle.npf_ctl_messages.specs.declared.fault.CommandFault.{CommandFault, TheVariants.{NoMemory, Unwritten}}
use Rattle.npf_ctl_input.specs.Unless.{IfTold}
use Rattle.npf_ctl_output.specs.File.{IsUnwritten, KeepsUnnamed}
use Rattle.npf_ctl_prepare.specs.Prepares.{PreparesRun, RunPlan}
use Rattle.npf_ctl_saved.specs.Loads.{FailsLoad, interface_names}
use Rattle.npf_traffic.specs.declared.packet.Packet.{Packet}
use Rattle.npf_ctl_words.specs.{declared.command.{Invocation.TheVariants.Run, RunWords.RunWords}, CommandLine.{SaysCommand, given_text}}
use Rattle.npf_ctl.specs.{Commands.names_of_run, Ends.{EndsIn, FailsPlan, FailsSave, FollowsPlan, IsPutOut}}
use Rattle.npf_ctl.specs.Faults.{ChangesNoFile, FailsSecond, IsUntouched, LeavesFiles, MeetsFault, PutsFront, PutsNothing}
use Rattle.npf_ctl.specs.Run.{IsReported, IsSavedTo, IsWrittenTo, Moment, WritesPassed}
use Rattle.npf_ctl.proofs.EndLemmas.{Starts, early, plays_run, reported_front, unreported, unwritten, unwritten_since}
use Rattle.npf_ctl.proofs.FileLemmas.{has_on, others_on, same_through}

module _ (words : List (List ℕ)) (before after : Moment) (run : RunWords) (said : SaysCommand words (Run run)) where
  pub run_unprepared : IsUntouched before after → (fault : CommandFault) → IfTold (λ why. PreparesRun before.files after.files (names_of_run run) (Err why)) fault →
      MeetsFault words before after fault
  run_unprepared untouched =
      early words before after (λ why. PreparesRun before.files after.files (names_of_run run) (Err why)) (λ why comes. MeetsFault.in_run said (stops comes) untouched)
      untouched.put untouched.files

  module _ (plan : RunPlan) where
    -- its connections weren't loaded
    pub run_unloaded : PreparesRun before.files after.files (names_of_run run) (Ok plan) → PutsNothing before after → ChangesNoFile before after → (fault : CommandFault) →
        IfTold (FailsLoad before.files after.files (given_text run.load) (interface_names plan.ifaces) before.pass after.pass) fault → MeetsFault words before after fault
    run_unloaded prepared nothing same =
        early words before after (FailsLoad before.files after.files (given_text run.load) (interface_names plan.ifaces) before.pass after.pass) meets nothing same
      where
        meets : (why : CommandFault) → FailsLoad before.files after.files (given_text run.load) (interface_names plan.ifaces) before.pass after.pass why → MeetsFault words before after why
        meets _ (FailsLoad.refused comes idle) =
            MeetsFault.in_run said (goes_on prepared (stops comes)) (record { put = nothing; files = same; idle = idle })
        meets _ (FailsLoad.no_node named lacks) = MeetsFault.in_nodes said named prepared lacks nothing same

    module _ (begun : Pass FlowEntry) (starts : Starts words before after run plan begun) where
      -- what was put out is reported
      reports_of : (outputs : List Packet) (outcomes : List Outcome) → IsPutOut run plan begun after.pass before.out after.out outputs outcomes →
          IsReported run before after plan outputs outcomes
      reports_of outputs outcomes put = record {
        played = plays_run words before after run plan begun starts outputs outcomes put.played;
        reported = put.reported;
      }

      -- its plan wasn't followed, from files that were only read before
      pub run_unfollowed : (read : FilesMoment) → OnlyReads before.files read → KeepsUnnamed (given_text run.output) read.contents after.files.contents → (fault : CommandFault) →
          FailsPlan run plan begun after.pass before.out after.out read after.files fault → MeetsFault words before after fault
      run_unfollowed read reads others fault (FailsPlan.unreported same why) =
          unreported words before after run plan said (subst (λ contents. SameFiles contents after.files.contents) reads.contents same) begun starts fault why
      run_unfollowed read reads others fault (FailsPlan.unwritten {name = name} {outputs = outputs} {outcomes = outcomes} named put why) =
          unwritten words before after run plan said outputs outcomes (reports_of outputs outcomes put) name named
          (subst (λ contents. SameOthers contents after.files.contents name) reads.contents
          (subst (λ (given : Option (List ℕ)). KeepsUnnamed given read.contents after.files.contents) named others))
          put.flushed fault (unwritten_since before.files read after.files name reads.write_faults reads.contents fault why)

      module _ (read mid : FilesMoment) (reads : OnlyReads before.files read) (faultless : mid.write_faults ≡ read.write_faults)
          (wrote : KeepsUnnamed (given_text run.output) read.contents mid.contents)
          (follows : FollowsPlan run plan begun after.pass before.out after.out mid) where
        reports : IsReported run before after plan follows.outputs follows.outcomes
        reports = reports_of follows.outputs follows.outcomes follows.reports

        -- what was written stays while the connections are saved to another file
        passed_on : KeepsUnnamed (given_text run.save) mid.contents after.files.contents → WritesPassed run after.files plan follows.outputs follows.outcomes
        passed_on others = by (given_text run.output) follows.written where
          by : (given : Option (List ℕ)) → IfSome given (IsWrittenTo mid plan.packets follows.outputs follows.outcomes) →
              IfSome given (λ name. given_text run.save ≢ Some name → IsWrittenTo after.files plan.packets follows.outputs follows.outcomes name)
          by None written = tt
          by (Some name) written = λ not. record {
            records = written.records;
            written = written.written;
            holds = has_on (given_text run.save) mid.contents after.files.contents name _ others not written.holds;
          }

        -- no file but the first changed until the connections were to be saved
        wrote_first : KeepsUnnamed (given_text run.output) before.files.contents mid.contents
        wrote_first = subst (λ contents. KeepsUnnamed (given_text run.output) contents mid.contents) reads.contents wrote

        fails_second : KeepsUnnamed (given_text run.save) mid.contents after.files.contents → (name : List ℕ) → given_text run.save ≡ Some name →
            Rose mid.write_faults after.files.write_faults → FailsSecond words before after run plan follows.outputs follows.outcomes name
        fails_second others name named rose = record {
          said = said;
          named = named;
          failed = subst (λ (faults : ℕ). Rose faults after.files.write_faults) (faultless ∙ reads.write_faults) rose;
          reports = reports;
          written = passed_on others;
          between = mid.contents;
          first = wrote_first;
          second = subst (λ (given : Option (List ℕ)). KeepsUnnamed given mid.contents after.files.contents) named others;
        }

        -- the connections weren't saved
        unsaved : KeepsUnnamed (given_text run.save) mid.contents after.files.contents → (name : List ℕ) → given_text run.save ≡ Some name → (fault : CommandFault) →
            IsUnwritten mid after.files name fault → MeetsFault words before after fault
        unsaved others name named (Unwritten file) why =
            subst (λ (n : List ℕ). MeetsFault words before after (Unwritten n)) (sym why.0)
            (MeetsFault.in_saving (fails_second others name named why.1) follows.reports.flushed)
        unsaved others name named NoMemory why = ⊎_elim (λ same. kept (given_text run.output) refl same)
            (λ rose. MeetsFault.in_memory (inr front) (LeavesFiles.at_second (fails_second others name named rose))) why where
              front : PutsFront words before after
              front = reported_front words before after run plan said follows.outputs follows.outcomes reports

              kept : (given : Option (List ℕ)) → given_text run.output ≡ given → SameFiles mid.contents after.files.contents → MeetsFault words before after NoMemory
              kept None is same = MeetsFault.in_memory (inr front) (LeavesFiles.unchanged (same_through before.files.contents mid.contents after.files.contents
                  (subst (λ (o : Option (List ℕ)). KeepsUnnamed o before.files.contents mid.contents) is wrote_first) same))
              kept (Some output) is same = MeetsFault.in_memory (inr front) (LeavesFiles.between refl (record {
                run = run;
                said = said;
                output = output;
                first = is;
                save = name;
                second = named;
                plan = plan;
                outputs = follows.outputs;
                outcomes = follows.outcomes;
                reports = reports;
                written = passed_on others;
                others = others_on output before.files.contents mid.contents after.files.contents
                    (subst (λ (o : Option (List ℕ)). KeepsUnnamed o before.files.contents mid.contents) is wrote_first) same;
              }))
        unsaved others name named _ why = absurd why

        -- the connections were saved, where a file is named for them, or weren't
        pub saving_ends : KeepsUnnamed (given_text run.save) mid.contents after.files.contents → (result : Result (Unit {0}) CommandFault) →
            OnOk result (IfSome (given_text run.save) (IsSavedTo after.files after.pass (interface_names plan.ifaces))) →
            IfErr result (FailsSave (given_text run.save) mid after.files) → EndsIn words before after result
        saving_ends others (Ok u) saved fails = (
          record {
            command = Run run;
            said = said;
            does = record { plan = plan; outputs = follows.outputs; outcomes = follows.outcomes; reports = reports; written = passed_on others; saved = saved };
          },
          follows.reports.flushed,
        )
        saving_ends others (Err fault) saved fails = unsaved others fails.name fails.is fault fails.unwritten

module _ (run : RunWords) (plan : RunPlan) (old new : Pass FlowEntry) (before after : SinkMoment) (outputs : List Packet) (outcomes : List Outcome)
    (put : IsPutOut run plan old new before after outputs outcomes) where
  follows : (files : FilesMoment) → IfSome (given_text run.output) (IsWrittenTo files plan.packets outputs outcomes) → FollowsPlan run plan old new before after files
  follows files written = record { outputs = outputs; outcomes = outcomes; reports = put; written = written }

  -- a plan was followed whose words name no file for what passed
  pub follows_unnamed : (files : FilesMoment) → given_text run.output ≡ None → FollowsPlan run plan old new before after files
  follows_unnamed files none = follows files (subst (λ (o : Option (List ℕ)). IfSome o (IsWrittenTo files plan.packets outputs outcomes)) (sym none) tt)

  module _ (name : List ℕ) (named : given_text run.output ≡ Some name) where
    -- one was followed whose words name a file for it
    pub follows_named : (files : FilesMoment) → (result : Result (Unit {0}) CommandFault) → OnOk result (IsWrittenTo files plan.packets outputs outcomes name) →
        OnOk result (FollowsPlan run plan old new before after files)
    follows_named files (Ok u) written = follows files (subst (λ (o : Option (List ℕ)). IfSome o (IsWrittenTo files plan.packets outputs outcomes)) (sym named) written)
    follows_named files (Err fault) written = tt

    -- or what passed wasn't written
    pub fails_named : (first last : FilesMoment) → (result : Result (Unit {0}) CommandFault) → IfErr result (IsUnwritten first last name) →
        IfErr result (FailsPlan run plan old new before after first last)
    fails_named first last (Ok u) fails = tt
    fails_named first last (Err fault) fails = FailsPlan.unwritten named put fails
