-- How the work on a command ends that asks something of a configuration.
use Rattle.std.proofs.Common.{◌≡◌, ℕ, false, Some, Ok, Err, OnOk, IfOk, IfErr, Result, List, refl, subst, sym}
use Rattle.npf_model.specs.{Configuration.Configuration, declared.iface.Iface.Iface}
use Rattle.npf_types.specs.Stages.{goes_on}
use Rattle.npf_config.specs.Reading.{OnlyReads}
use Rattle.npf_connections.specs.Pass.{Pass}
use Rattle.npf_engine.specs.Histories.{FlowEntry}
use Rattle.npf_outside.specs.{Files.FilesMoment, Sink.{Appends, AppendsFront, SinkMoment}}
use Rattle.npf_ctl_input.{specs.{Interfaces.ReadsInterfaces, Loads.{LoadsAlone, LoadsFile}, Unless.IfTold}, proofs.UnlessLemmas.told_lasts}
use Rattle.npf_ctl_messages.specs.declared.fault.CommandFault.{CommandFault}
use Rattle.npf_ctl_output.specs.SinkText.{HasPutFault}
use Rattle.npf_ctl_words.specs.{CommandLine.{SaysCommand, given_text}, declared.command.{Invocation.Invocation, Load.Load}}
use Rattle.npf_types.specs.declared.limits.TheConstants.{MAX_TEXT_BYTES}
use Rattle.npf_ctl_input.specs.File.{ReadsFile}
use Rattle.npf_ctl_words.specs.declared.command.{CheckWords.CheckWords, CompareWords.CompareWords, Invocation.TheVariants.{Check, Compare}}
use Rattle.npf_ctl.specs.declared.{questions.ConfigQuestion.ConfigQuestion, findings.Finding.Finding}
use Rattle.npf_ctl.specs.declared.questions.ConfigQuestion.TheVariants as Asked
use Rattle.npf_ctl.specs.{Questions.{AnswersQuestion, RefusesQuestion, asking_command, loaded_of_question}, Checks.RefusesCheck, Comparisons.RefusesComparison, Ends.AnswersIn}
use Rattle.npf_ctl.specs.Commands.{load_of_check, load_of_compare, loaded_by}
use Rattle.npf_ctl.specs.{Faults.{ChangesNoFile, IsUntouched, MeetsFault, PutsNothing}, Reasons.is_explained, Run.{Moment, moment}, Texts.{IsAskedOf, TextOf}, Top.{DoesCommand, DoesWords, PutsText}}
use Rattle.npf_ctl.proofs.{EndLemmas.{early, unput}, FileLemmas.{nothing_put, only_read}}

pub asks_load : (question : ConfigQuestion) → loaded_by (asking_command question) ≡ Some (loaded_of_question question)
asks_load (Asked.Explain words) = refl
asks_load (Asked.Query words) = refl

pub asks_explain : (question : ConfigQuestion) (fault : CommandFault) → is_explained (asking_command question) fault ≡ false
asks_explain (Asked.Explain words) fault = refl
asks_explain (Asked.Query words) fault = refl

pub asks_put : (before after : Moment) (question : ConfigQuestion) (finding : Finding) → PutsText (asking_command question) finding before after →
    DoesCommand (asking_command question) finding before after
asks_put before after (Asked.Explain words) finding puts = puts
asks_put before after (Asked.Query words) finding puts = puts

-- behind interfaces that were read a configuration isn't loaded
pub conf_unloaded : (before after : FilesMoment) (load : Load) (given : List Iface) → ReadsInterfaces before after (given_text load.ifaces) (Ok given) →
    (fault : CommandFault) → IfTold (λ why. LoadsFile before after given load.conf.now (Err why)) fault →
    IfTold (λ why. LoadsAlone before after (given_text load.ifaces) load.conf.now (Err why)) fault
conf_unloaded before after load given reads fault told =
    told_lasts (λ why. LoadsFile before after given load.conf.now (Err why)) (λ why. LoadsAlone before after (given_text load.ifaces) load.conf.now (Err why))
    (λ why loads. goes_on reads loads) fault told

-- a file of expectations isn't read
pub unread_check : (words : List (List ℕ)) (before after : Moment) (asked : CheckWords) → SaysCommand words (Check asked) → (given : List Iface) (config : Configuration) →
    IsAskedOf before after (load_of_check asked) given config → IsUntouched before after → (fault : CommandFault) →
    IfTold (λ why. ReadsFile before.files after.files asked.expectations.now MAX_TEXT_BYTES (Err why)) fault → MeetsFault words before after fault
unread_check words before after asked said given config loaded untouched fault told =
    early words before after (λ why. ReadsFile before.files after.files asked.expectations.now MAX_TEXT_BYTES (Err why))
    (λ why comes. MeetsFault.in_asking said refl loaded (RefusesQuestion.check asked refl (RefusesCheck.unread comes)) untouched)
    untouched.put untouched.files fault told

-- a new configuration isn't loaded
pub unloaded_new : (words : List (List ℕ)) (before after : Moment) (asked : CompareWords) → SaysCommand words (Compare asked) → (given : List Iface) (config : Configuration) →
    IsAskedOf before after (load_of_compare asked) given config → IsUntouched before after → (fault : CommandFault) →
    IfTold (λ why. LoadsFile before.files after.files given asked.new.now (Err why)) fault → MeetsFault words before after fault
unloaded_new words before after asked said given config loaded untouched fault told =
    early words before after (λ why. LoadsFile before.files after.files given asked.new.now (Err why))
    (λ why comes. MeetsFault.in_asking said refl loaded (RefusesQuestion.compare asked refl (RefusesComparison.unloaded comes)) untouched)
    untouched.put untouched.files fault told

module _ (words : List (List ℕ)) (before after : Moment) (command : Invocation) (load : Load) (loads : loaded_by command ≡ Some load)
    (said : SaysCommand words command) where
  -- the configuration isn't loaded
  pub unloaded : ((why : CommandFault) → is_explained command why ≡ false) → IsUntouched before after → (fault : CommandFault) →
      IfTold (λ why. LoadsAlone before.files after.files (given_text load.ifaces) load.conf.now (Err why)) fault → MeetsFault words before after fault
  unloaded plain untouched fault told =
      early words before after (λ why. LoadsAlone before.files after.files (given_text load.ifaces) load.conf.now (Err why))
      (λ why comes. MeetsFault.in_loading said loads (plain why) comes untouched) untouched.put untouched.files fault told

  module _ (given : List Iface) (config : Configuration) (asked : IsAskedOf before after load given config) where
    -- there is no answer
    pub unanswered : IsUntouched before after → (fault : CommandFault) → RefusesQuestion before.files after.files given config command fault →
        MeetsFault words before after fault
    unanswered untouched fault refuses = MeetsFault.in_asking said loads asked refuses untouched

    -- the answer was put, or not
    pub answer_ends : (finding : Finding) (text : List ℕ) → (PutsText command finding before after → DoesCommand command finding before after) →
        AnswersQuestion before.files after.files given config command finding text → ChangesNoFile before after →
        (result : Result Finding CommandFault) → IfOk result (λ found. found ≡ finding) → OnOk result (Appends before.out.held after.out.held text) →
        OnOk result (after.out.waiting ≡ 0) → AppendsFront before.out.held after.out.held text → IfErr result (HasPutFault before.out.faults after.out.faults) →
        AnswersIn words before after result
    answer_ends finding text put answers same (Ok found) is whole flushed front fault =
        let of : TextOf before after command finding text = TextOf.answer loads asked answers in (
          subst (λ (it : Finding). DoesWords words it before after) (sym is)
              (record { command = command; said = said; does = put (record { text = text; of = of; put = whole }) }),
          flushed,
        )
    answer_ends finding text put answers same (Err why) is whole flushed front fault =
        unput words before after command finding text said (TextOf.answer loads asked answers) front same why fault

-- the files were only read, and the configuration isn't loaded
pub load_ends : (words : List (List ℕ)) (first last : FilesMoment) (out : SinkMoment) (pass : Pass FlowEntry) (command : Invocation) (load : Load) →
    loaded_by command ≡ Some load → SaysCommand words command → ((why : CommandFault) → is_explained command why ≡ false) → OnlyReads first last →
    (fault : CommandFault) → IfTold (λ why. LoadsAlone first last (given_text load.ifaces) load.conf.now (Err why)) fault →
    MeetsFault words (moment first out pass) (moment last out pass) fault
load_ends words first last out pass command load loads said plain reads fault told =
    unloaded words (moment first out pass) (moment last out pass) command load loads said plain
    (record { put = nothing_put out; files = only_read first last reads; idle = refl }) fault told
