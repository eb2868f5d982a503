-- The changes of a script make what is one of configurations that are one.
use Rattle.std.{proofs.Common.{◌≡◌, ℕ, Bool, true, false, Result, Ok, Err, List, [], ◌∷◌, ◌++◌, refl, sym, ap, subst, arith}, specs.Prelude.if◌then◌else◌}
use Rattle.std.specs.List.{AllZip}
use Rattle.npf_types.specs.{declared.limits.TheConstants.MAX_TEXT_BYTES, Stages.{Stage, ◌told_by◌, done, told}}
use Rattle.npf_faults.specs.declared.fault.ConfFault.{ConfFault}
use Rattle.npf_parser.specs.Law.{OnePlace, OneTree, TreeOrHalt}
use Rattle.npf_model.specs.{declared.{iface.Iface.Iface, model.Model.Model, table.Kind.Kind}, Configuration.Configuration}
use Rattle.npf_outside.specs.Files.{Tree}
use Rattle.npf_ruleset.proofs.PairLemmas.{zip_append}
use Rattle.npf_config.specs.{Laws.{NeverBoth, OneMeaning}, Tables.declared_kinds}
use Rattle.npf_config_changes.specs.declared.fault.ChangeFault.{ChangeFault}
use Rattle.npf_config_changes.specs.ChangeLaws.{AreToldAlike as AreChangesAlike, OneAddition, OneFlush, OneRemoval, alike, equal as equal_changes}
use Rattle.npf_config_changes.specs.{Changes.{FlushesRules, RemovesRule}, Entries.{AddsEntry, RemovesEntry}}
use Rattle.npf_config_reload.specs.Reloads.{TakesOver, passed, taken}
use Rattle.npf_config_law.{specs.{Answers.AreOne, Entries.AreOneConfiguration}, proofs.AnswerLemmas.{one_behind, one_told}}
use Rattle.npf_config_law.proofs.ChangeLemmas.{additions_agree, entries_agree_added, entries_agree_removed, flushes_agree, removals_agree}
use Rattle.npf_config_law.proofs.ReloadLemmas.{takeovers_agree}
use Rattle.npf_ctl_script.specs.declared.script.ScriptLine.{ScriptLine}
use Rattle.npf_ctl_script.specs.declared.script.ScriptLine.TheVariants as Said
use Rattle.npf_ctl_schedule.specs.Schedule.{makes_change}
use Rattle.npf_ctl_messages.specs.declared.fault.CommandFault.{CommandFault}
use Rattle.npf_ctl_input.specs.{File.{ReadsFile, told_files}, Loads.{LoadsText, loaded as loads_first}}
use Rattle.npf_ctl_prepare.specs.Configurations.{AddsRuleAlone, MakesConfigurations, MakesNext, told_at_line}
use Rattle.npf_ctl_prepare.specs.Reloads.{ReloadsFile, ReloadsText, loaded, told_in_file, unloaded}
use Rattle.npf_ctl_prepare_law.{specs.Readings.{Agree, EndAlike, equal, on_line}, proofs.{AgreeLemmas.behind_one, InputLemmas.{one_file, texts_agree}}}

-- faults of changes are told alike at one line
line_alike : (script : List ℕ) (line : ℕ) (one two : ChangeFault) → AreChangesAlike one two → EndAlike (told_at_line script line one) (told_at_line script line two)
line_alike script line one two (equal_changes same) = equal (ap (told_at_line script line) same)
line_alike script line _ _ (alike place number) = on_line (record { place = place; number = number })

at_line : (stage other : Stage Configuration ChangeFault) (script : List ℕ) (line : ℕ)
    → ((one two : Result Configuration ChangeFault) → stage one → other two → AreOne AreOneConfiguration AreChangesAlike one two)
    → Agree AreOneConfiguration (stage told_by told_at_line script line) (other told_by told_at_line script line)
at_line stage other script line = one_told AreOneConfiguration AreChangesAlike EndAlike stage other (told_at_line script line) (line_alike script line)

module _ (one_tree : OneTree) (tree_or_halt : TreeOrHalt) (one_place : OnePlace) (one_meaning : OneMeaning) (never_both : NeverBoth)
    (one_addition : OneAddition) (one_removal : OneRemoval) (one_flush : OneFlush) (tree : Tree) (ifaces : List Iface) where
  module _ (old last : Configuration) (same : AreOneConfiguration old last) where
    module _ (file text : List ℕ) where
      texts : Agree AreOneConfiguration (LoadsText (told_files tree) (told_files tree) ifaces file text) (LoadsText (told_files tree) (told_files tree) ifaces file text)
      texts = texts_agree one_tree tree_or_halt one_place one_meaning never_both tree ifaces file text

      -- what takes over is loaded
      never_unloaded : (config : Configuration) (fault : CommandFault) (result : Result Configuration ConfFault) → LoadsText (told_files tree) (told_files tree) ifaces file text (Err fault)
          → ¬ TakesOver ifaces (told_files tree).contents config text result
      never_unloaded config fault _ not (taken {own = own} is kept) = texts (Err fault) (Ok own) not (loads_first is.first is.within)
      never_unloaded config fault _ not (passed {own = own} is kept) = texts (Err fault) (Ok own) not (loads_first is.first is.within)

      never_taken : (config : Configuration) (fault : CommandFault) (result : Result Configuration CommandFault) → LoadsText (told_files tree) (told_files tree) ifaces file text (Err fault)
          → ¬ (TakesOver ifaces (told_files tree).contents config text told_by told_in_file file) result
      never_taken config fault _ not (told {fault = f} is) = never_unloaded config fault (Err f) not is
      never_taken config fault _ not (done {a = a} is) = never_unloaded config fault (Ok a) not is

      reloads_agree : Agree AreOneConfiguration (ReloadsText (told_files tree) (told_files tree) ifaces old file text) (ReloadsText (told_files tree) (told_files tree) ifaces last file text)
      reloads_agree _ _ (unloaded {fault = f} is) (unloaded {fault = g} there) = texts (Err f) (Err g) is there
      reloads_agree _ two (unloaded {fault = f} is) (loaded there) = absurd (never_taken last f two is there)
      reloads_agree one _ (loaded is) (unloaded {fault = g} there) = absurd (never_taken old g one there is)
      reloads_agree one two (loaded is) (loaded there) =
          one_told AreOneConfiguration (λ f g. f ≡ g) EndAlike (TakesOver ifaces (told_files tree).contents old text) (TakesOver ifaces (told_files tree).contents last text)
          (told_in_file file) (λ f g faults. equal (ap (told_in_file file) faults))
          (takeovers_agree one_tree tree_or_halt one_place one_meaning never_both tree (told_files tree) (told_files tree) refl (refl, omega arith) ifaces text old last same)
          one two is there

    files_agree : (file : List ℕ) → Agree AreOneConfiguration (ReloadsFile (told_files tree) (told_files tree) ifaces old file) (ReloadsFile (told_files tree) (told_files tree) ifaces last file)
    files_agree file =
        behind_one AreOneConfiguration (ReadsFile (told_files tree) (told_files tree) file MAX_TEXT_BYTES) (ReloadsText (told_files tree) (told_files tree) ifaces old file)
        (ReloadsText (told_files tree) (told_files tree) ifaces last file) (one_file tree file MAX_TEXT_BYTES) (reloads_agree file)

    kinds : declared_kinds last.model.tables ≡ declared_kinds old.model.tables
    kinds = ap (λ (model : Model). declared_kinds model.tables) (sym same.model)

    next_agrees : (script : List ℕ) (line : ℕ × ScriptLine)
        → Agree AreOneConfiguration (MakesNext (told_files tree) (told_files tree) ifaces script old line) (MakesNext (told_files tree) (told_files tree) ifaces script last line)
    next_agrees script (n, Said.Reload file) = files_agree file
    next_agrees script (n, Said.RuleAdd name text) =
        at_line (AddsRuleAlone old name ifaces text) (AddsRuleAlone last name ifaces text) script n (additions_agree name old last same one_addition ifaces text)
    next_agrees script (n, Said.RuleRem name id) = at_line (RemovesRule old name id) (RemovesRule last name id) script n (removals_agree name old last same one_removal id)
    next_agrees script (n, Said.RuleFlush name) = at_line (FlushesRules old name) (FlushesRules last name) script n (flushes_agree name old last same one_flush)
    next_agrees script (n, Said.TableAdd name prefix) =
        let all = declared_kinds old.model.tables in
        at_line (AddsEntry all old name prefix) (AddsEntry (declared_kinds last.model.tables) last name prefix) script n
        (λ one two is there. entries_agree_added all name prefix old last same one two is (subst (λ (ks : List Kind). AddsEntry ks last name prefix two) kinds there))
    next_agrees script (n, Said.TableRem name prefix) =
        let all = declared_kinds old.model.tables in
        at_line (RemovesEntry all old name prefix) (RemovesEntry (declared_kinds last.model.tables) last name prefix) script n
        (λ one two is there. entries_agree_removed all name prefix old last same one two is (subst (λ (ks : List Kind). RemovesEntry ks last name prefix two) kinds there))
    next_agrees script (n, line) = λ one two is there. rw (is, there) same

  grown : (test : Bool) (made also : List Configuration) (one two : Configuration) → AllZip AreOneConfiguration made also → AreOneConfiguration one two
      → AllZip AreOneConfiguration (if test then made ++ one ∷ [] else made) (if test then also ++ two ∷ [] else also)
  grown true made also one two all same = zip_append AreOneConfiguration made (one ∷ []) also (two ∷ []) all (same, tt)
  grown false made also one two all same = all

  pub configurations_agree : (script : List ℕ) (lines : List (ℕ × ScriptLine)) (made also : List Configuration) (old last : Configuration) → AllZip AreOneConfiguration made also
      → AreOneConfiguration old last → Agree (AllZip AreOneConfiguration) (MakesConfigurations (told_files tree) (told_files tree) ifaces script lines made old)
      (MakesConfigurations (told_files tree) (told_files tree) ifaces script lines also last)
  configurations_agree script [] made also old last all same = λ one two is there. rw (is, there) all
  configurations_agree script (line ∷ lines) made also old last all same =
      one_behind AreOneConfiguration (AllZip AreOneConfiguration) EndAlike (MakesNext (told_files tree) (told_files tree) ifaces script old line)
      (MakesNext (told_files tree) (told_files tree) ifaces script last line) _ _ (next_agrees old last same script line)
      (λ a b _ _ next. configurations_agree script lines (if makes_change line.1 then made ++ a ∷ [] else made) (if makes_change line.1 then also ++ b ∷ [] else also) a b
      (grown (makes_change line.1) made also a b all next) next)
