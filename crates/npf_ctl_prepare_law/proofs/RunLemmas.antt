-- What a run is prepared from is one.
use Rattle.std.{proofs.Common.{◌≡◌, ℕ, Option, Result, Ok, List, [], ◌∷◌, refl, sym, ap, subst}, specs.List.AllZip}
use Rattle.npf_types.specs.{declared.limits.TheConstants.MAX_CAPTURE_BYTES, Stages.◌andthen◌}
use Rattle.npf_parser.specs.Law.{OnePlace, OneTree, TreeOrHalt}
use Rattle.npf_pcap.specs.CaptureLaw.{CapturesHaveNoFault, OneCapture, OneFault}
use Rattle.npf_model.specs.{declared.iface.Iface.Iface, Configuration.Configuration, Numbering.numbered}
use Rattle.npf_outside.specs.Files.{Tree}
use Rattle.npf_config_changes.{proofs.LawLemmas.{one_after, one_told}, specs.ChangeLaws.{HasOneResult, OneAddition, OneFlush, OneRemoval}}
use Rattle.npf_traffic.specs.declared.{packet.Packet.Packet, phase.Phase.Phase}
use Rattle.npf_config.specs.Laws.{NeverBoth, OneMeaning}
use Rattle.npf_ctl_messages.specs.declared.fault.CommandFault.{CommandFault}
use Rattle.npf_config_law.{specs.{Answers.AreOne, Entries.AreOneConfiguration}, proofs.AnswerLemmas.one_behind}
use Rattle.npf_ctl_script.specs.{declared.script.ScriptLine.ScriptLine, Laws.{NoScriptIsRefused, OneScript}}
use Rattle.npf_ctl_schedule.specs.Schedule.{unnumbered}
use Rattle.npf_ctl_arrivals.specs.Arrivals.{Gathered, none_gathered}
use Rattle.npf_ctl_input.specs.{File.{ReadsFile, told_files}, Interfaces.ReadsInterfaces, Loads.LoadsFile, Source.{Source, ReadsSource, lines_of_source}}
use Rattle.npf_ctl_input.specs.declared.tap.NamedTap.{NamedTap}
use Rattle.npf_ctl_prepare.specs.{Captures.GathersCaptures, Configurations.MakesConfigurations}
use Rattle.npf_ctl_prepare.specs.Prepares.{KeepsScriptLimits, Plans, PreparesRun, PreparesSource, RunNames, RunPlan, Schedules, Sorts, numbered_by, sorted}
use Rattle.npf_ctl_prepare_law.{specs.Readings.{Agree, AreOnePlan, EndAlike}, proofs.{AgreeLemmas.behind_one, CaptureLemmas.one_gathered}}
use Rattle.npf_ctl_prepare_law.proofs.{InputLemmas.{files_agree, one_file, one_interfaces, sources_agree}, MakingLemmas.configurations_agree}
use Rattle.npf_ctl_prepare_law.proofs.OrderLemmas.{one_sorting}

limits_once : (given : List Iface) (lines : List ScriptLine) → HasOneResult (KeepsScriptLimits given lines)
limits_once given lines = one_after _ _ (one_told _) (λ _. one_after _ _ (one_told _) (λ _. one_after _ _ (one_told _) (λ _. one_after _ _ (one_told _) (λ _. one_told _))))

one_sorted : (gathered : Gathered) → HasOneResult (Sorts gathered)
one_sorted gathered _ _ (sorted {packets = packets} by_time) (sorted {packets = others} there) =
    ap Ok (one_sorting (λ packet. packet.time) gathered.packets packets others by_time.sorted there.sorted by_time.stable there.stable)

abbrev plan_of : List Iface → List Configuration → List Packet → List Phase → RunPlan
plan_of ifaces configs packets phases = record { ifaces = ifaces; configs = configs; packets = packets; phases = phases }

both_planned : (ifaces : List Iface) (configs others : List Configuration) → AllZip AreOneConfiguration configs others → (packets : List Packet) (phases : List Phase)
    (one other : Result RunPlan CommandFault) → one ≡ Ok (plan_of ifaces configs packets phases) → other ≡ Ok (plan_of ifaces others packets phases) →
    AreOne AreOnePlan EndAlike one other
both_planned ifaces configs others all packets phases one other is there =
    subst (λ (it : Result RunPlan CommandFault). AreOne AreOnePlan EndAlike it other) (sym is)
    (subst (λ (it : Result RunPlan CommandFault). AreOne AreOnePlan EndAlike (Ok (plan_of ifaces configs packets phases)) it) (sym there)
    (record { ifaces = refl; configs = all; packets = refl; phases = refl }))

plans_agree : (every : Option ℕ) (ifaces : List Iface) (configs others : List Configuration) (gathered : Gathered) (lines : List ScriptLine) →
    AllZip AreOneConfiguration configs others → Agree AreOnePlan (Plans every ifaces configs gathered lines) (Plans every ifaces others gathered lines)
plans_agree every ifaces configs others gathered lines all =
    behind_one AreOnePlan (Sorts gathered) _ _ (one_sorted gathered)
    (λ packets. behind_one AreOnePlan (Schedules every lines packets) _ _ (one_after _ _ (one_told _) (λ _. one_told _))
    (λ phases one other is there. both_planned ifaces configs others all packets phases one other is there))

numbered_same : (ifaces : List Iface) (one other : Configuration) → AreOneConfiguration one other → AreOneConfiguration (numbered_by ifaces one) (numbered_by ifaces other)
numbered_same ifaces one other same = record { model = ap (numbered ifaces) same.model; tables = same.tables }

module _ (one_tree : OneTree) (tree_or_halt : TreeOrHalt) (one_place : OnePlace) (one_meaning : OneMeaning) (never_both : NeverBoth)
    (one_addition : OneAddition) (one_removal : OneRemoval) (one_flush : OneFlush) (one_script : OneScript) (none_refused : NoScriptIsRefused)
    (one_capture : OneCapture) (fine : CapturesHaveNoFault) (one_fault : OneFault) (tree : Tree) where
  module _ (tap : Option NamedTap) (every : Option ℕ) (script : List ℕ) (given : List Iface) (one other : Configuration) (same : AreOneConfiguration one other) (source : Source) where
    made_agree : (ifaces : List Iface) (gathered : Gathered) → Agree AreOnePlan
        (MakesConfigurations (told_files tree) (told_files tree) ifaces script (lines_of_source tap script source) (numbered_by ifaces one ∷ []) (numbered_by ifaces one)
        andthen λ configs. Plans every ifaces configs gathered (unnumbered (lines_of_source tap script source)))
        (MakesConfigurations (told_files tree) (told_files tree) ifaces script (lines_of_source tap script source) (numbered_by ifaces other ∷ []) (numbered_by ifaces other)
        andthen λ configs. Plans every ifaces configs gathered (unnumbered (lines_of_source tap script source)))
    made_agree ifaces gathered =
        let first = numbered_same ifaces one other same in
        one_behind (AllZip AreOneConfiguration) AreOnePlan EndAlike _ _ _ _
        (configurations_agree one_tree tree_or_halt one_place one_meaning never_both one_addition one_removal one_flush tree ifaces script (lines_of_source tap script source)
        (numbered_by ifaces one ∷ []) (numbered_by ifaces other ∷ []) (numbered_by ifaces one) (numbered_by ifaces other) (first, tt) first)
        (λ configs others _ _ all. plans_agree every ifaces configs others gathered (unnumbered (lines_of_source tap script source)) all)

    sources_prepared : Agree AreOnePlan (PreparesSource (told_files tree) (told_files tree) tap every script given one source)
        (PreparesSource (told_files tree) (told_files tree) tap every script given other source)
    sources_prepared =
        let lines = unnumbered (lines_of_source tap script source) in
        behind_one AreOnePlan (KeepsScriptLimits given lines) _ _ (limits_once given lines)
        (λ ifaces. behind_one AreOnePlan (GathersCaptures (told_files tree) (told_files tree) source ifaces lines none_gathered) _ _
        (one_gathered one_capture fine one_fault tree source ifaces lines none_gathered) (made_agree ifaces))

  pub runs_agree : (names : RunNames) → Agree AreOnePlan (PreparesRun (told_files tree) (told_files tree) names) (PreparesRun (told_files tree) (told_files tree) names)
  runs_agree names =
      behind_one AreOnePlan (ReadsInterfaces (told_files tree) (told_files tree) names.ifaces) _ _ (one_interfaces tree names.ifaces)
      (λ given. one_behind AreOneConfiguration AreOnePlan EndAlike (LoadsFile (told_files tree) (told_files tree) given names.conf)
      (LoadsFile (told_files tree) (told_files tree) given names.conf) _ _ (files_agree one_tree tree_or_halt one_place one_meaning never_both tree given names.conf)
      (λ one other _ _ same. behind_one AreOnePlan (ReadsFile (told_files tree) (told_files tree) names.script MAX_CAPTURE_BYTES) _ _ (one_file tree names.script MAX_CAPTURE_BYTES)
      (λ bytes. one_behind (λ (a b : Source). a ≡ b) AreOnePlan EndAlike (ReadsSource names.tap names.script bytes) (ReadsSource names.tap names.script bytes) _ _
      (sources_agree one_script none_refused names.script bytes names.tap)
      (λ source last _ _ sources. subst (λ (s : Source). Agree AreOnePlan (PreparesSource (told_files tree) (told_files tree) names.tap names.every names.script given one source)
      (PreparesSource (told_files tree) (told_files tree) names.tap names.every names.script given other s)) sources
      (sources_prepared names.tap names.every names.script given one other same source)))))
