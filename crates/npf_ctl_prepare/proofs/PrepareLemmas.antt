-- A run is prepared stage by stage.
use Rattle.std.proofs.Common.{◌≡◌, ℕ, Option, Result, Ok, Err, List, [], ◌∷◌, refl, subst}
use Rattle.npf_types.specs.{declared.limits.TheConstants.MAX_CAPTURE_BYTES, Stages.{Stage, ◌andthen◌, stops, goes_on}}
use Rattle.npf_model.specs.{declared.iface.Iface.Iface, Configuration.Configuration}
use Rattle.npf_outside.specs.Files.{FilesMoment}
use Rattle.npf_ctl_arrivals.specs.Arrivals.{AreByTime, Gathered, none_gathered}
use Rattle.npf_ctl_schedule.specs.Schedule.{unnumbered}
use Rattle.npf_ctl_script.specs.declared.script.ScriptLine.{ScriptLine}
use Rattle.npf_traffic.specs.declared.{packet.Packet.Packet, phase.Phase.Phase}
use Rattle.npf_ctl_messages.specs.declared.fault.CommandFault.{CommandFault}
use Rattle.npf_ctl_input.specs.{File.ReadsFile, Interfaces.ReadsInterfaces, Loads.LoadsFile, Source.{Source, ReadsSource, lines_of_source}}
use Rattle.npf_ctl_input.specs.declared.tap.NamedTap.{NamedTap}
use Rattle.npf_ctl_input.{specs.Unless.{IfTold, UnlessMemory}, proofs.UnlessLemmas.{unless_lasts, told_lasts}}
use Rattle.npf_ctl_prepare.specs.{Captures.GathersCaptures, Configurations.MakesConfigurations}
use Rattle.npf_ctl_prepare.specs.Prepares.{KeepsScriptLimits, RunPlan, Plans, Schedules, sorted, PreparesRun, PreparesSource, RunNames, numbered_by}

-- the stage ends with a fault, unless memory ran out
abbrev pub Ends : {A : Type 0} → Stage A CommandFault → CommandFault → Type 0
Ends stage fault = IfTold (λ other. stage (Err other)) fault

module _ (before after : FilesMoment) (tap : Option NamedTap) (every : Option ℕ) (script : List ℕ) (given : List Iface) (first : Configuration)
    (source : Source) (numbered_lines : List (ℕ × ScriptLine))
    (lines_are : numbered_lines ≡ lines_of_source tap script source) where
  abbrev Prepares : Result RunPlan CommandFault → Type 0
  Prepares = PreparesSource before after tap every script given first source

  abbrev With : List (ℕ × ScriptLine) → Stage RunPlan CommandFault
  With lines =
      KeepsScriptLimits given (unnumbered lines) andthen λ ifaces.
      GathersCaptures before after source ifaces (unnumbered lines) none_gathered andthen λ gathered.
      MakesConfigurations before after ifaces script lines (numbered_by ifaces first ∷ []) (numbered_by ifaces first) andthen λ configs.
      Plans every ifaces configs gathered (unnumbered lines)

  here : (result : Result RunPlan CommandFault) → With numbered_lines result → Prepares result
  here result is = subst (λ (lines : List (ℕ × ScriptLine)). With lines result) lines_are is

  pub limits_end : (fault : CommandFault) → Ends (KeepsScriptLimits given (unnumbered numbered_lines)) fault → Ends Prepares fault
  limits_end fault is = told_lasts (λ other. KeepsScriptLimits given (unnumbered numbered_lines) (Err other)) (λ other. Prepares (Err other))
      (λ other ends. here (Err other) (stops ends)) fault is

  module _ (ifaces : List Iface) (kept : KeepsScriptLimits given (unnumbered numbered_lines) (Ok ifaces)) where
    pub captures_end : (fault : CommandFault) → Ends (GathersCaptures before after source ifaces (unnumbered numbered_lines) none_gathered) fault → Ends Prepares fault
    captures_end fault is = told_lasts (λ other. GathersCaptures before after source ifaces (unnumbered numbered_lines) none_gathered (Err other)) (λ other. Prepares (Err other))
        (λ other ends. here (Err other) (goes_on kept (stops ends))) fault is

    module _ (gathered : Gathered) (gathers : GathersCaptures before after source ifaces (unnumbered numbered_lines) none_gathered (Ok gathered)) where
      abbrev pub Making : Configuration → Stage (List Configuration) CommandFault
      Making config = MakesConfigurations before after ifaces script numbered_lines (config ∷ []) config

      module _ (config : Configuration) (numbered : config ≡ numbered_by ifaces first) where
        pub making_end : (fault : CommandFault) → Ends (Making config) fault → Ends Prepares fault
        making_end fault is = told_lasts (λ other. Making config (Err other)) (λ other. Prepares (Err other))
            (λ other ends. here (Err other) (goes_on kept (goes_on gathers (stops (subst (λ (c : Configuration). Making c (Err other)) numbered ends))))) fault is

        module _ (configs : List Configuration) (makes : Making config (Ok configs)) (packets : List Packet) (by_time : AreByTime gathered.packets packets) where
          made : MakesConfigurations before after ifaces script numbered_lines (numbered_by ifaces first ∷ []) (numbered_by ifaces first) (Ok configs)
          made = subst (λ (c : Configuration). Making c (Ok configs)) numbered makes

          pub schedule_ends : (fault : CommandFault) → Ends (Schedules every (unnumbered numbered_lines) packets) fault → Ends Prepares fault
          schedule_ends fault is = told_lasts (λ other. Schedules every (unnumbered numbered_lines) packets (Err other)) (λ other. Prepares (Err other))
              (λ other ends. here (Err other) (goes_on kept (goes_on gathers (goes_on made (goes_on (sorted by_time) (stops ends)))))) fault is

          pub planned_at_end : (phases : List Phase) → Schedules every (unnumbered numbered_lines) packets (Ok phases) →
              Prepares (Ok (record { ifaces = ifaces; configs = configs; packets = packets; phases = phases }))
          planned_at_end phases schedules = here (Ok (record { ifaces = ifaces; configs = configs; packets = packets; phases = phases }))
              (goes_on kept (goes_on gathers (goes_on made (goes_on (sorted by_time) (goes_on schedules refl)))))

module _ (before after : FilesMoment) (names : RunNames) where
  abbrev Runs : Result RunPlan CommandFault → Type 0
  Runs = PreparesRun before after names

  pub interfaces_end : (fault : CommandFault) → Ends (ReadsInterfaces before after names.ifaces) fault → Ends Runs fault
  interfaces_end fault is = told_lasts (λ other. ReadsInterfaces before after names.ifaces (Err other)) (λ other. Runs (Err other)) (λ other ends. stops ends) fault is

  module _ (given : List Iface) (reads : ReadsInterfaces before after names.ifaces (Ok given)) where
    pub loading_end : (fault : CommandFault) → Ends (LoadsFile before after given names.conf) fault → Ends Runs fault
    loading_end fault is = told_lasts (λ other. LoadsFile before after given names.conf (Err other)) (λ other. Runs (Err other)) (λ other ends. goes_on reads (stops ends)) fault is

    module _ (first : Configuration) (loads : LoadsFile before after given names.conf (Ok first)) where
      pub file_ends : (fault : CommandFault) → Ends (ReadsFile before after names.script MAX_CAPTURE_BYTES) fault → Ends Runs fault
      file_ends fault is = told_lasts (λ other. ReadsFile before after names.script MAX_CAPTURE_BYTES (Err other)) (λ other. Runs (Err other))
          (λ other ends. goes_on reads (goes_on loads (stops ends))) fault is

      module _ (bytes : List ℕ) (file : ReadsFile before after names.script MAX_CAPTURE_BYTES (Ok bytes)) where
        pub source_ends : (fault : CommandFault) → Ends (ReadsSource names.tap names.script bytes) fault → Ends Runs fault
        source_ends fault is = told_lasts (λ other. ReadsSource names.tap names.script bytes (Err other)) (λ other. Runs (Err other))
            (λ other ends. goes_on reads (goes_on loads (goes_on file (stops ends)))) fault is

        pub run_goes_on : {A : Type 0} (value : A → RunPlan) (answer : Result A CommandFault) (source : Source) → ReadsSource names.tap names.script bytes (Ok source) →
            UnlessMemory value answer (PreparesSource before after names.tap names.every names.script given first source) → UnlessMemory value answer Runs
        run_goes_on value answer source is told =
            unless_lasts value (PreparesSource before after names.tap names.every names.script given first source) Runs
            (λ result then_is. goes_on reads (goes_on loads (goes_on file (goes_on is then_is)))) answer told
