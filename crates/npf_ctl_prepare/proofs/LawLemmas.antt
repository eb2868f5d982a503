-- A run over told contents, of which no read fails, is prepared from the contents alone.
use Rattle.std.proofs.Common.{◌≡◌, ℕ, cond, Option, Some, Result, List, [], ◌∷◌, ◌++◌}
use Rattle.npf_types.specs.{Stages.{Stage, ◌andthen◌, stops, goes_on}, declared.limits.TheConstants.MAX_CAPTURE_BYTES}
use Rattle.npf_model.specs.{declared.iface.Iface.Iface, Configuration.Configuration}
use Rattle.npf_outside.specs.Files.{FilesMoment, Tree}
use Rattle.npf_ctl_script.specs.declared.script.ScriptLine.{ScriptLine}
use Rattle.npf_ctl_script.specs.declared.script.ScriptLine.TheVariants as Said
use Rattle.npf_ctl_schedule.specs.Schedule.{makes_change, unnumbered}
use Rattle.npf_ctl_arrivals.specs.Arrivals.{Gathered, GathersCapture, none_gathered}
use Rattle.npf_ctl_messages.specs.declared.fault.CommandFault.{CommandFault}
use Rattle.npf_ctl_input.specs.{File.{ReadsFile, ReadsWell, told_files}, Interfaces.ReadsInterfaces}
use Rattle.npf_ctl_input.specs.{Laws.{ConfigurationsAreOfContents, FilesAreOfContents, InterfacesAreOfContents}, Loads.LoadsFile}
use Rattle.npf_ctl_input.{specs.Source.{Source, Alone, Scripted, ReadsSource, lines_of_source}, proofs.ReadingLemmas.meets_told}
use Rattle.npf_ctl_input.specs.declared.tap.NamedTap.{NamedTap}
use Rattle.npf_ctl_prepare.specs.{Captures.{GathersCaptures, GathersLine, ReadsCaptureFile, interface_id}, Configurations.{MakesConfigurations, MakesNext}}
use Rattle.npf_ctl_prepare.specs.Prepares.{KeepsScriptLimits, RunPlan, Plans, PreparesRun, PreparesSource, RunNames, numbered_by}
use Rattle.npf_ctl_prepare.proofs.ReloadingLemmas.{reload_lasts}

andthen_lasts :
    {A B F : Type 0} (first wider : Stage A F) (next then_ : A → Stage B F) → ((result : Result A F) → first result → wider result) →
    ((a : A) (result : Result B F) → next a result → then_ a result) → (result : Result B F) → (first andthen next) result → (wider andthen then_) result
andthen_lasts first wider next then_ one two _ (stops is) = stops (one _ is)
andthen_lasts first wider next then_ one two result (goes_on is more) = goes_on (one _ is) (two _ result more)

module _ (tree : Tree) (before after : FilesMoment) (told : before.contents ≡ Some tree) (well : ReadsWell before after) (files : FilesAreOfContents)
    (interfaces : InterfacesAreOfContents) (configurations : ConfigurationsAreOfContents) where
  abbrev alone : FilesMoment
  alone = told_files tree

  module _ (source : Source) (ifaces : List Iface) where
    file_lasts : (other : Source) (file : List ℕ) (result : Result (List ℕ) CommandFault) →
        ReadsCaptureFile before after source ifaces other file result → ReadsCaptureFile alone alone source ifaces other file result
    file_lasts (Alone bytes) file result is = is
    file_lasts (Scripted lines) file result is = files file MAX_CAPTURE_BYTES tree before after result told well is

    line_lasts : (line : ScriptLine) (gathered : Gathered) (result : Result Gathered CommandFault) →
        GathersLine before after source ifaces line gathered result → GathersLine alone alone source ifaces line gathered result
    line_lasts (Said.Capture name dir file) gathered result is =
        andthen_lasts (ReadsCaptureFile before after source ifaces source file) (ReadsCaptureFile alone alone source ifaces source file)
        (GathersCapture gathered file (interface_id ifaces name) dir) (GathersCapture gathered file (interface_id ifaces name) dir)
        (file_lasts source file) (λ bytes result more. more) result is
    line_lasts line gathered result is = is

    captures_last : (lines : List ScriptLine) (gathered : Gathered) (result : Result Gathered CommandFault) →
        GathersCaptures before after source ifaces lines gathered result → GathersCaptures alone alone source ifaces lines gathered result
    captures_last [] gathered result is = is
    captures_last (line ∷ lines) gathered result is =
        andthen_lasts (GathersLine before after source ifaces line gathered) (GathersLine alone alone source ifaces line gathered)
        (GathersCaptures before after source ifaces lines) (GathersCaptures alone alone source ifaces lines)
        (line_lasts line gathered) (captures_last lines) result is

  module _ (ifaces : List Iface) (script : List ℕ) where
    next_lasts : (old : Configuration) (line : ℕ × ScriptLine) (result : Result Configuration CommandFault) →
        MakesNext before after ifaces script old line result → MakesNext alone alone ifaces script old line result
    next_lasts old (n, Said.Reload file) result is = reload_lasts before after alone alone (meets_told tree before after told well) ifaces old file result is
    next_lasts old (n, line) result is = is

    configs_last : (lines : List (ℕ × ScriptLine)) (made : List Configuration) (last : Configuration) (result : Result (List Configuration) CommandFault) →
        MakesConfigurations before after ifaces script lines made last result → MakesConfigurations alone alone ifaces script lines made last result
    configs_last [] made last result is = is
    configs_last (line ∷ lines) made last result is =
        andthen_lasts (MakesNext before after ifaces script last line) (MakesNext alone alone ifaces script last line)
        (λ next. MakesConfigurations before after ifaces script lines (cond (makes_change line.1) (made ++ next ∷ []) made) next)
        (λ next. MakesConfigurations alone alone ifaces script lines (cond (makes_change line.1) (made ++ next ∷ []) made) next)
        (next_lasts last line) (λ next. configs_last lines (cond (makes_change line.1) (made ++ next ∷ []) made) next) result is

  source_lasts : (tap : Option NamedTap) (every : Option ℕ) (script : List ℕ) (given : List Iface) (first : Configuration) (source : Source) (result : Result RunPlan CommandFault) →
      PreparesSource before after tap every script given first source result → PreparesSource alone alone tap every script given first source result
  source_lasts tap every script given first source =
      let numbered_lines = lines_of_source tap script source in
      let lines = unnumbered numbered_lines in
      let making : FilesMoment → FilesMoment → List Iface → Gathered → Stage RunPlan CommandFault =
      λ start end ifaces gathered.
      MakesConfigurations start end ifaces script numbered_lines (numbered_by ifaces first ∷ []) (numbered_by ifaces first) andthen λ configs. Plans every ifaces configs gathered lines in
      let gathering : FilesMoment → FilesMoment → List Iface → Stage RunPlan CommandFault =
      λ start end ifaces. GathersCaptures start end source ifaces lines none_gathered andthen making start end ifaces in
      andthen_lasts (KeepsScriptLimits given lines) (KeepsScriptLimits given lines) (gathering before after) (gathering alone alone) (λ result is. is)
      (λ ifaces. andthen_lasts (GathersCaptures before after source ifaces lines none_gathered) (GathersCaptures alone alone source ifaces lines none_gathered)
      (making before after ifaces) (making alone alone ifaces) (captures_last source ifaces lines none_gathered)
      (λ gathered. andthen_lasts (MakesConfigurations before after ifaces script numbered_lines (numbered_by ifaces first ∷ []) (numbered_by ifaces first))
      (MakesConfigurations alone alone ifaces script numbered_lines (numbered_by ifaces first ∷ []) (numbered_by ifaces first))
      (λ configs. Plans every ifaces configs gathered lines) (λ configs. Plans every ifaces configs gathered lines)
      (configs_last ifaces script numbered_lines (numbered_by ifaces first ∷ []) (numbered_by ifaces first)) (λ configs result is. is)))

  pub run_lasts : (names : RunNames) (result : Result RunPlan CommandFault) → PreparesRun before after names result → PreparesRun alone alone names result
  run_lasts names =
      let sourced : FilesMoment → FilesMoment → List Iface → Configuration → List ℕ → Stage RunPlan CommandFault =
      λ start end given first bytes. ReadsSource names.tap names.script bytes andthen λ source. PreparesSource start end names.tap names.every names.script given first source in
      let read : FilesMoment → FilesMoment → List Iface → Configuration → Stage RunPlan CommandFault =
      λ start end given first. ReadsFile start end names.script MAX_CAPTURE_BYTES andthen sourced start end given first in
      let loaded : FilesMoment → FilesMoment → List Iface → Stage RunPlan CommandFault =
      λ start end given. LoadsFile start end given names.conf andthen read start end given in
      andthen_lasts (ReadsInterfaces before after names.ifaces) (ReadsInterfaces alone alone names.ifaces) (loaded before after) (loaded alone alone)
      (λ result. interfaces names.ifaces tree before after result told well)
      (λ given. andthen_lasts (LoadsFile before after given names.conf) (LoadsFile alone alone given names.conf) (read before after given) (read alone alone given)
      (λ result. configurations given names.conf tree before after result told well)
      (λ first. andthen_lasts (ReadsFile before after names.script MAX_CAPTURE_BYTES) (ReadsFile alone alone names.script MAX_CAPTURE_BYTES)
      (sourced before after given first) (sourced alone alone given first)
      (λ result. files names.script MAX_CAPTURE_BYTES tree before after result told well)
      (λ bytes. andthen_lasts (ReadsSource names.tap names.script bytes) (ReadsSource names.tap names.script bytes)
      (PreparesSource before after names.tap names.every names.script given first) (PreparesSource alone alone names.tap names.every names.script given first)
      (λ result is. is) (source_lasts names.tap names.every names.script given first))))
