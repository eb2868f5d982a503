-- The names of a run's files, its script and what is prepared of it, as contracts see them.
use Rattle.std.specs.Prelude.{ℕ, Option, Some, None, List, map}
use Rattle.std.specs.Option.{option_map}
use Rattle.npf_ruleset.specs.Configuration.{configuration}
use Rattle.npf_ctl_script.specs.declared.script.ScriptLine.{ScriptLine}
use Rattle.npf_ctl_input.specs.Source.{Source, Alone, Scripted}
use Rattle.npf_ctl_prepare.specs.declared.orders.Orders.{Orders}
use Rattle.npf_ctl_prepare.specs.declared.prepare.Prepared.{Prepared}
use Rattle.npf_ctl_prepare.specs.declared.prepare.RunFiles.{RunFiles}
use Rattle.npf_ctl_prepare.specs.Prepares.{RunPlan, RunNames}

abbrev pub names_of : RunFiles → RunNames
names_of names = record { conf = names.conf.now; script = names.script.now; ifaces = option_map (λ name. name.now) names.ifaces; tap = names.tap; every = names.every }

-- the second file: the bytes of a capture alone, or else the lines of a script
abbrev pub source_with : Option (List ℕ) → List (ℕ × ScriptLine) → Source
source_with None lines = Scripted lines
source_with (Some bytes) lines = Alone bytes

abbrev pub source_ordered : Orders → Source
source_ordered orders = source_with (option_map (λ bytes. bytes.items) orders.alone) orders.lines

abbrev pub run_plan_of : Prepared → RunPlan
run_plan_of prepared =
    record { ifaces = prepared.ifaces.list; configs = map configuration prepared.configs.items; packets = prepared.packets.items; phases = prepared.phases.items }
