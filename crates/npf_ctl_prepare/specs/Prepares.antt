-- What a run is prepared from, in the order of the work: the file of interfaces, the configuration, the script or a capture alone, the limits,
-- the captures, the changes of the configuration, and the limit on expiries. The first fault that is met ends it.
-- READ 2 of docs/READING.md
use Rattle.std.specs.Prelude.{ℕ, nat_le, Option, Some, None, Result, Ok, List, [], ◌∷◌, length}
use Rattle.npf_types.specs.declared.limits.TheConstants.{MAX_CAPTURE_BYTES}
use Rattle.npf_types.specs.Stages.{Stage, ◌andthen◌, gives, asks_that}
use Rattle.npf_model.specs.declared.iface.Iface.{Iface}
use Rattle.npf_model.specs.Configuration.{Configuration}
use Rattle.npf_model.specs.Numbering.{numbered}
use Rattle.npf_outside.specs.Files.{FilesMoment}
use Rattle.npf_traffic.specs.declared.packet.Packet.{Packet}
use Rattle.npf_traffic.specs.declared.phase.Phase.{Phase}
use Rattle.npf_ctl_script.specs.declared.script.ScriptLine.{ScriptLine}
use Rattle.npf_ctl_schedule.specs.Schedule.{captures_in, changes_in, phases_in, phases_of, run_interfaces, unnumbered}
use Rattle.npf_ctl_aging.specs.Aging.{aged, count_ticks}
use Rattle.npf_ctl_arrivals.specs.Arrivals.{AreByTime, Gathered, none_gathered}
use Rattle.npf_ctl_messages.specs.declared.fault.CommandFault.{CommandFault}
use Rattle.npf_ctl_messages.specs.declared.fault.CommandFault.TheVariants.{Many}
use Rattle.npf_ctl_messages.specs.declared.fault.Quantity.{Quantity}
use Rattle.npf_ctl_messages.specs.declared.fault.Quantity.TheVariants.{Captures, Phases, Changes, Interfaces, Expiries}
use Rattle.npf_ctl_messages.specs.Message.{most_of}
use Rattle.npf_ctl_input.specs.File.{ReadsFile}
use Rattle.npf_ctl_input.specs.Interfaces.{ReadsInterfaces}
use Rattle.npf_ctl_input.specs.Loads.{LoadsFile}
use Rattle.npf_ctl_input.specs.Source.{Source, ReadsSource, lines_of_source}
use Rattle.npf_ctl_input.specs.declared.tap.NamedTap.{NamedTap}
use Rattle.npf_ctl_prepare.specs.Captures.{GathersCaptures}
use Rattle.npf_ctl_prepare.specs.Configurations.{MakesConfigurations}

-- the files that the words of a run name: the configuration, the script or a capture alone, and the interfaces, if any; where the capture was
-- recorded, if that is told; and at multiples of how many seconds connections expire, if they do
pub record RunNames : Type 0 where
  pub conf : List ℕ
  pub script : List ℕ
  pub ifaces : Option (List ℕ)
  pub tap : Option NamedTap
  pub every : Option ℕ

-- a run that can be played: its interfaces, its configurations by their numbers, its packets by time, and its phases
pub record RunPlan : Type 0 where
  pub ifaces : List Iface
  pub configs : List Configuration
  pub packets : List Packet
  pub phases : List Phase

-- there are no more than a run may have
abbrev pub HasFew : Quantity → ℕ → Stage (Unit {0}) CommandFault
HasFew what count = asks_that (nat_le count (most_of what)) (Many what count)

-- the script's limits are kept, and these are the interfaces of the run, where those are given
abbrev pub KeepsScriptLimits : List Iface → List ScriptLine → Stage (List Iface) CommandFault
KeepsScriptLimits given lines =
    let ifaces = run_interfaces given lines in
    HasFew Captures (captures_in lines) andthen λ _.
    HasFew Phases (phases_in lines) andthen λ _.
    HasFew Changes (changes_in lines) andthen λ _.
    HasFew Interfaces (length ifaces) andthen λ _. gives ifaces

-- the configuration with the numbers of the run's interfaces
abbrev pub numbered_by : List Iface → Configuration → Configuration
numbered_by ifaces config = record config { model = numbered ifaces config.model }

-- the packets by time
pub data Sorts (gathered : Gathered) : Result (List Packet) CommandFault → Type 0 where
  sorted : {packets : List Packet} → AreByTime gathered.packets packets → Sorts gathered (Ok packets)

-- how many expiries stand between these packets, if connections expire at multiples of so many seconds
abbrev pub expiries : Option ℕ → List Packet → ℕ
expiries None packets = 0
expiries (Some seconds) packets = count_ticks seconds packets

-- the phases of a run of these packets
abbrev pub run_phases : Option ℕ → List ScriptLine → List Packet → List Phase
run_phases None lines packets = phases_of lines (length packets)
run_phases (Some seconds) lines packets = aged seconds packets (phases_of lines (length packets))

-- the same, where there aren't more expiries than a run may have
abbrev pub Schedules : Option ℕ → List ScriptLine → List Packet → Stage (List Phase) CommandFault
Schedules every lines packets = HasFew Expiries (expiries every packets) andthen λ _. gives (run_phases every lines packets)

-- the plan of these parts
abbrev pub Plans : Option ℕ → List Iface → List Configuration → Gathered → List ScriptLine → Stage RunPlan CommandFault
Plans every ifaces configs gathered lines =
    Sorts gathered andthen λ packets.
    Schedules every lines packets andthen λ phases.
    gives (record { ifaces = ifaces; configs = configs; packets = packets; phases = phases })

module _ (before after : FilesMoment) where
  -- the run of this script, with these interfaces and this first configuration
  abbrev pub PreparesSource : Option NamedTap → Option ℕ → List ℕ → List Iface → Configuration → Source → Stage RunPlan CommandFault
  PreparesSource tap every script given first source =
      let numbered_lines = lines_of_source tap script source in
      let lines = unnumbered numbered_lines in
      KeepsScriptLimits given lines andthen λ ifaces.
      GathersCaptures before after source ifaces lines none_gathered andthen λ gathered.
      let config = numbered_by ifaces first in
      MakesConfigurations before after ifaces script numbered_lines (config ∷ []) config andthen λ configs.
      Plans every ifaces configs gathered lines

  abbrev pub PreparesRun : RunNames → Stage RunPlan CommandFault
  PreparesRun names =
      ReadsInterfaces before after names.ifaces andthen λ given.
      LoadsFile before after given names.conf andthen λ first.
      ReadsFile before after names.script MAX_CAPTURE_BYTES andthen λ bytes.
      ReadsSource names.tap names.script bytes andthen λ source. PreparesSource names.tap names.every names.script given first source
