-- What a script asks of a run: the interfaces that its captures name, and its phases with their packets and commands.
use Rattle.std.specs.Prelude.{ℕ, ◌+◌, ◌-◌, min, Bool, true, false, ◌==◌, if◌then◌else◌, Some, None, List, [], ◌∷◌, ◌++◌, count_by, map}
use Rattle.std.specs.List.{list_any}
use Rattle.npf_types.specs.declared.name.Name.{Name}
use Rattle.npf_model.specs.declared.iface.Iface.{Iface}
use Rattle.npf_model.specs.Numbering.{is_named}
use Rattle.npf_ctl_script.specs.declared.script.ScriptLine.{ScriptLine}
use Rattle.npf_ctl_script.specs.declared.script.ScriptLine.TheVariants as Line
use Rattle.npf_traffic.specs.declared.phase.Command.{Command}
use Rattle.npf_traffic.specs.declared.phase.Command.TheVariants.{Publish, Expire}
use Rattle.npf_traffic.specs.declared.phase.Phase.{Phase}

-- the lines of a script without their numbers
abbrev pub unnumbered : List (ℕ × ScriptLine) → List ScriptLine
unnumbered lines = map (λ numbered. numbered.1) lines

abbrev pub names_capture : ScriptLine → Bool
names_capture (Line.Capture name dir file) = true
names_capture _ = false

abbrev pub begins_phase : ScriptLine → Bool
begins_phase Line.Phase = true
begins_phase _ = false

-- the line makes the next configuration
abbrev pub makes_change : ScriptLine → Bool
makes_change (Line.Reload file) = true
makes_change (Line.RuleAdd name text) = true
makes_change (Line.RuleRem name id) = true
makes_change (Line.RuleFlush name) = true
makes_change (Line.TableAdd name prefix) = true
makes_change (Line.TableRem name prefix) = true
makes_change _ = false

abbrev pub captures_in : List ScriptLine → ℕ
captures_in lines = count_by names_capture lines

abbrev pub phases_in : List ScriptLine → ℕ
phases_in lines = count_by begins_phase lines

abbrev pub changes_in : List ScriptLine → ℕ
changes_in lines = count_by makes_change lines

-- the interfaces and, behind them, one of this name without addresses, unless it is among them
abbrev pub with_interface : Name → List Iface → List Iface
with_interface name ifaces = if list_any (is_named name) ifaces then ifaces else ifaces ++ record { name = name; addrs = [] } ∷ []

-- the interfaces of a run: those that are given, and then those that its captures name
abbrev pub run_interfaces : List Iface → List ScriptLine → List Iface
run_interfaces ifaces [] = ifaces
run_interfaces ifaces (Line.Capture name dir file ∷ lines) = run_interfaces (with_interface name ifaces) lines
run_interfaces ifaces (_ ∷ lines) = run_interfaces ifaces lines

-- the lines before the next phase
abbrev pub until_phase : List ScriptLine → List ScriptLine
until_phase [] = []
until_phase (Line.Phase ∷ lines) = []
until_phase (line ∷ lines) = line ∷ until_phase lines

-- the lines of each phase
abbrev pub phase_parts : List ScriptLine → List (List ScriptLine)
phase_parts [] = []
phase_parts (Line.Phase ∷ lines) = until_phase lines ∷ phase_parts lines
phase_parts (_ ∷ lines) = phase_parts lines

-- how many packets a phase with these lines has, where so many are left: as many as it says and there are, and none where it doesn't say
abbrev pub packets_wanted : ℕ → List ScriptLine → ℕ
packets_wanted left [] = 0
packets_wanted left (Line.Packets None ∷ lines) = left
packets_wanted left (Line.Packets (Some count) ∷ lines) = min count left
packets_wanted left (_ ∷ lines) = packets_wanted left lines

-- the commands of a phase with these lines, where so many changes were made before
abbrev pub phase_commands : ℕ → List ScriptLine → List Command
phase_commands made [] = []
phase_commands made (Line.Expire time ∷ lines) = Expire time ∷ phase_commands made lines
phase_commands made (line ∷ lines) = if makes_change line then Publish (made + 1) ∷ phase_commands (made + 1) lines else phase_commands made lines

-- The phases with these lines, where so many changes were made and so many packets are left. Packets that are left behind the last have a
-- phase of their own.
abbrev pub phases_from : ℕ → ℕ → List (List ScriptLine) → List Phase
phases_from made left [] = if left == 0 then [] else record { packets = left; commands = [] } ∷ []
phases_from made left (part ∷ parts) =
    record { packets = packets_wanted left part; commands = phase_commands made part }
    ∷ phases_from (made + changes_in part) (left - packets_wanted left part) parts

-- the phases of a run of so many packets
abbrev pub phases_of : List ScriptLine → ℕ → List Phase
phases_of lines packets = phases_from 0 packets (phase_parts lines)
