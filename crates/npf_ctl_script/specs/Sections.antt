-- Which command may stand where: all captures before the first phase, all other commands behind one, and `packets` once a phase at most.
use Rattle.std.specs.Prelude.{ℕ, Bool, true, false, if◌then◌else◌, ◌&&◌, ◌||◌, not, List, [], ◌∷◌}
use Rattle.std.specs.List.{list_any}
use Rattle.npf_ctl_script.specs.declared.command.LineCommand.{LineCommand}
use Rattle.npf_ctl_script.specs.declared.command.LineCommand.TheVariants as Commands
use Rattle.npf_ctl_script.specs.declared.section.Section.{Section}
use Rattle.npf_ctl_script.specs.declared.section.Section.TheVariants.{Captures, Phase, PhaseWithPackets}

abbrev pub is_phase : LineCommand → Bool
is_phase Commands.Phase = true
is_phase _ = false

abbrev pub is_packets : LineCommand → Bool
is_packets Commands.Packets = true
is_packets _ = false

-- one of the commands begins a phase
abbrev pub has_phase : List LineCommand → Bool
has_phase commands = list_any is_phase commands

-- `packets` is one of the commands, and no phase begins behind it
abbrev pub ends_with_packets : List LineCommand → Bool
ends_with_packets [] = false
ends_with_packets (command ∷ more) = (is_packets command && not (has_phase more)) || ends_with_packets more

-- where a script stands behind these commands
abbrev pub section_behind : List LineCommand → Section
section_behind commands = if has_phase commands then (if ends_with_packets commands then PhaseWithPackets else Phase) else Captures

-- whether the command may come next
abbrev pub takes : Section → LineCommand → Bool
takes Captures Commands.Capture = true
takes Captures Commands.Phase = true
takes Captures _ = false
takes Phase Commands.Capture = false
takes Phase _ = true
takes PhaseWithPackets Commands.Capture = false
takes PhaseWithPackets Commands.Packets = false
takes PhaseWithPackets _ = true

-- where it stands behind one command more that was taken
abbrev pub after_command : Section → LineCommand → Section
after_command section Commands.Phase = Phase
after_command section Commands.Packets = PhaseWithPackets
after_command section _ = section
