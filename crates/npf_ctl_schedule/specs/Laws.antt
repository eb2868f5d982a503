-- What follows of what the phases of a run are.
use Rattle.std.specs.Prelude.{◌≡◌, ◌+◌, ℕ, List}
use Rattle.npf_ctl_script.specs.declared.script.ScriptLine.{ScriptLine}
use Rattle.npf_traffic.specs.Phases.{AreInOrder, packets_in}
use Rattle.npf_ctl_schedule.specs.Schedule.{changes_in, phases_of}

-- the phases of a run have all of its packets
abbrev pub PacketsAddUp : Type 0
PacketsAddUp = (lines : List ScriptLine) (packets : ℕ) → packets_in (phases_of lines packets) ≡ packets

-- they publish the configurations behind the first, of which there is one for each change, in order
abbrev pub PublicationsAreInOrder : Type 0
PublicationsAreInOrder = (lines : List ScriptLine) (packets : ℕ) → AreInOrder (1 + changes_in lines) (phases_of lines packets)
