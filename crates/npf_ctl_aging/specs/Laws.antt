-- What follows of what the parts of phases are.
use Rattle.std.specs.Prelude.{◌≡◌, ◌≤◌, ◌<◌, ◌+◌, ◌*◌, ℕ, List, length}
use Rattle.npf_traffic.specs.declared.packet.Packet.{Packet}
use Rattle.npf_traffic.specs.declared.phase.Phase.{Phase}
use Rattle.npf_traffic.specs.Phases.{AreInOrder, packets_in}
use Rattle.npf_ctl_aging.specs.Aging.{aged, count_ticks, last_tick, period}

-- the last multiple that isn't after a time: the next one is
abbrev pub LastTickIsLast : Type 0
LastTickIsLast =
    (seconds time : ℕ) → 0 < seconds → (last_tick seconds time ≤ time) × (time < last_tick seconds time + period seconds)

-- phases of all packets of a run have, parted, as many packets as before
abbrev pub PacketsStay : Type 0
PacketsStay =
    (seconds : ℕ) (packets : List Packet) (phases : List Phase) →
    packets_in phases ≡ length packets → packets_in (aged seconds packets phases) ≡ length packets

-- phases that publish configurations in order do so parted
abbrev pub PublicationsStayInOrder : Type 0
PublicationsStayInOrder =
    (seconds count : ℕ) (packets : List Packet) (phases : List Phase) →
    AreInOrder count phases → AreInOrder count (aged seconds packets phases)

-- there are two parts more for each packet that follows a multiple
abbrev pub PartsAreCounted : Type 0
PartsAreCounted =
    (seconds : ℕ) (packets : List Packet) (phases : List Phase) →
    packets_in phases ≡ length packets → length (aged seconds packets phases) ≡ length phases + 2 * count_ticks seconds packets
