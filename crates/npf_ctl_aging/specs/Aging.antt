-- The phases of a run whose connections age: which packets follow a multiple of a period, here called a tick, and how phases part in front of
-- these packets.
use Rattle.std.specs.Prelude.{ℕ, ◌+◌, ◌*◌, ◌/◌, nat_lt, if◌then◌else◌, is_some, Option, None, Some, List, [], ◌∷◌, ◌++◌, map, zip, take, drop, count_by}
use Rattle.npf_traffic.specs.declared.packet.Packet.{Packet}
use Rattle.npf_traffic.specs.declared.phase.Command.{Command}
use Rattle.npf_traffic.specs.declared.phase.Command.TheVariants.{Expire}
use Rattle.npf_traffic.specs.declared.phase.Phase.{Phase}

-- so many seconds in nanoseconds, in which a packet's time is
abbrev pub period : ℕ → ℕ
period seconds = seconds * 1000000000

-- the last multiple of the period that isn't after this time
abbrev pub last_tick : ℕ → ℕ → ℕ
last_tick seconds time = time / period seconds * period seconds

-- The multiple that a packet of this time follows, where the one before it, if there is one, has that time: the last one, where it is the
-- run's first packet or more periods have passed than at the time of the one before.
abbrev pub tick_behind : ℕ → Option ℕ → ℕ → Option ℕ
tick_behind seconds None time = Some (last_tick seconds time)
tick_behind seconds (Some before) time =
    if nat_lt (before / period seconds) (time / period seconds) then Some (last_tick seconds time) else None

-- the times of packets
abbrev pub packet_times : List Packet → List (Option ℕ)
packet_times packets = map (λ packet. Some packet.time) packets

-- the time of the packet before each one of a run
abbrev pub times_before : List Packet → List (Option ℕ)
times_before packets = None ∷ packet_times packets

-- the multiples that packets follow, where the one before all of them, if there is one, has that time
abbrev pub ticks_behind : ℕ → Option ℕ → List Packet → List (Option ℕ)
ticks_behind seconds before packets = map (λ both. tick_behind seconds both.0 both.1.time) (zip (before ∷ packet_times packets) packets)

-- those that the packets of a run follow
abbrev pub ticks : ℕ → List Packet → List (Option ℕ)
ticks seconds packets = ticks_behind seconds None packets

-- how many packets of a run follow one
abbrev pub count_ticks : ℕ → List Packet → ℕ
count_ticks seconds packets = count_by is_some (ticks seconds packets)

-- how many packets stand in front of the first that follows a multiple
abbrev pub until_tick : List (Option ℕ) → ℕ
until_tick [] = 0
until_tick (Some tick ∷ ticks) = 0
until_tick (None ∷ ticks) = 1 + until_tick ticks

-- a phase without packets whose one command is the expiry as of this time
abbrev pub expiry : ℕ → Phase
expiry tick = record { packets = 0; commands = Expire tick ∷ [] }

-- the phases from the first packet that follows a multiple on: at each such packet the expiry, and then the packets up to the next
abbrev pub parts_from_tick : List (Option ℕ) → List Phase
parts_from_tick [] = []
parts_from_tick (None ∷ ticks) = parts_from_tick ticks
parts_from_tick (Some tick ∷ ticks) = expiry tick ∷ record { packets = 1 + until_tick ticks; commands = [] } ∷ parts_from_tick ticks

-- the parts of a phase with these commands whose packets follow these multiples; the commands stay beside the first part
abbrev pub parts_of_phase : List Command → List (Option ℕ) → List Phase
parts_of_phase commands ticks = record { packets = until_tick ticks; commands = commands } ∷ parts_from_tick ticks

-- the parts of phases whose packets follow these multiples
abbrev pub parts_of_phases : List (Option ℕ) → List Phase → List Phase
parts_of_phases ticks [] = []
parts_of_phases ticks (phase ∷ phases) =
    parts_of_phase phase.commands (take phase.packets ticks) ++ parts_of_phases (drop phase.packets ticks) phases

-- the phases of a run of these packets, with an expiry at each multiple of so many seconds that a packet follows
abbrev pub aged : ℕ → List Packet → List Phase → List Phase
aged seconds packets phases = parts_of_phases (ticks seconds packets) phases
