-- A flow over many packets, the oldest first.
use Rattle.std.specs.Prelude.{ℕ, max, Bool, false, not, ◌||◌, List, [], ◌∷◌, filter, if◌then◌else◌}
use Rattle.npf_types.specs.declared.key.Way.{Way}
use Rattle.npf_flow.specs.declared.flow.Flow.{Flow}
use Rattle.npf_flow.specs.declared.step.FlowArg.{FlowArg}
use Rattle.npf_flow.specs.Flows.{next_flow, moves_on, is_backward}

abbrev pub Packets : Type 0
Packets = List (Way × FlowArg)

-- the flow after these packets
abbrev pub flow_after : Flow → Packets → Flow
flow_after flow [] = flow
flow_after flow (packet ∷ packets) = flow_after (next_flow flow packet.0 packet.1) packets

-- those of the packets that the flow accepts, each in its turn, but for those that only peek
abbrev pub accepted : Flow → Packets → Packets
accepted flow [] = []
accepted flow (packet ∷ packets) =
    let rest : Packets = accepted (next_flow flow packet.0 packet.1) packets in
    if moves_on flow.kind packet.0 packet.1 then packet ∷ rest else rest

-- those of the packets that don't only peek
abbrev pub moving : Packets → Packets
moving packets = filter (λ (packet : Way × FlowArg). not packet.1.peek) packets

-- some packet came backward
abbrev pub has_backward : Packets → Bool
has_backward [] = false
has_backward (packet ∷ packets) = is_backward packet.0 || has_backward packets

-- the greatest of a time and those of the packets
abbrev pub latest : ℕ → Packets → ℕ
latest time [] = time
latest time (packet ∷ packets) = max packet.1.now (latest time packets)
