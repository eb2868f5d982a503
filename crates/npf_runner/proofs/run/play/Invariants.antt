use Rattle.std.proofs.Common.{◌≡◌, ◌≤◌, ◌<◌, ◌+◌, ◌++◌, All, List, drop, length, vec_len, vec_capacity}
use Rattle.npf_connections.specs.{Pass.all_places, Stay.{IsLater, IsOut}}
use Rattle.npf_flow.specs.Flows.{flow_law}
use Rattle.npf_engine.specs.Handles.{configurations}
use Rattle.npf_runner.specs.{Played.handled, Phase.{LeavesNoDead, RunsPhases}}
use Rattle.npf_traffic.specs.{Phases.{PhasesPublishFrom, packets_in}, Packet.IsShortPacket}
use Rattle.npf_runner.proofs.run.play.Given as goal

abbrev pub invariant-loop-phase : goal.invariant-loop-phase
invariant-loop-phase g l =
    IsOut flow_law (g.C.Connections.fits l.conns) g.C.Connections.view l.pass
    × ((g.C.Connections.view l.pass).places ≡ all_places)
    × IsLater (g.C.Connections.view l.initial.pass) (g.C.Connections.view l.pass)
    × LeavesNoDead (g.C.Connections.view l.initial.pass) (g.C.Connections.view l.pass)
    × (packets_in (drop l.phase-index l.phases) ≡ length l.left.items)
    × (l.first + length l.left.items ≡ 1 + length l.fn.packets.items)
    × (1 ≤ l.first)
    × (l.last < length l.configs)
    × PhasesPublishFrom (length l.configs) l.last (drop l.phase-index l.phases)
    × All IsShortPacket l.left.items
    × (vec_len l.all.outcomes ≡ vec_len l.all.packets)
    × (vec_len l.all.outcomes + length l.left.items ≤ vec_capacity l.all.outcomes)
    × (vec_len l.all.packets + length l.left.items ≤ vec_capacity l.all.packets)
    × ((new : _) (dones : List _) →
    RunsPhases g.C.Connections.view (configurations l.configs) l.workers l.spread (g.C.Connections.view l.pass) new l.first l.last (drop l.phase-index l.phases) l.left.items dones →
    RunsPhases g.C.Connections.view (configurations l.configs) l.workers l.spread (g.C.Connections.view l.initial.pass) new 1 0 l.phases l.fn.packets.items
    (handled l.all.outcomes.items l.all.packets.items ++ dones))
