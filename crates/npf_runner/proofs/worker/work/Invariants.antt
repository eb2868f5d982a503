use Rattle.std.proofs.Common.{◌≡◌, ◌≤◌, ◌++◌, All, List, drop, length, vec_len, vec_capacity}
use Rattle.npf_connections.specs.Stay.{IsOut}
use Rattle.npf_flow.specs.Flows.{flow_law}
use Rattle.npf_publish.specs.ConfReader.{reader_range}
use Rattle.npf_engine.specs.Handles.{configurations}
use Rattle.npf_runner.specs.{Job.{IsJob, with_numbers}, Numbers.packet_numbers, Played.handled, Works.{IsRested, WorksThrough}}
use Rattle.npf_runner.proofs.worker.work.Given as goal

abbrev pub invariant-loop-place : goal.invariant-loop-place
invariant-loop-place g l =
    IsOut flow_law (g.C.Connections.fits l.shared.conns.now) g.C.Connections.view l.pass
    × IsRested (g.C.Connections.view l.initial.pass) (g.C.Connections.view l.pass)
    × All IsJob (with_numbers (drop l.place (packet_numbers l.numbers (length l.initial.packets.items))) (drop l.place l.packets.items))
    × (reader_range l.reader ≡ reader_range l.initial.reader)
    × (vec_len l.packets ≡ vec_len l.initial.packets)
    × (vec_len l.told ≡ l.place)
    × (vec_len l.initial.packets ≤ vec_capacity l.told)
    × ((new : _) (next : _) (dones : List _) →
    WorksThrough (configurations l.shared.configs.now) (g.C.Connections.view l.pass) l.reader
    (with_numbers (drop l.place (packet_numbers l.numbers (length l.initial.packets.items))) (drop l.place l.packets.items)) new next dones →
    WorksThrough (configurations l.shared.configs.now) (g.C.Connections.view l.initial.pass) l.initial.reader
    (with_numbers (packet_numbers l.numbers (length l.initial.packets.items)) l.initial.packets.items) new next (handled l.told.items l.packets.items ++ dones))
