use Rattle.std.proofs.Common.{◌≤◌, ◌<◌, length}
use Rattle.npf_connections.specs.Stay.{IsOut}
use Rattle.npf_flow.specs.Flows.{flow_law}
use Rattle.npf_publish.specs.ConfReader.{reader_range}
use Rattle.npf_engine_bench.proofs.work.work.Given as goal

abbrev pub invariant-loop-crossing : goal.invariant-loop-crossing
invariant-loop-crossing g l =
    IsOut flow_law (g.C.Connections.fits l.conns) g.C.Connections.view l.pass
    × (1 ≤ (g.C.Connections.view l.pass).places)
    × ((reader_range l.reader).last < length l.configs)
    × (goal.iterator-loop-crossing g).can_next l.crossing-iterator
    × (goal.iterator-loop-crossing g).is_finite l.crossing-iterator
