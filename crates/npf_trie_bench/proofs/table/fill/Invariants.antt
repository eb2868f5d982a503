use Rattle.std.proofs.Common.{◌≡◌, ◌≤◌}
use Rattle.npf_flow.specs.Flows.{flow_law}
use Rattle.npf_connections.specs.Stay.{IsOut}
use Rattle.npf_trie_bench.proofs.table.fill.Given as goal

abbrev pub invariant-loop-number : goal.invariant-loop-number
invariant-loop-number g l =
    IsOut flow_law (g.C.Connections.fits l.conns) g.C.Connections.view l.pass
    × ((g.C.Connections.view l.pass).places ≡ (g.C.Connections.view l.initial.pass).places)
