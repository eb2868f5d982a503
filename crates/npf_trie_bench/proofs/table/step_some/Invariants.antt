use Rattle.std.proofs.Common.{◌≡◌, []}
use Rattle.npf_flow.specs.Flows.{flow_law}
use Rattle.npf_connections.specs.Stay.{IsIn}
use Rattle.npf_trie_bench.proofs.table.step_some.Given as goal

abbrev pub invariant-loop-n : goal.invariant-loop-n
invariant-loop-n g l =
    IsIn flow_law (g.C.Connections.fits l.conns) g.C.Connections.view l.pass
    × ((g.C.Connections.view l.pass).builds ≡ [])
    × ((g.C.Connections.view l.pass).places ≡ (g.C.Connections.view l.initial.pass).places)
