use Rattle.std.proofs.Common.{◌≡◌}
use Rattle.npf_connections.specs.Stay.{IsOut}
use Rattle.npf_connections_tests.specs.Sum.{sum_law}
use Rattle.npf_connections_tests.proofs.returning.hold_400_nodes.Given as goal

abbrev pub invariant-loop-phase : goal.invariant-loop-phase
invariant-loop-phase g l =
    IsOut sum_law (g.C.Connections.fits l.conns) g.C.Connections.view l.pass
    × ((g.C.Connections.view l.pass).places ≡ (g.C.Connections.view l.initial.pass).places)
