use Rattle.std.proofs.Common.{◌≡◌}
use Rattle.npf_connections.specs.Stay.{IsOut}
use Rattle.npf_connections_tests.specs.Sum.{sum_law}
use Rattle.npf_connections_tests.proofs.contending.hold_rounds.Given as goal

abbrev pub invariant-loop-round : goal.invariant-loop-round
invariant-loop-round g l =
    IsOut sum_law (g.C.Connections.fits l.conns) g.C.Connections.view l.pass
    × ((g.C.Connections.view l.pass).places ≡ (g.C.Connections.view l.initial.pass).places)
