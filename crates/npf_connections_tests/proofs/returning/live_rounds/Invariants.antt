use Rattle.std.proofs.Common.{◌≡◌}
use Rattle.npf_connections.specs.Stay.{IsOut}
use Rattle.npf_connections_tests.specs.Sum.{sum_law}
use Rattle.npf_connections_tests.proofs.returning.live_rounds.Given as goal

abbrev pub invariant-loop-n : goal.invariant-loop-n
invariant-loop-n g l =
    IsOut sum_law (g.C.Connections.fits l.conns) g.C.Connections.view l.pass
    × ((g.C.Connections.view l.pass).places ≡ (g.C.Connections.view l.initial.pass).places)
