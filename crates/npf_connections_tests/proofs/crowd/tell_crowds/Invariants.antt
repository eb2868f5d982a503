use Rattle.std.proofs.Common.{◌≡◌}
use Rattle.npf_connections.specs.{Pass.all_places, Stay.IsOut}
use Rattle.npf_connections_tests.specs.Sum.{sum_law}
use Rattle.npf_connections_tests.proofs.crowd.tell_crowds.Given as goal

abbrev pub invariant-loop : goal.invariant-loop
invariant-loop g l =
    IsOut sum_law (g.C.Connections.fits l.conns) g.C.Connections.view l.pass
    × ((g.C.Connections.view l.pass).places ≡ all_places)
