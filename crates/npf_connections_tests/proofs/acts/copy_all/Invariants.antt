use Rattle.std.proofs.Common.{◌≡◌}
use Rattle.npf_connections.specs.Stay.{IsOut}
use Rattle.npf_connections_tests.specs.Sum.{sum_law}
use Rattle.npf_connections_tests.proofs.acts.copy_all.Given as goal

abbrev pub invariant-loop-slot : goal.invariant-loop-slot
invariant-loop-slot g l =
    IsOut sum_law (g.C.Connections.fits l.conns) g.C.Connections.view l.pass
    × (g.C.Connections.view l.pass ≡ g.C.Connections.view l.initial.pass)
