use Rattle.std.proofs.Common.{◌≡◌}
use Rattle.npf_connections.specs.Stay.{IsOut}
use Rattle.npf_flow.specs.Flows.{flow_law}
use Rattle.npf_runner_tests.proofs.openings.last_of.Given as goal

abbrev pub invariant-loop-port : goal.invariant-loop-port
invariant-loop-port g l =
    IsOut flow_law (g.C.Connections.fits l.conns) g.C.Connections.view l.pass
    × ((g.C.Connections.view l.pass).places ≡ (g.C.Connections.view l.initial.pass).places)
