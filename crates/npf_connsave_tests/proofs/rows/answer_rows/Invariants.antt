use Rattle.std.proofs.Common.{◌≡◌}
use Rattle.npf_connections.specs.{Pass.all_places, Stay.IsOut}
use Rattle.npf_flow.specs.Flows.{flow_law}
use Rattle.npf_connsave_tests.proofs.rows.answer_rows.Given as goal

abbrev pub invariant-loop-row : goal.invariant-loop-row
invariant-loop-row g l =
    IsOut flow_law (g.C.Connections.fits l.conns) g.C.Connections.view l.pass × ((g.C.Connections.view l.pass).places ≡ all_places)
