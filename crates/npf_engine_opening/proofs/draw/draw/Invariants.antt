use Rattle.std.proofs.Common.{◌≡◌, [], ◌∷◌, length}
use Rattle.npf_types.specs.declared.key.Way.{Way}
use Rattle.npf_core.specs.History.{state_of}
use Rattle.npf_connections.specs.{Stay.IsIn, Ways.HoldsThese}
use Rattle.npf_flow.specs.Flows.{flow_law}
use Rattle.npf_engine_opening.{specs.Ways.is_one_of, proofs.DrawingLemmas.IsDrawing}
use Rattle.npf_engine_opening.proofs.draw.draw.Given as goal

abbrev pub invariant-loop-port : goal.invariant-loop-port
invariant-loop-port g l =
    IsIn flow_law (g.C.Connections.fits l.conns) g.C.Connections.view l.pass
    × ((g.C.Connections.view l.pass).builds ≡ l.id ∷ [])
    × HoldsThese (state_of flow_law (g.C.Connections.view l.pass).history) l.id (is_one_of (Way.Forward ∷ []))
    × IsDrawing (g.C.Connections.view l.initial.pass) (g.C.Connections.view l.pass) l.id l.addr l.initial.ports l.ports

abbrev pub decreases-loop-port : goal.decreases-loop-port
decreases-loop-port g l = length l.ports
