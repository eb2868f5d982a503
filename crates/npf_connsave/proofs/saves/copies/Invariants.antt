use Rattle.std.proofs.Common.{◌≡◌}
use Rattle.npf_core.specs.History.{state_of}
use Rattle.npf_connections.specs.Stay.{IsOut}
use Rattle.npf_flow.specs.Flows.{flow_law}
use Rattle.npf_connsave.specs.Copied.{AreCopied}
use Rattle.npf_connsave.proofs.saves.copies.Given as goal

abbrev pub invariant-loop-slot : goal.invariant-loop-slot
invariant-loop-slot g l = record {
  out : IsOut flow_law (g.C.Connections.fits l.conns) g.C.Connections.view l.pass;
  same : g.C.Connections.view l.pass ≡ g.C.Connections.view l.fn.pass;
  copied : AreCopied (state_of flow_law (g.C.Connections.view l.fn.pass).history) l.slot l.saved.items;
}
