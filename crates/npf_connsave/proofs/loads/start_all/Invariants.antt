use Rattle.std.proofs.Common.{◌≡◌, [], take}
use Rattle.npf_connections.specs.Stay.{IsIn}
use Rattle.npf_flow.specs.Flows.{flow_law}
use Rattle.npf_connsave.{specs.Loads.StaysSole, proofs.StartLemmas.IsLoading}
use Rattle.npf_connsave.proofs.loads.start_all.Given as goal

abbrev pub invariant-loop-saved : goal.invariant-loop-saved
invariant-loop-saved g l = record {
  inside : IsIn flow_law (g.C.Connections.fits l.conns) g.C.Connections.view l.pass;
  idle : (g.C.Connections.view l.pass).builds ≡ [];
  same : StaysSole (g.C.Connections.view l.fn.pass) (g.C.Connections.view l.pass);
  loading : IsLoading (g.C.Connections.view l.fn.pass) (g.C.Connections.view l.pass) (take l.saved-index l.all);
}
