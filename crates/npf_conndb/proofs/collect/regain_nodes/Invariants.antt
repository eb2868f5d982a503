use Rattle.std.proofs.Common.{◌≡◌, ◌-◌}
use Rattle.npf_cells.specs.Cells.{IsPassIn}
use Rattle.npf_conndb.proofs.RegainLemmas.{Regains}
use Rattle.npf_conndb.proofs.collect.regain_nodes.Given as goal

abbrev pub invariant-loop-node : goal.invariant-loop-node
invariant-loop-node g l = record {
  own : IsPassIn l.cells l.pass;
  sized : l.nodes ≡ l.cells.table.shared.key.nodes;
  regains : Regains g.L.Law.meaning l.epoch l.fn.pass.seat.me l.pass.seat.me;
}

abbrev pub decreases-loop-node : goal.decreases-loop-node
decreases-loop-node g l = l.nodes - l.node
