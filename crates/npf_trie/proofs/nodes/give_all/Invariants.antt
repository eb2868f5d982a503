use Rattle.std.proofs.Common.{◌≡◌, ◌≤◌, [], take}
use Rattle.npf_cells.specs.Cells.{IsPassIn}
use Rattle.npf_cells_rule.specs.Views.{with_pools}
use Rattle.npf_cells_holds.specs.PublishKinds.{nodes_but}
use Rattle.npf_trie.specs.Nodes.{left_with}
use Rattle.npf_trie.proofs.nodes.give_all.Given as goal

-- the pass owns its nodes but those that were given back
abbrev pub invariant-loop-node : goal.invariant-loop-node
invariant-loop-node g l = record {
  own : IsPassIn l.cells l.pass;
  given : l.pass.seat.me ≡ with_pools l.initial.pass.seat.me
      (left_with (nodes_but (take l.node-index l.nodes.items) l.initial.pass.seat.me.0.pools.nodes) l.initial.pass.seat.me.0.pools l.pass.seat.me.0.pools);
  forgets : 1 ≤ l.node-index → l.pass.seat.me.0.pools.stored ≡ [];
  same : l.node-index ≡ 0 → l.pass.seat.me ≡ l.initial.pass.seat.me;
}
