use Rattle.std.proofs.Common.{◌≡◌, ◌<◌, ℕ, length, reverse, Contains}
use Rattle.npf_paths.specs.LevelLaw.{AreApart}
use Rattle.npf_cells.specs.Cells.{IsPassIn}
use Rattle.npf_cells_rule.specs.Views.{with_pools}
use Rattle.npf_trie.proofs.nodes.take_nodes.Given as goal

-- the pass owns the nodes that were taken, the last first
abbrev pub invariant-loop : goal.invariant-loop
invariant-loop g l = record {
  own : IsPassIn l.cells l.pass;
  counted : length l.nodes.items ≡ l.counter;
  within : (node : ℕ) → Contains l.nodes.items node → node < l.cells.table.shared.key.nodes;
  apart : AreApart l.nodes.items;
  taken : l.pass.seat.me ≡ with_pools l.initial.pass.seat.me (record l.initial.pass.seat.me.0.pools {
    found = l.pass.seat.me.0.pools.found;
    row = l.pass.seat.me.0.pools.row;
    nodes = reverse l.nodes.items;
  });
}
