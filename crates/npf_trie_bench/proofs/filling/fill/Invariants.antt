use Rattle.std.proofs.Common.{◌≡◌, [], None}
use Rattle.npf_cells.specs.Cells.{IsPassIn}
use Rattle.npf_cells_rule.specs.Passes.{IsProtected}
use Rattle.npf_trie_bench.proofs.filling.fill.Given as goal

abbrev pub invariant-loop-number : goal.invariant-loop-number
invariant-loop-number g l = record {
  own : IsPassIn l.cells l.pass;
  protected : IsProtected l.pass.seat.me.0.epochs.pin;
  nodes : l.pass.seat.me.0.pools.nodes ≡ [];
  unfreed : l.pass.seat.me.0.pools.unfreed ≡ [];
  locks : l.pass.seat.me.0.trie.locks ≡ [];
  turn : l.pass.seat.me.0.turn ≡ None;
}
