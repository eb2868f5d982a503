use Rattle.std.proofs.Common.{◌≡◌}
use Rattle.npf_cells.specs.Cells.{IsPassIn}
use Rattle.npf_trie_bench.proofs.looking.look_some.Given as goal

abbrev pub invariant-loop-n : goal.invariant-loop-n
invariant-loop-n l = record {
  own : IsPassIn l.cells l.pass;
  epochs : l.pass.seat.me.0.epochs ≡ l.initial.pass.seat.me.0.epochs;
  pools : l.pass.seat.me.0.pools ≡ l.initial.pass.seat.me.0.pools;
  locks : l.pass.seat.me.0.trie.locks ≡ l.initial.pass.seat.me.0.trie.locks;
  readers : l.pass.seat.me.0.seats.readers ≡ l.initial.pass.seat.me.0.seats.readers;
}
