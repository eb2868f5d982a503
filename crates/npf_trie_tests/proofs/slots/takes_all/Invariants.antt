use Rattle.std.proofs.Common.{◌≡◌}
use Rattle.npf_cells.specs.Cells.{IsPassIn}
use Rattle.npf_cells_rule.specs.Passes.{IsProtected}
use Rattle.npf_trie_tests.proofs.slots.takes_all.Given as goal

abbrev pub invariant-loop-count : goal.invariant-loop-count
invariant-loop-count g l = record {
  own : IsPassIn l.cells l.pass;
  protected : IsProtected l.pass.seat.me.0.epochs.pin;
  locks : l.pass.seat.me.0.trie.locks ≡ l.initial.pass.seat.me.0.trie.locks;
}
