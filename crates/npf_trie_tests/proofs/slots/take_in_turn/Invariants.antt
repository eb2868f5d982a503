use Rattle.npf_cells.specs.Cells.{IsPassIn}
use Rattle.npf_cells_rule.specs.Passes.{IsProtected}
use Rattle.npf_trie_tests.proofs.slots.take_in_turn.Given as goal

abbrev pub invariant-loop-count : goal.invariant-loop-count
invariant-loop-count g l = record {
  own : IsPassIn l.cells l.pass;
  other_own : IsPassIn l.cells l.other;
  protected : IsProtected l.pass.seat.me.0.epochs.pin;
  other_protected : IsProtected l.other.seat.me.0.epochs.pin;
}
