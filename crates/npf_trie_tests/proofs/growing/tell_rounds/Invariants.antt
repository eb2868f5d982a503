use Rattle.npf_cells.specs.Cells.{IsPassIn}
use Rattle.npf_trie_tests.specs.Hands.{RestsEmptyHanded, HasFreeHands}
use Rattle.npf_trie_tests.proofs.growing.tell_rounds.Given as goal

abbrev pub invariant-loop : goal.invariant-loop
invariant-loop g l = record {
  own : IsPassIn l.cells l.last;
  rests : RestsEmptyHanded l.last.seat.me.0;
  hands : HasFreeHands l.last.seat.me.0;
}
