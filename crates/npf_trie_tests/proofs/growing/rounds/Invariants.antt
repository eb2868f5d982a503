use Rattle.npf_cells.specs.Cells.{IsPassIn}
use Rattle.npf_trie_tests.specs.Hands.{RestsEmptyHanded, HasFreeHands}
use Rattle.npf_trie_tests.proofs.growing.rounds.Given as goal

abbrev pub invariant-loop-round : goal.invariant-loop-round
invariant-loop-round g l = record {
  own : IsPassIn l.cells l.pass;
  rests : RestsEmptyHanded l.pass.seat.me.0;
  hands : HasFreeHands l.pass.seat.me.0;
}
