use Rattle.npf_cells.specs.Cells.{IsPassIn}
use Rattle.npf_trie_tests.specs.Hands.{IsEmptyHanded}
use Rattle.npf_trie_tests.proofs.meeting.tell_acts.Given as goal

abbrev pub invariant-loop-act : goal.invariant-loop-act
invariant-loop-act g l = record {
  own : IsPassIn l.cells l.pass;
  hands : IsEmptyHanded l.pass.seat.me.0;
}
