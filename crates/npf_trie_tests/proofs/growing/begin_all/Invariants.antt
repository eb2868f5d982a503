use Rattle.npf_cells.specs.Cells.{IsPassIn}
use Rattle.npf_trie_tests.specs.Hands.{IsEmptyHanded}
use Rattle.npf_trie_tests.proofs.growing.begin_all.Given as goal

abbrev pub invariant-loop : goal.invariant-loop
invariant-loop g l = record {
  own : IsPassIn l.cells l.pass;
  empty : IsEmptyHanded l.pass.seat.me.0;
}
