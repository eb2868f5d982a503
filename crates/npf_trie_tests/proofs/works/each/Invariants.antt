use Rattle.npf_cells.specs.Cells.{IsPassIn}
use Rattle.npf_trie_tests.specs.Hands.{IsEmptyHanded}
use Rattle.npf_trie_tests.proofs.works.each.Given as goal

abbrev pub invariant-loop-number : goal.invariant-loop-number
invariant-loop-number g l = record {
  own : IsPassIn l.cells l.pass;
  hands : IsEmptyHanded l.pass.seat.me.0;
}
