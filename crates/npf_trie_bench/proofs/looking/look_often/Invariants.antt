use Rattle.npf_cells.specs.Cells.{IsPassIn}
use Rattle.npf_trie_bench.specs.Rests.{HasNothing}
use Rattle.npf_trie_bench.proofs.looking.look_often.Given as goal

abbrev pub invariant-loop : goal.invariant-loop
invariant-loop l = record {
  own : IsPassIn l.cells l.pass;
  rests : HasNothing l.pass.seat.me.0;
}
