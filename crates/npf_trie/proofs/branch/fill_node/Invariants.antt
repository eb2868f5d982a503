use Rattle.npf_cells.specs.Cells.{IsPassIn}
use Rattle.npf_trie.{specs.Stores.forked_cell, proofs.StoreLemmas.NodeFilledBelow}
use Rattle.npf_trie.proofs.branch.fill_node.Given as goal

abbrev pub invariant-loop-digit : goal.invariant-loop-digit
invariant-loop-digit g l = record {
  own : IsPassIn l.cells l.pass;
  filled : NodeFilledBelow l.cells.table.shared.key l.node (forked_cell l.mine l.leaf l.theirs l.other) l.initial.pass.seat.me l.digit l.pass.seat.me;
}
