use Rattle.std.proofs.Common.{ap, ◌∙◌, arith}
use Rattle.npf_paths.specs.CellWords.{cell_word}
use Rattle.npf_trie.{specs.Stores.forked_cell, proofs.{ForkLemmas.forked_word, StoreLemmas.one_place_more}}
use Rattle.npf_trie.proofs.branch.fill_node.Goals as goal

pub store_private-requires-clause-may : goal.store_private-requires-clause-may
store_private-requires-clause-may g c = record {
  owned = c.loop-digit.invariant.filled.owned;
  stateless = omega arith;
  markless = λ low. forked_word c.args.mine c.args.theirs c.args.leaf c.args.other c.loop-digit.digit _ c.requires.real c.requires.other_real
      (c.word.ensures ∙ ap cell_word c.forked_cell-cell.ensures);
}

pub loop-digit-preserved : goal.loop-digit-preserved
loop-digit-preserved g c =
    let so = c.loop-digit.invariant in
    record {
      own = c.store_private.ensures.own;
      filled = one_place_more c.args.cells.now.table.shared.key c.args.node (forked_cell c.args.mine c.args.leaf c.args.theirs c.args.other) _ _ _ c.loop-digit.digit _ c.cell_law.ensures.said
          (omega arith) (c.word.ensures ∙ ap cell_word c.forked_cell-cell.ensures) so.filled c.store_private.ensures.next;
    }
