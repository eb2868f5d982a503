use Rattle.std.proofs.Common.{◌+◌, ◌<◌, slice_index, inl, arith}
use Rattle.npf_trie.proofs.StoreLemmas.{may_store_word, one_word_more}
use Rattle.npf_trie.proofs.keys.store_key.Goals as goal

pub store_private-requires-clause-may : goal.store_private-requires-clause-may
store_private-requires-clause-may g c =
    inl (may_store_word g.L.Law.meaning c.loop-word.pass.seat.me.0 c.args.slot _ _ c.args.way c.loop-word.word (omega arith) (omega arith) c.loop-word.invariant.below.may)

pub loop-word-preserved : goal.loop-word-preserved
loop-word-preserved g c =
    let so = c.loop-word.invariant in
    let low : c.loop-word.word < 5 = omega arith in
    record {
      own = c.store_private.ensures.own;
      first_is = so.first_is;
      below = one_word_more g.L.Law.meaning c.args.cells.now.table.shared.key c.args.slot c.args.way (λ i. slice_index c.args.key.now.0 i) _ _ _
          (c.first_key_field-first.result + c.loop-word.word) c.loop-word.word low (omega arith) so.below c.store_private.ensures.next;
    }
