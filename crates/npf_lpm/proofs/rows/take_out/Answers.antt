use Rattle.std.proofs.Common.{◌<◌, length, arith}
use Rattle.npf_lpm.proofs.RowLemmas.{length-blocks, take_ordered, blocks-remove}
use Rattle.npf_lpm.proofs.rows.take_out.Goals as goal

pub remove-first-requires : goal.remove-first-requires
remove-first-requires c = omega (arith, c.requires.within, length-blocks c.args.firsts.now.items c.args.lengths.now.items c.requires.rows.ordered.pairs, c.args.firsts.now.ok.0)

pub renew-requires-clause-ordered : goal.renew-requires-clause-ordered
renew-requires-clause-ordered c =
    let within : c.args.place < length c.args.firsts.now.items = omega (arith, c.requires.within, length-blocks c.args.firsts.now.items c.args.lengths.now.items c.requires.rows.ordered.pairs) in
    rw c.deref.ensures.value (rw c.deref-2.ensures.value (rw c.remove-first.ensures.items (rw c.remove-len.ensures.items
    (take_ordered c.args.firsts.now.items c.args.lengths.now.items c.args.place c.requires.rows.ordered within))))

pub returns-clause-taken : goal.returns-clause-taken
returns-clause-taken c = rw c.remove-first.ensures.items (rw c.remove-len.ensures.items
    (blocks-remove c.args.firsts.now.items c.args.lengths.now.items c.args.place c.requires.rows.ordered.pairs))
