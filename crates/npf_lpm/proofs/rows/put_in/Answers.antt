use Rattle.std.proofs.Common.{arith}
use Rattle.npf_lpm.proofs.RowLemmas.{length-blocks, put_ordered, blocks-insert}
use Rattle.npf_lpm.proofs.rows.put_in.Goals as goal

pub insert_within-requires-clause-within : goal.insert_within-requires-clause-within
insert_within-requires-clause-within c =
    let most = c.requires.place.between.most in
    omega (arith, length-blocks c.args.firsts.now.items c.args.lengths.now.items c.requires.rows.ordered.pairs, c.args.firsts.now.ok.0, c.reserve.ensures.len)

pub insert_within-requires-2-clause-within : goal.insert_within-requires-2-clause-within
insert_within-requires-2-clause-within c =
    let most = c.requires.place.between.most in
    omega (arith, length-blocks c.args.firsts.now.items c.args.lengths.now.items c.requires.rows.ordered.pairs, c.requires.rows.ordered.pairs, c.args.lengths.now.ok.0, c.reserve-2.ensures.len)

pub insert_within-requires-3-clause-within : goal.insert_within-requires-3-clause-within
insert_within-requires-3-clause-within c =
    let most = c.requires.place.between.most in
    omega (arith, length-blocks c.args.firsts.now.items c.args.lengths.now.items c.requires.rows.ordered.pairs, c.requires.rows.beside, c.args.outermost.now.ok.0, c.reserve-3.ensures.len)

pub renew-requires-clause-ordered : goal.renew-requires-clause-ordered
renew-requires-clause-ordered c =
    rw c.deref.ensures.value (rw c.deref-2.ensures.value (rw c.insert_within.ensures.items (rw c.insert_within-2.ensures.items (rw c.reserve.ensures.items (rw c.reserve-2.ensures.items
    (put_ordered c.args.firsts.now.items c.args.lengths.now.items c.args.block c.args.place c.requires.rows.ordered c.requires.place c.requires.aligned))))))

pub returns-clause-ok : goal.returns-clause-ok
returns-clause-ok c = rw c.insert_within.ensures.items (rw c.insert_within-2.ensures.items (rw c.reserve.ensures.items (rw c.reserve-2.ensures.items
    (blocks-insert c.args.firsts.now.items c.args.lengths.now.items c.args.place c.args.block.first c.args.block.len c.requires.rows.ordered.pairs))))
