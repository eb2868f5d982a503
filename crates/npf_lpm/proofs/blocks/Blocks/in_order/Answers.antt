use Rattle.npf_lpm.proofs.RowLemmas.{blocks-maps, maps_ordered}
use Rattle.npf_lpm.proofs.blocks.Blocks.in_order.Goals as goal

pub renew-requires-clause-ordered : goal.renew-requires-clause-ordered
renew-requires-clause-ordered c = rw c.deref.ensures.value (rw c.deref-2.ensures.value (rw c.in_ok-firsts.ensures (rw c.in_ok-lengths.ensures
    (maps_ordered c.args.blocks.now c.requires.aligned c.requires.rises))))

pub returns : goal.returns
returns c = rw c.in_ok-firsts.ensures (rw c.in_ok-lengths.ensures (blocks-maps c.args.blocks.now))
