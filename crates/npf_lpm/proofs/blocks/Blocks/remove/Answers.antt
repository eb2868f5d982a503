use Rattle.npf_lpm.proofs.RowLemmas.{taken_out}
use Rattle.npf_lpm.proofs.blocks.Blocks.remove.Goals as goal

pub returns : goal.returns
returns c = rw (← c.self.view_is) (taken_out c.self.inside.firsts.items c.self.inside.lengths.items _ c.args.block c.in-Ok.place c.self.invariant.rows.ordered
    (rw c.self.view_is c.in-Ok.ensures) c.take_out.ensures.taken)
