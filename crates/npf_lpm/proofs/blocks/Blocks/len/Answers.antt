use Rattle.std.proofs.Common.{arith}
use Rattle.npf_lpm.proofs.RowLemmas.{length-blocks}
use Rattle.npf_lpm.proofs.blocks.Blocks.len.Goals as goal

pub returns-clause-value : goal.returns-clause-value
returns-clause-value c =
    rw (← c.self.view_is) (omega (arith, c.len.ensures, c.self.inside.firsts.ok.0, length-blocks c.self.inside.firsts.items c.self.inside.lengths.items c.self.invariant.rows.ordered.pairs))
