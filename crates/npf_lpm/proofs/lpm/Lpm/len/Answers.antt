use Rattle.npf_lpm.proofs.BothLemmas.{both_once}
use Rattle.npf_lpm.proofs.lpm.Lpm.len.Goals as goal

pub returns-clause-once : goal.returns-clause-once
returns-clause-once c = rw (← c.self.view_is) (both_once c.self.inside.v4 c.self.inside.v6 c.self.invariant c.len.ensures.once c.len-2.ensures.once)
