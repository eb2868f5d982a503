use Rattle.npf_lpm.proofs.FamilyLemmas.{aligned_is}
use Rattle.npf_lpm.proofs.aligned.aligned_of.Goals as goal

pub returns-clause-aligned : goal.returns-clause-aligned
returns-clause-aligned c = rw c.number_of.ensures (aligned_is c.args.prefix)
