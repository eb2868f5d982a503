use Rattle.npf_rewrite.proofs.NeutralLemmas.{absent_sum_lem}
use Rattle.npf_rewrite.proofs.laws.absent_sum_stays.Goals as goal

pub returns : goal.returns
returns c = absent_sum_lem
