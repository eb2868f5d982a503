use Rattle.npf_icmpalg.proofs.ErrorSumLemmas.{error_sum_follows_lem}
use Rattle.npf_icmpalg.proofs.laws.error_sum_follows.Goals as goal

pub returns : goal.returns
returns c = error_sum_follows_lem
