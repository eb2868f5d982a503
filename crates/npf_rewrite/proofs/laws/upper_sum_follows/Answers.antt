use Rattle.npf_rewrite.proofs.SumLemmas.{upper_sum_follows_lem}
use Rattle.npf_rewrite.proofs.laws.upper_sum_follows.Goals as goal

pub returns : goal.returns
returns c = upper_sum_follows_lem
