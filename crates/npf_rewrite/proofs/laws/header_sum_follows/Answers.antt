use Rattle.npf_rewrite.proofs.SumLemmas.{header_sum_follows_lem}
use Rattle.npf_rewrite.proofs.laws.header_sum_follows.Goals as goal

pub returns : goal.returns
returns c = header_sum_follows_lem
