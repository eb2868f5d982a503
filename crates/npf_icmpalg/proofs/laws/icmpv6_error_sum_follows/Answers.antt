use Rattle.npf_icmpalg.proofs.ErrorSumLemmas.{icmpv6_error_sum_follows_lem}
use Rattle.npf_icmpalg.proofs.laws.icmpv6_error_sum_follows.Goals as goal

pub returns : goal.returns
returns c = icmpv6_error_sum_follows_lem
