use Rattle.npf_rewrite.proofs.NormalisedSumLemmas.{normalised_header_lem, normalised_upper_lem}
use Rattle.npf_rewrite.proofs.laws.normalised_sums_follow.Goals as goal

pub returns-clause-header : goal.returns-clause-header
returns-clause-header c = normalised_header_lem

pub returns-clause-upper : goal.returns-clause-upper
returns-clause-upper c = normalised_upper_lem
