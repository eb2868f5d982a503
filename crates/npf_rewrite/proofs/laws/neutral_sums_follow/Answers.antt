use Rattle.npf_rewrite.proofs.NeutralLemmas.{neutral_header_lem, neutral_upper_lem}
use Rattle.npf_rewrite.proofs.laws.neutral_sums_follow.Goals as goal

pub returns-clause-header : goal.returns-clause-header
returns-clause-header c = neutral_header_lem

pub returns-clause-upper : goal.returns-clause-upper
returns-clause-upper c = neutral_upper_lem
