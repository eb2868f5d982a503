use Rattle.npf_gen.proofs.WorkloadLemmas.{records_have_sums}
use Rattle.npf_gen.proofs.laws.sums_verify.Goals as goal

pub returns : goal.returns
returns c = records_have_sums
