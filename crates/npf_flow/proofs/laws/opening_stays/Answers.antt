use Rattle.npf_flow.proofs.FlowLemmas.{opening_kept}
use Rattle.npf_flow.proofs.laws.opening_stays.Goals as goal

pub returns : goal.returns
returns c = opening_kept
