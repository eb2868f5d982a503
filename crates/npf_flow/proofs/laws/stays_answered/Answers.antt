use Rattle.npf_flow.proofs.FlowLemmas.{answered_kept}
use Rattle.npf_flow.proofs.laws.stays_answered.Goals as goal

pub returns : goal.returns
returns c = answered_kept
