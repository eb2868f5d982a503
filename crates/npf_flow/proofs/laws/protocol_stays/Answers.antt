use Rattle.npf_flow.proofs.FlowLemmas.{protocol_kept}
use Rattle.npf_flow.proofs.laws.protocol_stays.Goals as goal

pub returns : goal.returns
returns c = protocol_kept
