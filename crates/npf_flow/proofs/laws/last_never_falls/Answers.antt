use Rattle.npf_flow.proofs.{FlowLemmas.last_rises, RunLemmas.last_is_latest}
use Rattle.npf_flow.proofs.laws.last_never_falls.Goals as goal

pub returns-clause-packet : goal.returns-clause-packet
returns-clause-packet c = last_rises

pub returns-clause-packets : goal.returns-clause-packets
returns-clause-packets c = last_is_latest
