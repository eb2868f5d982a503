use Rattle.npf_flow.{specs.Flows.accepts, proofs.{FlowLemmas.{unmoved_stays, not_passed}, RunLemmas.no_trace}}
use Rattle.npf_flow.proofs.laws.refused_leaves_flow.Goals as goal

pub returns-clause-packet : goal.returns-clause-packet
returns-clause-packet c = λ flow way arg refused. unmoved_stays flow way arg (not_passed arg.peek (accepts flow.kind way arg.seg) refused)

pub returns-clause-packets : goal.returns-clause-packets
returns-clause-packets c = no_trace
