use Rattle.npf_flow.proofs.RunLemmas.{as_its_packets}
use Rattle.npf_flow.proofs.laws.flow_is_as_its_packets.Goals as goal

pub returns : goal.returns
returns c = as_its_packets
