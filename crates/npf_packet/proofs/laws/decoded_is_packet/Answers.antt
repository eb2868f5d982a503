use Rattle.npf_packet.proofs.PacketFieldLemmas.{is_packet}
use Rattle.npf_packet.proofs.laws.decoded_is_packet.Goals as goal

pub returns : goal.returns
returns c = is_packet
