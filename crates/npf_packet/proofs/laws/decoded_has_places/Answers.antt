use Rattle.npf_packet.proofs.PacketFieldLemmas.{has_places}
use Rattle.npf_packet.proofs.laws.decoded_has_places.Goals as goal

pub returns : goal.returns
returns c = has_places
