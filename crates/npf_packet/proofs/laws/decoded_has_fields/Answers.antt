use Rattle.npf_packet.proofs.PacketFieldLemmas.{has_fields, has_protocol}
use Rattle.npf_packet.proofs.laws.decoded_has_fields.Goals as goal

pub returns-clause-fields : goal.returns-clause-fields
returns-clause-fields c = has_fields

pub returns-clause-protocol : goal.returns-clause-protocol
returns-clause-protocol c = has_protocol
