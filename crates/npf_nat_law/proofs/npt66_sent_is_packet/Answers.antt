use Rattle.npf_nat_law.proofs.NeutralLemmas.{answer_sent_lem, packet_sent_lem}
use Rattle.npf_nat_law.proofs.npt66_sent_is_packet.Goals as goal

pub returns-clause-packet : goal.returns-clause-packet
returns-clause-packet c = packet_sent_lem

pub returns-clause-answer : goal.returns-clause-answer
returns-clause-answer c = answer_sent_lem
