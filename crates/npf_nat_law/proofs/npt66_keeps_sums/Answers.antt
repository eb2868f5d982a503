use Rattle.npf_nat_law.proofs.NeutralLemmas.{answer_keeps_lem, packet_keeps_lem}
use Rattle.npf_nat_law.proofs.npt66_keeps_sums.Goals as goal

pub returns-clause-packet : goal.returns-clause-packet
returns-clause-packet c = packet_keeps_lem

pub returns-clause-answer : goal.returns-clause-answer
returns-clause-answer c = answer_keeps_lem
