use Rattle.npf_rewrite.proofs.SentLemmas.{sent_is_packet_lem}
use Rattle.npf_rewrite.proofs.laws.sent_is_packet.Goals as goal

pub returns : goal.returns
returns c = sent_is_packet_lem
