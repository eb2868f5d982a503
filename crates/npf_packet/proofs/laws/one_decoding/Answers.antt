use Rattle.npf_packet.proofs.DecodingLemmas.{one_decoding_lem}
use Rattle.npf_packet.proofs.laws.one_decoding.Goals as goal

pub returns : goal.returns
returns c = one_decoding_lem
