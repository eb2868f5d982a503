use Rattle.npf_packet.proofs.FragmentAtLemmas.{one_fragment_lem}
use Rattle.npf_packet.proofs.laws.one_fragment.Goals as goal

pub returns : goal.returns
returns c = one_fragment_lem
