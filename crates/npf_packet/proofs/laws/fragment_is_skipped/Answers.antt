use Rattle.npf_packet.proofs.FragmentAtLemmas.{fragment_is_skipped_lem}
use Rattle.npf_packet.proofs.laws.fragment_is_skipped.Goals as goal

pub returns : goal.returns
returns c = fragment_is_skipped_lem
