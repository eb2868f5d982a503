use Rattle.npf_pieces.proofs.WholeSetLemmas.{complete_is_whole}
use Rattle.npf_pieces.proofs.laws.complete_set_is_whole.Goals as goal

pub returns : goal.returns
returns c = complete_is_whole
