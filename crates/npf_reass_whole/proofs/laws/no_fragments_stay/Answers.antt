use Rattle.npf_reass_whole.proofs.LawLemmas.{none_stay}
use Rattle.npf_reass_whole.proofs.laws.no_fragments_stay.Goals as goal

pub returns : goal.returns
returns c = none_stay
