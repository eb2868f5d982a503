use Rattle.npf_reass_whole.proofs.LawLemmas.{whole_alike}
use Rattle.npf_reass_whole.proofs.laws.whole_keeps.Goals as goal

pub returns : goal.returns
returns c = whole_alike
