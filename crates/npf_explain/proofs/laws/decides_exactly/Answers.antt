use Rattle.npf_explain.proofs.LawLemmas.{decides_exactly_lem}
use Rattle.npf_explain.proofs.laws.decides_exactly.Goals as goal

pub returns : goal.returns
returns c = decides_exactly_lem
