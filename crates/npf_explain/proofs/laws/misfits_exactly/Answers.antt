use Rattle.npf_explain.proofs.LawLemmas.{misfits_exactly_lem}
use Rattle.npf_explain.proofs.laws.misfits_exactly.Goals as goal

pub returns : goal.returns
returns c = misfits_exactly_lem
