use Rattle.npf_explain.proofs.LawLemmas.{overridden_exactly_lem}
use Rattle.npf_explain.proofs.laws.overridden_exactly.Goals as goal

pub returns : goal.returns
returns c = overridden_exactly_lem
