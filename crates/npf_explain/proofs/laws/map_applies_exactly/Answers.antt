use Rattle.npf_explain.proofs.LawLemmas.{map_applies_exactly_lem}
use Rattle.npf_explain.proofs.laws.map_applies_exactly.Goals as goal

pub returns : goal.returns
returns c = map_applies_exactly_lem
