use Rattle.npf_explain.proofs.LawLemmas.{reached_exactly_lem}
use Rattle.npf_explain.proofs.laws.reached_exactly.Goals as goal

pub returns : goal.returns
returns c = reached_exactly_lem
