use Rattle.npf_precedence.proofs.VerdictLemmas.{first_match_decides_lem}
use Rattle.npf_precedence.proofs.laws.first_match_decides.Goals as goal

pub returns : goal.returns
returns c = first_match_decides_lem
