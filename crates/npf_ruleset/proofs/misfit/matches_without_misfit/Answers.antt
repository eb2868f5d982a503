use Rattle.npf_ruleset.proofs.MisfitLemmas.{matches_without_misfit_lem}
use Rattle.npf_ruleset.proofs.misfit.matches_without_misfit.Goals as goal

pub returns : goal.returns
returns c = matches_without_misfit_lem
