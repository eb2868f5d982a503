use Rattle.npf_ruleset.proofs.MisfitLemmas.{applies_without_misfit_lem}
use Rattle.npf_ruleset.proofs.misfit.applies_without_misfit.Goals as goal

pub returns : goal.returns
returns c = applies_without_misfit_lem
