use Rattle.npf_engine.proofs.LongerLemmas.{explains_in_longer}
use Rattle.npf_engine.proofs.laws.explanation_lasts.Goals as goal

pub returns : goal.returns
returns c = explains_in_longer
