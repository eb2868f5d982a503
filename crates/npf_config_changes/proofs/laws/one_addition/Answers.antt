use Rattle.npf_config_changes.proofs.AnswerLemmas.{one_addition}
use Rattle.npf_config_changes.proofs.laws.one_addition.Goals as goal

pub returns : goal.returns
returns c = one_addition
