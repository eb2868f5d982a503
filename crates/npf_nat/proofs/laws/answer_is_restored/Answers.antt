use Rattle.npf_nat.proofs.AnswerLemmas.{answer_restored}
use Rattle.npf_nat.proofs.laws.answer_is_restored.Goals as goal

pub returns : goal.returns
returns c = answer_restored
