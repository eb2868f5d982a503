use Rattle.npf_connsave.proofs.LawLemmas.{one_saved_text, saves_again}
use Rattle.npf_connsave.proofs.laws.saved_text_law.Goals as goal

pub returns-clause-one : goal.returns-clause-one
returns-clause-one c = one_saved_text

pub returns-clause-again : goal.returns-clause-again
returns-clause-again c = saves_again
