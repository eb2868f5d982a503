use Rattle.npf_engine.proofs.AnswerLemmas.{answers_by_quoted}
use Rattle.npf_engine.proofs.answer.Answer.by_quoted.Goals as goal

pub returns-clause-explains : goal.returns-clause-explains
returns-clause-explains c = answers_by_quoted c.args.met.now _ c.taken.ensures.outcome c.taken.ensures.rewriting
