use Rattle.npf_engine.proofs.AnswerLemmas.{answers_by_conn}
use Rattle.npf_engine.proofs.answer.Answer.by_conn.Goals as goal

pub returns-clause-explains : goal.returns-clause-explains
returns-clause-explains c = answers_by_conn c.args.met.now _ c.taken.ensures.outcome c.taken.ensures.rewriting
