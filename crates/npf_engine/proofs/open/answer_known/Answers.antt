use Rattle.std.proofs.Common.{refl}
use Rattle.npf_engine_opening.specs.declared.attempt.Opened.{Opened}
use Rattle.npf_engine.{specs.Explains.LacksConnection, proofs.AnswerLemmas.tried_known}
use Rattle.npf_engine.proofs.open.answer_known.Goals as goal

pub returns-in-Done-clause-explains : goal.returns-in-Done-clause-explains
returns-in-Done-clause-explains c =
    tried_known c.args.passed.now _ (Opened.Known c.args.holder c.args.answer) c.args.holder c.in-Done.reply c.in-Done.place (rw c.in-Done.is refl) c.by_conn.ensures.explains

pub returns-in-NotLive-clause-explains : goal.returns-in-NotLive-clause-explains
returns-in-NotLive-clause-explains c = λ sight.
    c.answer_refused.ensures.explains sight (Opened.Known c.args.holder c.args.answer) (rw c.in-NotLive.is LacksConnection.ended)
