use Rattle.std.proofs.Common.{ap, ◌∙◌}
use Rattle.npf_engine_opening.specs.declared.attempt.Opened.{Opened}
use Rattle.npf_engine.{specs.Explains.LacksConnection, proofs.AnswerLemmas.tried_open}
use Rattle.npf_engine.proofs.open.answer_tried.Goals as goal

pub returns-in-Open-clause-explains : goal.returns-in-Open-clause-explains
returns-in-Open-clause-explains c = λ sight room.
    tried_open c.args.passed.now _ c.args.opened c.in-Open.id c.in-Open.there c.in-Open.is c.passed.ensures.outcome c.passed.ensures.rewriting sight

pub returns-in-Known-clause-explains : goal.returns-in-Known-clause-explains
returns-in-Known-clause-explains c = λ sight room. rw c.in-Known.is (c.answer_known.ensures.explains sight)

pub returns-in-Refused-clause-explains : goal.returns-in-Refused-clause-explains
returns-in-Refused-clause-explains c = λ sight room.
    c.answer_refused.ensures.explains sight c.args.opened
    (rw c.in-Refused.is (LacksConnection.refused (λ full. room (c.in-Refused.is ∙ ap Opened.Refused full))))
