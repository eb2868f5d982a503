use Rattle.std.proofs.Common.{Some, ap, ◌∙◌, rules}
use Rattle.npf_types.specs.declared.change.Change.{Change}
use Rattle.npf_engine.{specs.Answer.own_rewriting, proofs.AnswerLemmas.{ruled_passed, ruled_tried}}
use Rattle.npf_engine.proofs.open.answer_passed.Goals as goal

pub returns-then-not-opens_one-clause-does : goal.returns-then-not-opens_one-clause-does
returns-then-not-opens_one-clause-does g c =
    ruled_passed c.args.crossing.now c.args.passed.now _ c.requires.decided _ (search rules) c.passed.ensures.outcome
    (c.passed.ensures.rewriting ∙ ap (λ (there : Change). Some (own_rewriting c.args.passed.now.ruling.action there)) c.static_change-change.ensures)

pub returns-clause-does : goal.returns-clause-does
returns-clause-does g c =
    ruled_tried c.args.crossing.now c.args.passed.now _ c.requires.decided _ _ _ _ (search rules) c.attempt_of-attempt.ensures
    c.open-opened.ensures.opens c.open-opened.ensures.full c.answer_tried.ensures.explains
