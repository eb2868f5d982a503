use Rattle.std.proofs.Common.{sym, ◌∙◌}
use Rattle.npf_engine.proofs.HandlerLemmas.{ruled_by_block, ruled_by_none}
use Rattle.npf_engine.proofs.handler.answer_by_rules.Goals as goal

pub returns-in_default-clause-does : goal.returns-in_default-clause-does
returns-in_default-clause-does g c =
    ruled_by_none c.args.crossing.now c.args.asked.number _ _ _ _ c.unruled.ensures.rewriting (sym c.ruling_of.ensures ∙ c.in_default.is) c.unruled.ensures.outcome

pub returns-in-Block-clause-does : goal.returns-in-Block-clause-does
returns-in-Block-clause-does g c =
    ruled_by_block c.args.crossing.now c.args.asked.number _ _ _ _ c.blocked.ensures.rewriting c.in-Some.ruling c.in-Block.field-0
    (sym c.ruling_of.ensures ∙ c.in-Some.is) c.in-Block.is c.blocked.ensures.outcome
