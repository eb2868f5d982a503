use Rattle.std.proofs.Common.{rules}
use Rattle.npf_engine.proofs.AnswerLemmas.{tried_dropped, tried_unkept}
use Rattle.npf_engine.proofs.open.answer_refused.Goals as goal

pub returns-in-Unmapped-clause-explains : goal.returns-in-Unmapped-clause-explains
returns-in-Unmapped-clause-explains c = λ sight opened refused.
    tried_unkept c.args.passed.now _ c.args.why sight opened refused c.in-Unmapped.is c.unkept.ensures.outcome c.unkept.ensures.rewriting

pub returns-in-Static-clause-explains : goal.returns-in-Static-clause-explains
returns-in-Static-clause-explains c = λ sight opened refused.
    tried_dropped c.args.passed.now _ c.args.why sight opened refused (search rules) c.dropped.ensures.outcome c.dropped.ensures.rewriting
