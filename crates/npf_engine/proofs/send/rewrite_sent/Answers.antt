use Rattle.std.proofs.Common.{sym, ◌∙◌}
use Rattle.npf_engine.proofs.AnswerLemmas.{rewritten_alone, rewritten_with}
use Rattle.npf_engine.proofs.send.rewrite_sent.Goals as goal

pub returns-in-None : goal.returns-in-None
returns-in-None c =
    rewritten_alone _ _ _ _ _ _ c.normalize.ensures c.args.rewriting.now.translation (sym c.quoted_by-quoted.ensures.value ∙ c.in-None.is) c.translate.ensures

pub returns-in-Some : goal.returns-in-Some
returns-in-Some c =
    rewritten_with _ _ _ _ _ _ c.normalize.ensures c.args.rewriting.now.translation c.in-Some.inner
    (sym c.quoted_by-quoted.ensures.value ∙ c.in-Some.is) c.translate_error.ensures
