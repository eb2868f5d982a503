use Rattle.std.proofs.Common.{◌∙◌, ap₂}
use Rattle.clap.specs.Words.{with_rule}
use Rattle.npf_ctl_words.proofs.definitions.run.Goals as goal

pub returns : goal.returns
returns c = c.in_ok-command.ensures.shape c.option-7.ensures.local
    ∙ ap₂ with_rule (c.in_ok-arg-10.ensures.shape c.option-6.ensures.local
    ∙ ap₂ with_rule (c.in_ok-arg-9.ensures.shape c.option-5.ensures.local
    ∙ ap₂ with_rule (c.in_ok-arg-8.ensures.shape c.option-4.ensures.local
    ∙ ap₂ with_rule (c.in_ok-arg-7.ensures.shape c.option-3.ensures.local
    ∙ ap₂ with_rule (c.in_ok-arg-6.ensures.shape c.option-2.ensures.local
    ∙ ap₂ with_rule (c.in_ok-arg-5.ensures.shape c.spread.ensures.local
    ∙ ap₂ with_rule (c.in_ok-arg-4.ensures.shape c.workers.ensures.local
    ∙ ap₂ with_rule (c.in_ok-arg-3.ensures.shape c.option.ensures.local
    ∙ ap₂ with_rule (c.in_ok-arg-2.ensures.shape c.word-2.ensures.local
    ∙ ap₂ with_rule (c.in_ok-arg.ensures.shape c.word.ensures.local
    ∙ ap₂ with_rule c.new.ensures.app c.word.ensures.rule) c.word-2.ensures.rule) c.option.ensures.rule)
    c.workers.ensures.rule) c.spread.ensures.rule) c.option-2.ensures.rule) c.option-3.ensures.rule) c.option-4.ensures.rule) c.option-5.ensures.rule)
    c.option-6.ensures.rule) c.option-7.ensures.rule
