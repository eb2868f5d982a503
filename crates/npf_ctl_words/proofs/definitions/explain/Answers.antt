use Rattle.std.proofs.Common.{◌∙◌, ap₂}
use Rattle.clap.specs.Words.{with_rule}
use Rattle.npf_ctl_words.proofs.definitions.explain.Goals as goal

pub returns : goal.returns
returns c = c.in_ok-command.ensures.shape c.option.ensures.local
    ∙ ap₂ with_rule (c.in_ok-arg-4.ensures.shape c.word-4.ensures.local
    ∙ ap₂ with_rule (c.in_ok-arg-3.ensures.shape c.word-3.ensures.local
    ∙ ap₂ with_rule (c.in_ok-arg-2.ensures.shape c.word-2.ensures.local
    ∙ ap₂ with_rule (c.in_ok-arg.ensures.shape c.word.ensures.local
    ∙ ap₂ with_rule c.new.ensures.app c.word.ensures.rule) c.word-2.ensures.rule) c.word-3.ensures.rule) c.word-4.ensures.rule) c.option.ensures.rule
