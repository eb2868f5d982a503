use Rattle.npf_ctl_words.proofs.SayLemmas.{seconds_read, seconds_unread}
use Rattle.npf_ctl_words.proofs.command_line.seconds_named.Goals as goal

pub returns-in_default-clause-value : goal.returns-in_default-clause-value
returns-in_default-clause-value c = seconds_unread c.args.text.now c.in_default.ensures.value.0

pub returns-then-seconds-gt0-clause-value : goal.returns-then-seconds-gt0-clause-value
returns-then-seconds-gt0-clause-value c = seconds_read c.args.text.now c.in-Ok.seconds c.in-Ok.ensures.value.0.0 c.in-Ok.ensures.value.0.1 c.if-seconds-gt0.true
