use Rattle.std.proofs.Common.{sym}
use Rattle.npf_lexer.proofs.RunLemmas.{word_is_run}
use Rattle.npf_lexer.proofs.run.run_of.Goals as goal

pub returns-in-None : goal.returns-in-None
returns-in-None c = word_is_run c.args.run.now c.word_run.result (sym c.if-is_decimal.ensures) c.in-None.ensures c.word_run.ensures
