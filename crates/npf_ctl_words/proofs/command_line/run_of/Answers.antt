use Rattle.clap.specs.Words.{found_of, rows_of}
use Rattle.npf_ctl_words.proofs.SayLemmas.{spread_of_run}
use Rattle.npf_ctl_words.proofs.command_line.run_of.Goals as goal

pub value-requires : goal.value-requires
value-requires c = spread_of_run (rows_of (found_of c.args.matches.now)) c.requires
