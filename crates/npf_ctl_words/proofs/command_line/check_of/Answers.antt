use Rattle.clap.specs.Words.{found_of, rows_of}
use Rattle.npf_ctl_words.proofs.SayLemmas.{file_of_check, in_range_of_check, steps_of_check}
use Rattle.npf_ctl_words.proofs.command_line.check_of.Goals as goal

pub value-requires-2 : goal.value-requires-2
value-requires-2 c = file_of_check (rows_of (found_of c.args.matches.now)) c.requires

pub value-requires-3 : goal.value-requires-3
value-requires-3 c = steps_of_check (rows_of (found_of c.args.matches.now)) c.requires

pub any_number-requires : goal.any_number-requires
any_number-requires c = in_range_of_check (rows_of (found_of c.args.matches.now)) c.value-3.result.now c.requires c.value-3.ensures
