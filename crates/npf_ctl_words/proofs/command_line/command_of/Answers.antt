use Rattle.std.proofs.Common.{codes}
use Rattle.clap.specs.Words.{found_of, rows_of}
use Rattle.npf_ctl_words.specs.declared.command.CommandName.TheVariants as name
use Rattle.npf_ctl_words.proofs.SayLemmas.{conf_of_load, conf_of_why, known}
use Rattle.npf_ctl_words.proofs.command_line.command_of.Goals as goal

pub run_of-requires : goal.run_of-requires
run_of-requires c = known c.args.name name.Run (rows_of (found_of c.args.matches.now)) c.in-Run.is c.requires

pub load_of-requires : goal.load_of-requires
load_of-requires c =
    let rows = rows_of (found_of c.args.matches.now) in
    conf_of_load (codes "validate") rows (known c.args.name name.Validate rows c.in-Validate.is c.requires)

pub load_of-requires-in-Show : goal.load_of-requires-in-Show
load_of-requires-in-Show c =
    let rows = rows_of (found_of c.args.matches.now) in
    conf_of_load (codes "show") rows (known c.args.name name.Show rows c.in-Show.is c.requires)

pub load_of-requires-in-Debug : goal.load_of-requires-in-Debug
load_of-requires-in-Debug c =
    let rows = rows_of (found_of c.args.matches.now) in
    conf_of_load (codes "debug") rows (known c.args.name name.Debug rows c.in-Debug.is c.requires)

pub why_of-requires : goal.why_of-requires
why_of-requires c =
    let rows = rows_of (found_of c.args.matches.now) in
    conf_of_why rows (known c.args.name name.Why rows c.in-Why.is c.requires)

pub explain_of-requires : goal.explain_of-requires
explain_of-requires c = known c.args.name name.Explain (rows_of (found_of c.args.matches.now)) c.in-Explain.is c.requires

pub query_of-requires : goal.query_of-requires
query_of-requires c = known c.args.name name.Query (rows_of (found_of c.args.matches.now)) c.in-Query.is c.requires

pub check_of-requires : goal.check_of-requires
check_of-requires c = known c.args.name name.Check (rows_of (found_of c.args.matches.now)) c.in-Check.is c.requires

pub lint_of-requires : goal.lint_of-requires
lint_of-requires c = known c.args.name name.Lint (rows_of (found_of c.args.matches.now)) c.in-Lint.is c.requires

pub compare_of-requires : goal.compare_of-requires
compare_of-requires c = known c.args.name name.Compare (rows_of (found_of c.args.matches.now)) c.in-Compare.is c.requires

pub number_in-requires : goal.number_in-requires
number_in-requires c = known c.args.name name.Gen (rows_of (found_of c.args.matches.now)) c.in-Gen.is c.requires
