-- The eleven commands as `clap` defines them: one simple command each, without subcommands.
use Rattle.std.specs.Prelude.{codes, true, Some, [], ◌∷◌, pos}
use Rattle.clap.specs.Words.{App, Rule, Text, new_app, new_rule, with_rule}
use Rattle.clap.specs.declared.builder.ValueParser.{ValueParser}
use Rattle.clap.specs.declared.builder.ValueParser.TheVariants as vp
use Rattle.clap.specs.declared.builder.ArgAction.TheVariants.{Set, SetTrue}
use Rattle.npf_ctl_words.specs.declared.command.CommandName.{CommandName}
use Rattle.npf_ctl_words.specs.declared.command.CommandName.TheVariants as name

-- a word that has to be there, at its place
abbrev pub word_rule : Text → Rule
word_rule id = record (new_rule id) { required = true; action = Some Set }

-- `--id VALUE`, any text, which may be left out
abbrev pub option_rule : Text → Rule
option_rule id = record (new_rule id) { long = Some id; action = Some Set }

-- `--id VALUE`, any text; left out, it has this value
abbrev pub default_rule : Text → Text → Rule
default_rule id value = record (option_rule id) { defaults = value ∷ [] }

-- 1 to 64
abbrev pub workers_parser : ValueParser
workers_parser = vp.Signed (pos 1) (pos 64)

-- `--workers N`; left out, N is 1
abbrev pub workers_rule : Rule
workers_rule = record (default_rule (codes "workers") (codes "1")) { parser = Some workers_parser }

-- `--spread NAME`; left out, NAME is rr. That it is one of the two names is said of what is found (`knows_names`)
abbrev pub spread_rule : Rule
spread_rule = default_rule (codes "spread") (codes "rr")

-- every number of 64 bits
abbrev pub number_parser : ValueParser
number_parser = vp.Unsigned 0 18446744073709551615

abbrev pub number_rule : Rule
number_rule = record (word_rule (codes "number")) { parser = Some number_parser }

-- `--all`, which has no value
abbrev pub all_rule : Rule
all_rule = record (new_rule (codes "all")) { long = Some (codes "all"); action = Some SetTrue }

-- `--steps N`; left out, N is 1000000000
abbrev pub steps_rule : Rule
steps_rule = record (default_rule (codes "steps") (codes "1000000000")) { parser = Some number_parser }

-- NAME CONF [--ifaces FILE]
abbrev pub loading_command : Text → App
loading_command id = with_rule (with_rule (new_app id) (word_rule (codes "conf"))) (option_rule (codes "ifaces"))

-- why CONF [--ifaces FILE] [--all]
abbrev pub reasons_command : App
reasons_command = with_rule (loading_command (codes "why")) all_rule

-- explain CONF IF in|out CLASS [--ifaces FILE]. That IF is a name and the direction one of the two is said of what is found (`knows_names`)
abbrev pub explain_command : App
explain_command =
    let place = with_rule (with_rule (with_rule (new_app (codes "explain")) (word_rule (codes "conf"))) (word_rule (codes "iface"))) (word_rule (codes "dir")) in
    with_rule (with_rule place (word_rule (codes "class"))) (option_rule (codes "ifaces"))

-- query CONF CLASS [--ifaces FILE] [--steps N]
abbrev pub query_command : App
query_command =
    let words = with_rule (with_rule (new_app (codes "query")) (word_rule (codes "conf"))) (word_rule (codes "class")) in
    with_rule (with_rule words (option_rule (codes "ifaces"))) steps_rule

-- check CONF EXPECTATIONS [--ifaces FILE] [--steps N]
abbrev pub check_command : App
check_command =
    let words = with_rule (with_rule (new_app (codes "check")) (word_rule (codes "conf"))) (word_rule (codes "expectations")) in
    with_rule (with_rule words (option_rule (codes "ifaces"))) steps_rule

-- lint CONF [--ifaces FILE] [--steps N]
abbrev pub lint_command : App
lint_command = with_rule (with_rule (with_rule (new_app (codes "lint")) (word_rule (codes "conf"))) (option_rule (codes "ifaces"))) steps_rule

-- compare OLD NEW [--ifaces FILE] [--steps N]
abbrev pub compare_command : App
compare_command =
    let words = with_rule (with_rule (new_app (codes "compare")) (word_rule (codes "old"))) (word_rule (codes "new")) in
    with_rule (with_rule words (option_rule (codes "ifaces"))) steps_rule

-- run CONF SCRIPT [--ifaces FILE] [--workers N] [--spread NAME] [--on IF] [--dir NAME] [--expire SECONDS] [--write FILE] [--load FILE] [--save FILE]
abbrev pub run_command : App
run_command =
    let words = with_rule (with_rule (new_app (codes "run")) (word_rule (codes "conf"))) (word_rule (codes "script")) in
    let ifaces = with_rule words (option_rule (codes "ifaces")) in
    let dealt = with_rule (with_rule ifaces workers_rule) spread_rule in
    let tapped = with_rule (with_rule dealt (option_rule (codes "on"))) (option_rule (codes "dir")) in
    let aging = with_rule tapped (option_rule (codes "expire")) in
    with_rule (with_rule (with_rule aging (option_rule (codes "write"))) (option_rule (codes "load"))) (option_rule (codes "save"))

-- gen NUMBER
abbrev pub gen_command : App
gen_command = with_rule (new_app (codes "gen")) number_rule

-- the definition of each command
abbrev pub definition_of : CommandName → App
definition_of name.Run = run_command
definition_of name.Validate = loading_command (codes "validate")
definition_of name.Show = loading_command (codes "show")
definition_of name.Debug = loading_command (codes "debug")
definition_of name.Why = reasons_command
definition_of name.Explain = explain_command
definition_of name.Query = query_command
definition_of name.Check = check_command
definition_of name.Lint = lint_command
definition_of name.Compare = compare_command
definition_of name.Gen = gen_command
