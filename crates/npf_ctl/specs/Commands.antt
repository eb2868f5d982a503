-- What the words of a command line name, as the layers below take it.
use Rattle.std.specs.Prelude.{Bool, true, false, Option, Some, None}
use Rattle.npf_types.specs.declared.direction.Dir.{Dir}
use Rattle.npf_types.specs.declared.name.Name.{Name}
use Rattle.npf_ctl_input.specs.declared.tap.NamedTap.{NamedTap}
use Rattle.npf_ctl_input.specs.Source.{first_tap}
use Rattle.npf_ctl_prepare.specs.Prepares.{RunNames}
use Rattle.npf_traffic.specs.declared.phase.Spread.{Spread}
use Rattle.npf_traffic.specs.declared.phase.Spread.TheVariants as Dealt
use Rattle.npf_ctl_words.specs.declared.command.Invocation.{Invocation}
use Rattle.npf_ctl_words.specs.declared.command.Invocation.TheVariants.{Run, Validate, Show, Debug, Why, WhyAll, Explain, Query, Check, Lint, Compare, Gen}
use Rattle.npf_ctl_words.specs.declared.command.CheckWords.{CheckWords}
use Rattle.npf_ctl_words.specs.declared.command.CompareWords.{CompareWords}
use Rattle.npf_ctl_words.specs.declared.command.ExplainWords.{ExplainWords}
use Rattle.npf_ctl_words.specs.declared.command.LintWords.{LintWords}
use Rattle.npf_ctl_words.specs.declared.command.Load.{Load as LoadWords}
use Rattle.npf_ctl_words.specs.declared.command.QueryWords.{QueryWords}
use Rattle.npf_ctl_words.specs.declared.command.RunWords.{RunWords}
use Rattle.npf_ctl_words.specs.declared.command.SpreadWord.{SpreadWord}
use Rattle.npf_ctl_words.specs.declared.command.SpreadWord.TheVariants as Said
use Rattle.npf_ctl_words.specs.CommandLine.{given_text}

-- where a capture alone was recorded: where either is said, the other is that of a capture of which nothing is
abbrev pub tap_said : Option Name → Option Dir → Option NamedTap
tap_said None None = None
tap_said (Some name) None = Some (record first_tap { name = name })
tap_said None (Some dir) = Some (record first_tap { dir = dir })
tap_said (Some name) (Some dir) = Some (record { name = name; dir = dir })

abbrev pub names_of_run : RunWords → RunNames
names_of_run run = record { conf = run.conf.now; script = run.script.now; ifaces = given_text run.ifaces; tap = tap_said run.on run.dir; every = run.expire }

abbrev pub spread_said : SpreadWord → Spread
spread_said Said.Rr = Dealt.Rr
spread_said Said.Flow = Dealt.Flow

-- what a question loads
abbrev pub load_of_explain : ExplainWords → LoadWords
load_of_explain words = record { conf = words.conf; ifaces = words.ifaces }

abbrev pub load_of_query : QueryWords → LoadWords
load_of_query words = record { conf = words.conf; ifaces = words.ifaces }

abbrev pub load_of_check : CheckWords → LoadWords
load_of_check words = record { conf = words.conf; ifaces = words.ifaces }

abbrev pub load_of_lint : LintWords → LoadWords
load_of_lint words = record { conf = words.conf; ifaces = words.ifaces }

-- `compare` asks of the old configuration, by the new one
abbrev pub load_of_compare : CompareWords → LoadWords
load_of_compare words = record { conf = words.old; ifaces = words.ifaces }

-- what a command loads that looks at one configuration, explains its faults, or asks something of it
abbrev pub loaded_by : Invocation → Option LoadWords
loaded_by (Run run) = None
loaded_by (Validate load) = Some load
loaded_by (Show load) = Some load
loaded_by (Debug load) = Some load
loaded_by (Why load) = Some load
loaded_by (WhyAll load) = Some load
loaded_by (Explain words) = Some (load_of_explain words)
loaded_by (Query words) = Some (load_of_query words)
loaded_by (Check words) = Some (load_of_check words)
loaded_by (Lint words) = Some (load_of_lint words)
loaded_by (Compare words) = Some (load_of_compare words)
loaded_by (Gen number) = None

-- the command asks something of a configuration
abbrev pub is_question : Invocation → Bool
is_question (Explain words) = true
is_question (Query words) = true
is_question (Check words) = true
is_question (Lint words) = true
is_question (Compare words) = true
is_question _ = false
