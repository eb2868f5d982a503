-- Where no change is written, no line of a command that begins with one has these arguments.
use Rattle.std.proofs.Common.{◌≡◌, ℕ, List}
use Rattle.npf_types.specs.declared.name.Name.{Name}
use Rattle.npf_ctl_script.specs.declared.{command.LineCommand.LineCommand, script.ScriptLine.ScriptLine}
use Rattle.npf_ctl_script.specs.declared.command.LineCommand.TheVariants as Commands
use Rattle.npf_ctl_script.specs.declared.{script.ScriptLine.TheVariants.{RuleAdd, RuleRem, RuleFlush, TableAdd, TableRem}, change_word.Verb.Verb}
use Rattle.npf_ctl_script.specs.{declared.change_word.Verb.TheVariants.{Add, RemId, Rem, Flush}, Arguments.{HasArguments, IsChange}, Commands.command_of}

module _ (text : List ℕ) where
  -- no line of the command has these arguments
  abbrev None_of : LineCommand → Type 0
  None_of command = (said : ScriptLine) → command_of said ≡ command → ¬ HasArguments text said

  pub no_rule : ((name : Name) (verb : Verb) → ¬ IsChange text name verb) → None_of Commands.Rule
  no_rule none (RuleAdd name rule) is has = none name Add has.0
  no_rule none (RuleRem name id) is has = none name RemId has.0
  no_rule none (RuleFlush name) is has = none name Flush has.0
  no_rule none _ is has = cc

  pub no_table : ((name : Name) (verb : Verb) → ¬ IsChange text name verb) → None_of Commands.Table
  no_table none (TableAdd name prefix) is has = none name Add has.0
  no_table none (TableRem name prefix) is has = none name Rem has.0
  no_table none _ is has = cc
