-- The words of the script's grammar, and the command of a line.
use Rattle.std.specs.Prelude.{ℕ, List, codes}
use Rattle.npf_types.specs.declared.direction.Dir.{Dir}
use Rattle.npf_types.specs.declared.direction.Dir.TheVariants.{In, Out}
use Rattle.npf_ctl_script.specs.declared.command.LineCommand.{LineCommand}
use Rattle.npf_ctl_script.specs.declared.command.LineCommand.TheVariants as Commands
use Rattle.npf_ctl_script.specs.declared.script.ScriptLine.{ScriptLine}
use Rattle.npf_ctl_script.specs.declared.script.ScriptLine.TheVariants as Lines
use Rattle.npf_ctl_script.specs.declared.change_word.Verb.{Verb}
use Rattle.npf_ctl_script.specs.declared.change_word.Verb.TheVariants.{Add, RemId, Rem, Flush}

abbrev pub command_text : LineCommand → List ℕ
command_text Commands.Capture = codes "capture"
command_text Commands.Phase = codes "phase"
command_text Commands.Packets = codes "packets"
command_text Commands.Reload = codes "reload"
command_text Commands.Rule = codes "rule"
command_text Commands.Table = codes "table"
command_text Commands.Expire = codes "expire"

abbrev pub verb_text : Verb → List ℕ
verb_text Add = codes "add"
verb_text RemId = codes "rem-id"
verb_text Rem = codes "rem"
verb_text Flush = codes "flush"

abbrev pub direction_text : Dir → List ℕ
direction_text In = codes "in"
direction_text Out = codes "out"

abbrev pub command_of : ScriptLine → LineCommand
command_of (Lines.Capture _ _ _) = Commands.Capture
command_of Lines.Phase = Commands.Phase
command_of (Lines.Packets _) = Commands.Packets
command_of (Lines.Reload _) = Commands.Reload
command_of (Lines.RuleAdd _ _) = Commands.Rule
command_of (Lines.RuleRem _ _) = Commands.Rule
command_of (Lines.RuleFlush _) = Commands.Rule
command_of (Lines.TableAdd _ _) = Commands.Table
command_of (Lines.TableRem _ _) = Commands.Table
command_of (Lines.Expire _) = Commands.Expire
