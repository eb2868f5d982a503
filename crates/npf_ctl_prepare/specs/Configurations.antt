-- The configurations that a script's changes make, one after another.
-- READ 8 of docs/READING.md
use Rattle.std.specs.Prelude.{ℕ, if◌then◌else◌, List, [], ◌∷◌, ◌++◌}
use Rattle.npf_types.specs.declared.name.Name.{Name}
use Rattle.npf_types.specs.Stages.{Stage, ◌andthen◌, gives, ◌told_by◌}
use Rattle.npf_model.specs.declared.iface.Iface.{Iface}
use Rattle.npf_model.specs.Configuration.{Configuration}
use Rattle.npf_outside.specs.Files.{FilesMoment}
use Rattle.npf_config.specs.Tables.{declared_kinds}
use Rattle.npf_config_changes.specs.declared.fault.ChangeFault.{ChangeFault}
use Rattle.npf_config_changes.specs.declared.fault.ChangeFault.TheVariants as Change
use Rattle.npf_config_changes.specs.Additions.{AddsRule}
use Rattle.npf_config_changes.specs.Changes.{FlushesRules, RemovesRule}
use Rattle.npf_config_changes.specs.Entries.{AddsEntry, RemovesEntry}
use Rattle.npf_ctl_script.specs.declared.script.ScriptLine.{ScriptLine}
use Rattle.npf_ctl_script.specs.declared.script.ScriptLine.TheVariants as Said
use Rattle.npf_ctl_schedule.specs.Schedule.{makes_change}
use Rattle.npf_ctl_messages.specs.declared.fault.CommandFault.{CommandFault}
use Rattle.npf_ctl_messages.specs.declared.fault.CommandFault.TheVariants.{Line, NoMemory}
use Rattle.npf_ctl_messages.specs.declared.fault.LineFault.TheVariants as LineIs
use Rattle.npf_ctl_prepare.specs.Reloads.{ReloadsFile}

-- how a refused change is told, at its line of this script
abbrev pub told_at_line : List ℕ → ℕ → ChangeFault → CommandFault
told_at_line script line (Change.Conf fault) = Line script line (LineIs.Conf fault)
told_at_line script line Change.UnknownTable = Line script line LineIs.UnknownTable
told_at_line script line (Change.Table fault) = Line script line (LineIs.Table fault)
told_at_line script line Change.UnknownRuleset = Line script line LineIs.UnknownRuleset
told_at_line script line Change.UnknownRule = Line script line LineIs.UnknownRule
told_at_line script line Change.NoMemory = NoMemory

-- the configuration with the rule that this text writes
abbrev pub AddsRuleAlone : Configuration → Name → List Iface → List ℕ → Stage Configuration ChangeFault
AddsRuleAlone old name ifaces text = AddsRule old name ifaces text andthen λ added. gives added.0

module _ (before after : FilesMoment) (ifaces : List Iface) (script : List ℕ) where
  -- the configuration that a line makes of the one before it
  abbrev pub MakesNext : Configuration → ℕ × ScriptLine → Stage Configuration CommandFault
  MakesNext old (line, Said.Reload file) = ReloadsFile before after ifaces old file
  MakesNext old (line, Said.RuleAdd name text) = AddsRuleAlone old name ifaces text told_by told_at_line script line
  MakesNext old (line, Said.RuleRem name id) = RemovesRule old name id told_by told_at_line script line
  MakesNext old (line, Said.RuleFlush name) = FlushesRules old name told_by told_at_line script line
  MakesNext old (line, Said.TableAdd name prefix) = AddsEntry (declared_kinds old.model.tables) old name prefix told_by told_at_line script line
  MakesNext old (line, Said.TableRem name prefix) = RemovesEntry (declared_kinds old.model.tables) old name prefix told_by told_at_line script line
  MakesNext old (line, _) = gives old

  -- the configurations of a run: those that were made, of which this is the last, and behind them one for each line that makes a change
  abbrev pub MakesConfigurations : List (ℕ × ScriptLine) → List Configuration → Configuration → Stage (List Configuration) CommandFault
  MakesConfigurations [] made last = gives made
  MakesConfigurations (line ∷ lines) made last =
      MakesNext last line andthen λ next. MakesConfigurations lines (if makes_change line.1 then made ++ next ∷ [] else made) next
