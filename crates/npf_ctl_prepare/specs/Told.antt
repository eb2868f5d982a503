-- What a line of a script answers, which may change a configuration.
use Rattle.std.specs.Prelude.{◌≡◌, ◌≢◌, ◌+◌, ℕ, Option, Some, None, Result, Ok, Err, IfOk, IfSome, List, [], ◌∷◌, ◌++◌, option_map, unwrap_or}
use Rattle.std.specs.Option.{is_some}
use Rattle.npf_model.specs.declared.iface.Iface.{Iface}
use Rattle.npf_model.specs.Configuration.{Configuration}
use Rattle.npf_outside.specs.Files.{FilesMoment}
use Rattle.npf_ruleset.specs.Configuration.{configuration}
use Rattle.npf_ctl_script.specs.declared.script.ScriptLine.{ScriptLine}
use Rattle.npf_ctl_schedule.specs.Schedule.{makes_change}
use Rattle.npf_ctl_input.specs.Unless.{UnlessMemory}
use Rattle.npf_ruleset.specs.declared.config.Config.{Config}
use Rattle.npf_config.specs.Loaded.{HasNextIds, IsLoaded}
use Rattle.npf_config_changes.specs.declared.fault.ChangeFault.{ChangeFault}
use Rattle.npf_ctl_messages.specs.declared.fault.CommandFault.{CommandFault}
use Rattle.npf_ctl_messages.specs.declared.fault.CommandFault.TheVariants.{NoMemory}
use Rattle.npf_ctl_prepare.specs.Configurations.{MakesNext, told_at_line}

-- the configuration that was made is answered, or the fault at the line, unless memory runs out
abbrev pub TellsChange : List ℕ → ℕ → Result Config ChangeFault → Result (Option Config) CommandFault → Type 0
TellsChange script line (Ok next) answer = answer ≡ Ok (Some next)
TellsChange script line (Err fault) (Err told) = told ≢ NoMemory → told ≡ told_at_line script line fault
TellsChange script line (Err fault) (Ok next) = ⊥

-- a configuration that may be changed further, where so many rules were added at most
pub record IsChangeable (most : ℕ) (config : Config) : Type 0 where
  pub loaded : IsLoaded config
  pub ids : HasNextIds most config.model

-- the next configuration, or the last one where there is none
abbrev pub made_of : Configuration → Option Config → Configuration
made_of last next = unwrap_or (option_map configuration next) last

-- what the line makes of the last configuration, if it makes a change; at most one rule is added
pub record AnswersChange (before after : FilesMoment) (ifaces : List Iface) (script : List ℕ) (last : Config) (line : ℕ × ScriptLine) (answer : Result (Option Config) CommandFault) : Type 0 where
  pub comes : UnlessMemory (made_of (configuration last)) answer (MakesNext before after ifaces script (configuration last) line)
  pub makes : IfOk answer (λ next. is_some next ≡ makes_change line.1)
  pub changeable : (most : ℕ) → HasNextIds most last.model → IfOk answer (λ next. IfSome next (IsChangeable (most + 1)))

-- the configurations and, behind them, the next one, if there is one
abbrev pub with_next : List Config → Option Config → List Config
with_next configs None = configs
with_next configs (Some next) = configs ++ next ∷ []
