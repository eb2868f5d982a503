-- When what a run is prepared from is one, and when two faults of a command are told alike.
use Rattle.std.specs.Prelude.{◌≡◌, ℕ, Result, List}
use Rattle.std.specs.List.{AllZip}
use Rattle.npf_types.specs.Stages.{Stage}
use Rattle.npf_faults.specs.declared.fault.ConfFault.{ConfFault}
use Rattle.npf_config_law.specs.Answers.{AreOne}
use Rattle.npf_config_law.specs.Entries.{AreOneConfiguration}
use Rattle.npf_config_law.specs.Readings.{StandAlike}
use Rattle.npf_ctl_messages.specs.declared.fault.CommandFault.{CommandFault}
use Rattle.npf_ctl_messages.specs.declared.fault.CommandFault.TheVariants.{Configuration, Line}
use Rattle.npf_ctl_messages.specs.declared.fault.LineFault.TheVariants.{BadLine, Conf}
use Rattle.npf_ctl_prepare.specs.Prepares.{RunPlan}

-- the plans are one, but for the order of the entries of each configuration's tables
pub record AreOnePlan (one other : RunPlan) : Type 0 where
  pub ifaces : one.ifaces ≡ other.ifaces
  pub configs : AllZip AreOneConfiguration one.configs other.configs
  pub packets : one.packets ≡ other.packets
  pub phases : one.phases ≡ other.phases

-- The faults are one; or they are faults of one text that stand alike, those of a file or of the rule that a line of a script writes; or both
-- are lines of one script that are bad, of which the numbers aren't compared.
pub data EndAlike : CommandFault → CommandFault → Type 0 where
  equal : {one other : CommandFault} → one ≡ other → EndAlike one other
  in_text : {file : List ℕ} {one other : ConfFault} → StandAlike one other → EndAlike (Configuration file one) (Configuration file other)
  on_line : {script : List ℕ} {line : ℕ} {one other : ConfFault} → StandAlike one other → EndAlike (Line script line (Conf one)) (Line script line (Conf other))
  bad_lines : {script : List ℕ} {line other : ℕ} → EndAlike (Line script line BadLine) (Line script other BadLine)

-- whatever the two stages come to, it is one, or both end in faults that are told alike
abbrev pub Agree : {A : Type 0} → (A → A → Type 0) → Stage A CommandFault → Stage A CommandFault → Type 0
Agree {A} Same stage other = (one two : Result A CommandFault) → stage one → other two → AreOne Same EndAlike one two
