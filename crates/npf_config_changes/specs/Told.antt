-- How the refusals of what a change calls are told, and what a fault says of a change.
use Rattle.std.specs.Prelude.{◌≢◌, ◌-◌, ◌^◌, ℕ, Err, min}
use Rattle.npf_types.specs.declared.span.Span.{Span}
use Rattle.npf_faults.specs.declared.fault.Excess.{Excess}
use Rattle.npf_faults.specs.declared.fault.Fault.TheVariants.{TooMany}
use Rattle.npf_faults.specs.declared.fault.Refused.{Refused}
use Rattle.npf_faults.specs.declared.fault.Refused.TheVariants as Text
use Rattle.npf_types.specs.Stages.{Stage}
use Rattle.npf_table.specs.declared.fault.TableFault.{TableFault}
use Rattle.npf_table.specs.declared.fault.TableFault.TheVariants as OfTable
use Rattle.npf_config_changes.specs.declared.fault.ChangeFault.{ChangeFault}
use Rattle.npf_config_changes.specs.declared.fault.ChangeFault.TheVariants.{Conf, Table, NoMemory}

abbrev pub told_of_text : Refused → ChangeFault
told_of_text (Text.Fault fault) = Conf fault
told_of_text Text.NoMemory = NoMemory

abbrev pub told_of_table : TableFault → ChangeFault
told_of_table OfTable.NoMemory = NoMemory
told_of_table fault = Table fault

-- a count as it is told: one that passes 64 bits stands still at their end
abbrev pub told_count : ℕ → ℕ
told_count count = min count (2 ^ 64 - 1)

-- a limit is passed, told at this place
abbrev pub too_many : Span → Excess → ℕ → ChangeFault
too_many span excess count = Conf (record { span = span; fault = TooMany excess count })

-- the stages end with this fault; want of memory says nothing of them
abbrev pub EndsUnlessMemory : {A : Type 0} → Stage A ChangeFault → ChangeFault → Type 0
EndsUnlessMemory stage fault = fault ≢ NoMemory → stage (Err fault)
