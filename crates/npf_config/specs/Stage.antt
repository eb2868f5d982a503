-- What a stage that reads no file answers.
use Rattle.npf_faults.specs.declared.fault.ConfFault.{ConfFault}
use Rattle.npf_faults.specs.declared.fault.Refused.{Refused}
use Rattle.npf_config.specs.declared.fault.LoadFault.{LoadFault}
use Rattle.npf_config.specs.declared.fault.LoadFault.TheVariants.{Conf, File, NoMemory}

-- the refusal of a stage of the language
abbrev pub told_by : Refused → LoadFault
told_by (Refused.Fault fault) = Conf fault
told_by Refused.NoMemory = NoMemory

-- a fact of the fault, where there is one; no file is told, and want of memory says nothing
abbrev pub IfConf : (ConfFault → Type 0) → LoadFault → Type 0
IfConf P (Conf fault) = P fault
IfConf P (File span name fault) = ⊥
IfConf P NoMemory = Unit {0}
