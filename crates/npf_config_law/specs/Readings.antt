-- What a text of npf.conf(5) loads, with the tables' files that it names, and when two such readings are one: they come to one
-- configuration, or to faults of one number at one place.
use Rattle.std.specs.Prelude.{◌≡◌, ℕ, Result, Ok, Err, List}
use Rattle.npf_faults.specs.declared.fault.ConfFault.{ConfFault}
use Rattle.npf_faults.specs.Fault.{fault_number}
use Rattle.npf_bpf.specs.declared.insn.Insn.{Insn}
use Rattle.npf_model.specs.declared.iface.Iface.{Iface}
use Rattle.npf_model.specs.Configuration.{Configuration}
use Rattle.npf_outside.specs.Files.{FilesMoment}
use Rattle.npf_ruleset.specs.Refusal.{IsWithinLimits}
use Rattle.npf_config.specs.declared.fault.LoadFault.{LoadFault}
use Rattle.npf_config.specs.declared.fault.LoadFault.TheVariants.{Conf, File, NoMemory}
use Rattle.npf_config.specs.FirstConfiguration.{IsFirstConfiguration}
use Rattle.npf_config.specs.Refusal.{RefusesConfiguration, RefusesTableFile}
use Rattle.npf_config_law.specs.Answers.{AreOne}
use Rattle.npf_config_law.specs.Entries.{AreOneConfiguration}

-- the text's configuration, whose rules can be compiled; or why it isn't loaded, but for want of memory
abbrev pub LoadsOrEnds : List Iface → List ℕ → FilesMoment → FilesMoment → Result Configuration LoadFault → Type 0
LoadsOrEnds ifaces text before now (Ok config) = IsFirstConfiguration ifaces before.contents text config × ((programs : List (List Insn)) × IsWithinLimits config.model programs)
LoadsOrEnds ifaces text before now (Err (Conf fault)) = RefusesConfiguration ifaces text before now fault
LoadsOrEnds ifaces text before now (Err (File span name fault)) = RefusesTableFile ifaces text before now span name fault
LoadsOrEnds ifaces text before now (Err NoMemory) = ⊥

-- the faults of a text stand at one place, and have one number
pub record StandAlike (one other : ConfFault) : Type 0 where
  pub place : one.span.at ≡ other.span.at
  pub number : fault_number one.fault ≡ fault_number other.fault

-- the faults are one, or faults of the text that stand alike
pub data AreAlike : LoadFault → LoadFault → Type 0 where
  equal : {one other : LoadFault} → one ≡ other → AreAlike one other
  alike : {one other : ConfFault} → StandAlike one other → AreAlike (Conf one) (Conf other)

-- both readings come to one configuration, or both end in faults that are alike
abbrev pub AreOneLoad : Result Configuration LoadFault → Result Configuration LoadFault → Type 0
AreOneLoad = AreOne AreOneConfiguration AreAlike
