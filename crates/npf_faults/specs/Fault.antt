-- How a fault of a configuration is printed: its number and its name.
use Rattle.std.specs.Prelude.{ℕ, List, codes}
use Rattle.npf_faults.specs.declared.fault.Excess.{Excess}
use Rattle.npf_faults.specs.declared.fault.Fault.{Fault}
use Rattle.npf_faults.specs.declared.fault.Fault.TheVariants.{BadByte, OpenString, NumberTooLarge, Expected, UnknownVariable, UnknownInterface, UnknownService, EmptyList, BadIfaceFile, BadTableFile, NoDefault, TwoDefaults, UnknownTable, UnknownProcedure, FamilyMix, PortNeedsTcpUdp, DuplicateName, BadMap, Unbuilt, TooMany}

-- a row of the table of faults
pub record Printed : Type 0 where
  pub number : ℕ
  pub name : List ℕ

abbrev numbered : ℕ → List ℕ → Printed
numbered number name = record { number = number; name = name }

-- the table of faults
abbrev pub printed : Fault → Printed
printed BadByte = numbered 10 (codes "BadByte")
printed OpenString = numbered 11 (codes "OpenString")
printed NumberTooLarge = numbered 12 (codes "NumberTooLarge")
printed Expected = numbered 20 (codes "Expected")
printed UnknownVariable = numbered 30 (codes "UnknownVariable")
printed UnknownInterface = numbered 31 (codes "UnknownInterface")
printed UnknownService = numbered 32 (codes "UnknownService")
printed EmptyList = numbered 33 (codes "EmptyList")
printed BadIfaceFile = numbered 34 (codes "BadIfaceFile")
printed (BadTableFile _) = numbered 35 (codes "BadTableFile")
printed NoDefault = numbered 40 (codes "NoDefault")
printed TwoDefaults = numbered 41 (codes "TwoDefaults")
printed UnknownTable = numbered 42 (codes "UnknownTable")
printed UnknownProcedure = numbered 43 (codes "UnknownProcedure")
printed FamilyMix = numbered 44 (codes "FamilyMix")
printed PortNeedsTcpUdp = numbered 45 (codes "PortNeedsTcpUdp")
printed DuplicateName = numbered 46 (codes "DuplicateName")
printed BadMap = numbered 47 (codes "BadMap")
printed Unbuilt = numbered 48 (codes "Unbuilt")
printed (TooMany _ _) = numbered 49 (codes "TooMany")

abbrev pub fault_number : Fault → ℕ
fault_number fault = (printed fault).number

abbrev pub fault_name : Fault → List ℕ
fault_name fault = (printed fault).name

abbrev pub excess_name : Excess → List ℕ
excess_name Excess.Rules = codes "rules"
excess_name Excess.Tables = codes "tables"
excess_name Excess.Maps = codes "maps"
excess_name Excess.Procedures = codes "procedures"
excess_name Excess.Elements = codes "elements"
excess_name Excess.Entries = codes "entries"
excess_name Excess.Weight = codes "weight"
excess_name Excess.Instructions = codes "instructions"
