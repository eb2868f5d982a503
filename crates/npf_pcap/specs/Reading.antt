-- What is wrong with the records of a capture, and with one of them, when a fault is told.
use Rattle.std.specs.Prelude.{◌≡◌, ℕ, List}
use Rattle.npf_pcap.specs.declared.format.Format.{Format}
use Rattle.npf_pcap.specs.declared.fault.CaptureFault.{CaptureFault}
use Rattle.npf_pcap.specs.declared.fault.CaptureFault.TheVariants.{ShortHeader, BadMagic, BadVersion, BadLink, CutRecord, LongRecord, NoMemory}
use Rattle.npf_pcap.specs.Record.{IsFirstBad, EndsInside, IsTooLong}

-- the first record that isn't whole is the one that the fault names, and bad in its way
abbrev pub HasRecordFault : Format → List ℕ → CaptureFault → Type 0
HasRecordFault format bytes ShortHeader = ⊥
HasRecordFault format bytes BadMagic = ⊥
HasRecordFault format bytes BadVersion = ⊥
HasRecordFault format bytes BadLink = ⊥
HasRecordFault format bytes (CutRecord n) = IsFirstBad format (EndsInside format) n bytes
HasRecordFault format bytes (LongRecord n) = IsFirstBad format (IsTooLong format) n bytes
HasRecordFault format bytes NoMemory = Unit {0}

-- the first record of the bytes has this number, and is bad in the way of the fault
abbrev pub FailsRecord : Format → ℕ → List ℕ → CaptureFault → Type 0
FailsRecord format n bytes ShortHeader = ⊥
FailsRecord format n bytes BadMagic = ⊥
FailsRecord format n bytes BadVersion = ⊥
FailsRecord format n bytes BadLink = ⊥
FailsRecord format n bytes (CutRecord m) = (m ≡ n) × EndsInside format bytes
FailsRecord format n bytes (LongRecord m) = (m ≡ n) × IsTooLong format bytes
FailsRecord format n bytes NoMemory = Unit {0}
