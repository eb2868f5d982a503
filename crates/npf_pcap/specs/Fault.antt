-- How a fault of a capture is printed: its number, its name, and the number of the record that it speaks of.
use Rattle.std.specs.Prelude.{ℕ, List, Option, Some, None, codes}
use Rattle.npf_pcap.specs.declared.fault.CaptureFault.{CaptureFault}
use Rattle.npf_pcap.specs.declared.fault.CaptureFault.TheVariants.{ShortHeader, BadMagic, BadVersion, BadLink, CutRecord, LongRecord, NoMemory}

-- want of memory is no fault of a capture, and has no number of its own
abbrev pub number_of : CaptureFault → ℕ
number_of ShortHeader = 1
number_of BadMagic = 2
number_of BadVersion = 3
number_of BadLink = 4
number_of (CutRecord _) = 5
number_of (LongRecord _) = 6
number_of NoMemory = 0

abbrev pub name_of : CaptureFault → List ℕ
name_of ShortHeader = codes "ShortHeader"
name_of BadMagic = codes "BadMagic"
name_of BadVersion = codes "BadVersion"
name_of BadLink = codes "BadLink"
name_of (CutRecord _) = codes "CutRecord"
name_of (LongRecord _) = codes "LongRecord"
name_of NoMemory = codes "NoMemory"

abbrev pub record_of : CaptureFault → Option ℕ
record_of ShortHeader = None
record_of BadMagic = None
record_of BadVersion = None
record_of BadLink = None
record_of (CutRecord n) = Some n
record_of (LongRecord n) = Some n
record_of NoMemory = None
