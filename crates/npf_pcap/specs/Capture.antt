-- A capture file: a header of 24 bytes with the magic number, the version, the time zone, the accuracy, the snap
-- length and the link type, and then the records (pcap-savefile(5)).
-- READ 3 of docs/READING.md
use Rattle.std.specs.Prelude.{◌≡◌, ◌<◌, ◌≤◌, ℕ, List, length, drop}
use Rattle.npf_types.specs.declared.link.Link.{Link}
use Rattle.npf_fields.specs.Field.{number32}
use Rattle.npf_pcap.specs.declared.format.Format.{Format}
use Rattle.npf_pcap.specs.declared.capture.Record.{Record}
use Rattle.npf_pcap.specs.declared.fault.CaptureFault.{CaptureFault}
use Rattle.npf_pcap.specs.declared.fault.CaptureFault.TheVariants.{ShortHeader, BadMagic, BadVersion, BadLink, CutRecord, LongRecord, NoMemory}
use Rattle.npf_pcap.specs.Format.{number_at, magic_of, link_number}
use Rattle.npf_pcap.specs.Record.{AreRecords, IsFirstBad, EndsInside, IsTooLong}

-- the bytes begin with the magic number of this format
abbrev pub HasMagic : Format → List ℕ → Type 0
HasMagic format bytes = number32 bytes 0 ≡ magic_of format.order format.precision

-- the version is 2.4
abbrev pub HasVersion : Format → List ℕ → Type 0
HasVersion format bytes = (number_at format.order 2 bytes 4 ≡ 2) × (number_at format.order 2 bytes 6 ≡ 4)

-- the link type is this one
abbrev pub HasLink : Format → Link → List ℕ → Type 0
HasLink format link bytes = number_at format.order 4 bytes 20 ≡ link_number link

-- the bytes begin with a header of this format, as far as its magic number
pub record Opens (format : Format) (bytes : List ℕ) : Type 0 where
  pub whole : 24 ≤ length bytes
  pub magic : HasMagic format bytes

-- the bytes begin with a header of this format and this link type
pub record HasHeader (format : Format) (link : Link) (bytes : List ℕ) : Type 0 where
  pub opens : Opens format bytes
  pub version : HasVersion format bytes
  pub link_type : HasLink format link bytes

-- all of the bytes: a header with this link type, and behind it the spellings of these records
pub record IsCapture (bytes : List ℕ) (link : Link) (records : List Record) : Type 0 where
  pub format : Format
  pub header : HasHeader format link bytes
  pub spelled : AreRecords format (drop 24 bytes) records

-- the header is whole, and the first record that isn't whole has this number and is bad in this way
pub record HasBadRecord (Bad : Format → List ℕ → Type 0) (n : ℕ) (bytes : List ℕ) : Type 0 where
  pub format : Format
  pub link : Link
  pub header : HasHeader format link bytes
  pub bad : IsFirstBad format (Bad format) n (drop 24 bytes)

-- the magic number is one of a capture, and the version isn't 2.4
pub record HasOtherVersion (bytes : List ℕ) : Type 0 where
  pub format : Format
  pub opens : Opens format bytes
  pub other : ¬ HasVersion format bytes

-- magic number and version are those of a capture, and the link type is none that is known here
pub record HasOtherLink (bytes : List ℕ) : Type 0 where
  pub format : Format
  pub opens : Opens format bytes
  pub version : HasVersion format bytes
  pub other : (link : Link) → ¬ HasLink format link bytes

-- the first test that the bytes fail is that of this fault; want of memory says nothing of the bytes
abbrev pub HasCaptureFault : List ℕ → CaptureFault → Type 0
HasCaptureFault bytes ShortHeader = length bytes < 24
HasCaptureFault bytes BadMagic = (24 ≤ length bytes) × ((format : Format) → ¬ HasMagic format bytes)
HasCaptureFault bytes BadVersion = HasOtherVersion bytes
HasCaptureFault bytes BadLink = HasOtherLink bytes
HasCaptureFault bytes (CutRecord n) = HasBadRecord EndsInside n bytes
HasCaptureFault bytes (LongRecord n) = HasBadRecord IsTooLong n bytes
HasCaptureFault bytes NoMemory = Unit {0}
