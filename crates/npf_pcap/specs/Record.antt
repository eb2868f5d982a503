-- The records of a capture: each has a header of 16 bytes, with the seconds, the fraction of a second, the number of
-- bytes stored and the number that the packet had, and then the stored bytes (pcap-savefile(5)).
-- READ 3 of docs/READING.md
use Rattle.std.specs.Prelude.{◌≡◌, ◌≢◌, ℕ, zero, suc, ◌+◌, ◌*◌, ◌^◌, ◌<◌, ◌≤◌, ◌⊎◌, List, [], ◌∷◌, length, take, drop}
use Rattle.npf_types.specs.declared.limits.TheConstants.{MAX_PACKET_BYTES}
use Rattle.npf_pcap.specs.declared.format.Format.{Format}
use Rattle.npf_pcap.specs.declared.capture.Record.{Record}
use Rattle.npf_pcap.specs.Format.{number_at, nanoseconds}

-- how many bytes the first record stores, as its header says
abbrev pub stored_len : Format → List ℕ → ℕ
stored_len format bytes = number_at format.order 4 bytes 8

-- how many bytes the first record takes
abbrev pub record_len : Format → List ℕ → ℕ
record_len format bytes = 16 + stored_len format bytes

-- a record stores at most as many bytes as a packet may have
abbrev pub IsTooLong : Format → List ℕ → Type 0
IsTooLong format bytes = (16 ≤ length bytes) × (MAX_PACKET_BYTES < stored_len format bytes)

-- the bytes end inside the first record, in its header or behind it
abbrev pub EndsInside : Format → List ℕ → Type 0
EndsInside format bytes =
    (bytes ≢ [])
    × ((length bytes < 16) ⊎ ((stored_len format bytes ≤ MAX_PACKET_BYTES) × (length bytes < record_len format bytes)))

-- the bytes begin with a whole record
pub record HasRecord (format : Format) (bytes : List ℕ) : Type 0 where
  pub header : 16 ≤ length bytes
  pub short : stored_len format bytes ≤ MAX_PACKET_BYTES
  pub whole : record_len format bytes ≤ length bytes

-- the first record's time, in nanoseconds
abbrev pub time_of : Format → List ℕ → ℕ
time_of format bytes =
    number_at format.order 4 bytes 0 * 10 ^ 9 + nanoseconds format.precision (number_at format.order 4 bytes 4)

-- the bytes begin with a spelling of this record
pub record Spells (format : Format) (bytes : List ℕ) (r : Record) : Type 0 where
  pub whole : HasRecord format bytes
  pub time : r.time ≡ time_of format bytes
  pub stored : r.bytes ≡ take (stored_len format bytes) (drop 16 bytes)

-- the bytes are the spellings of these records, one behind the other, and nothing else
abbrev pub AreRecords : Format → List ℕ → List Record → Type 0
AreRecords format bytes [] = bytes ≡ []
AreRecords format bytes (r ∷ rs) = Spells format bytes r × AreRecords format (drop (record_len format bytes) bytes) rs

-- behind n whole records the bytes are as `Left` says
abbrev pub AfterRecords : Format → (List ℕ → Type 0) → ℕ → List ℕ → Type 0
AfterRecords format Left zero bytes = Left bytes
AfterRecords format Left (suc n) bytes =
    HasRecord format bytes × AfterRecords format Left n (drop (record_len format bytes) bytes)

-- the n-th record, counted from 1, is the first that isn't whole, and it's bad in this way
abbrev pub IsFirstBad : Format → (List ℕ → Type 0) → ℕ → List ℕ → Type 0
IsFirstBad format Bad zero bytes = ⊥
IsFirstBad format Bad (suc n) bytes = AfterRecords format Bad n bytes
