-- The one spelling that a written capture has: the lowest byte first, nanoseconds, and link type 101.
use Rattle.std.specs.Prelude.{ℕ, ◌*◌, ◌^◌, ◌<◌, ◌≤◌, ◌++◌, ◌/◌, ◌%◌, List, length}
use Rattle.std.specs.List.{flat_map}
use Rattle.byteorder.specs.Endian.{little_bytes}
use Rattle.npf_types.specs.declared.limits.TheConstants.{MAX_PACKET_BYTES}
use Rattle.npf_pcap.specs.declared.capture.Record.{Record}

-- the magic number of nanoseconds, version 2.4, time zone 0, accuracy 0, a snap length as long as a packet may be, and
-- link type 101
abbrev pub header_bytes : List ℕ
header_bytes =
    little_bytes 4 0xa1b23c4d ++ little_bytes 2 2 ++ little_bytes 2 4 ++ little_bytes 4 0 ++ little_bytes 4 0
    ++ little_bytes 4 MAX_PACKET_BYTES ++ little_bytes 4 101

-- a packet with this time and these bytes
abbrev pub record_with : ℕ → List ℕ → Record
record_with time bytes = record { time = time; bytes = bytes }

-- seconds and nanoseconds, twice the number of the bytes, and the bytes
abbrev pub record_bytes : Record → List ℕ
record_bytes r =
    little_bytes 4 (r.time / 10 ^ 9) ++ little_bytes 4 (r.time % 10 ^ 9) ++ little_bytes 4 (length r.bytes)
    ++ little_bytes 4 (length r.bytes) ++ r.bytes

-- a capture of these records
abbrev pub capture_bytes : List Record → List ℕ
capture_bytes records = header_bytes ++ flat_map record_bytes records

-- the seconds of a time in nanoseconds have 32 bits
abbrev pub IsCaptureTime : ℕ → Type 0
IsCaptureTime time = time < 4294967296 * 10 ^ 9

-- what a capture can hold: no more bytes than a packet may have, and a time whose seconds have 32 bits
pub record FitsCapture (r : Record) : Type 0 where
  pub short : length r.bytes ≤ MAX_PACKET_BYTES
  pub time : IsCaptureTime r.time
