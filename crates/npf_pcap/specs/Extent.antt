-- Where a capture's bytes have its packets.
use Rattle.std.specs.Prelude.{ℕ, ◌+◌, ◌≤◌, List, [], ◌∷◌, length, take, drop, map}
use Rattle.npf_types.specs.declared.limits.TheConstants.{MAX_PACKET_BYTES}
use Rattle.npf_pcap.specs.declared.capture.Record.{Record}
use Rattle.npf_pcap.specs.declared.extent.Extent.{Extent}
use Rattle.npf_pcap.specs.Spelling.{IsCaptureTime}

-- the bytes from there on, as many as it says
abbrev pub bytes_at : List ℕ → Extent → List ℕ
bytes_at bytes extent = take extent.len (drop extent.at bytes)

-- the packets that the bytes have there
abbrev pub record_at : List ℕ → Extent → Record
record_at bytes extent = record { time = extent.time; bytes = bytes_at bytes extent }

abbrev pub records_at : List ℕ → List Extent → List Record
records_at bytes = map (record_at bytes)

-- it ends within so many bytes
abbrev pub EndsWithin : ℕ → Extent → Type 0
EndsWithin size extent = extent.at + extent.len ≤ size

-- they stand between two places, one behind the other
abbrev pub StandApart : ℕ → List Extent → ℕ → Type 0
StandApart low [] high = low ≤ high
StandApart low (extent ∷ extents) high = (low ≤ extent.at) × StandApart (extent.at + extent.len) extents high

-- it is no longer than a packet may be
abbrev pub IsShort : Extent → Type 0
IsShort extent = extent.len ≤ MAX_PACKET_BYTES

-- a capture can hold its time
abbrev pub IsTimely : Extent → Type 0
IsTimely extent = IsCaptureTime extent.time
