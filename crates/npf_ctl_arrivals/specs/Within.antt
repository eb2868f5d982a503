-- What is known of all packets that are gathered.
use Rattle.std.specs.Prelude.{◌≤◌, ℕ, All, length}
use Rattle.npf_types.specs.declared.interface.IfId.{IfId}
use Rattle.npf_types.specs.declared.limits.TheConstants.{MAX_BYTES_OF_CAPTURES, MAX_PACKETS}
use Rattle.npf_pcap.specs.Spelling.{IsCaptureTime}
use Rattle.npf_traffic.specs.declared.packet.Packet.{Packet}
use Rattle.npf_traffic.specs.Packet.{IsShortPacket}
use Rattle.npf_ctl_arrivals.specs.Arrivals.{Gathered}

-- a capture can hold its time
abbrev pub HasCaptureTime : Packet → Type 0
HasCaptureTime packet = IsCaptureTime packet.time

-- it is the number of one of so many interfaces
pub record IsInterfaceNumber (count : ℕ) (ifid : IfId) : Type 0 where
  pub low : 1 ≤ ifid.0
  pub high : ifid.0 ≤ count

abbrev pub CrossesOneOf : ℕ → Packet → Type 0
CrossesOneOf count packet = IsInterfaceNumber count packet.ifid

-- what is gathered is no more than a run may have, of packets that may be handled and written
pub record IsWithinRun (gathered : Gathered) : Type 0 where
  pub bytes : gathered.bytes ≤ MAX_BYTES_OF_CAPTURES
  pub count : length gathered.packets ≤ MAX_PACKETS
  pub short : All IsShortPacket gathered.packets
  pub timed : All HasCaptureTime gathered.packets
