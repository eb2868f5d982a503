-- The packets of a run: those of its captures, one capture after another, and then all of them by time.
use Rattle.std.specs.Prelude.{◌≢◌, ◌+◌, ℕ, nat_le, None, Result, Ok, Err, List, [], ◌++◌, length, map}
use Rattle.std.specs.List.Sorted.{IsPermutation, IsSortedByKey, IsStableByKey}
use Rattle.std.specs.Ordering.{nat_cmp}
use Rattle.npf_types.specs.declared.direction.Dir.{Dir}
use Rattle.npf_types.specs.declared.interface.IfId.{IfId}
use Rattle.npf_types.specs.declared.limits.TheConstants.{MAX_BYTES_OF_CAPTURES, MAX_PACKETS}
use Rattle.npf_types.specs.declared.link.Link.{Link}
use Rattle.npf_types.specs.Stages.{Stage, ◌andthen◌, gives, asks_that}
use Rattle.npf_pcap.specs.declared.capture.Record.{Record}
use Rattle.npf_pcap.specs.declared.fault.CaptureFault.{CaptureFault}
use Rattle.npf_pcap.specs.declared.fault.CaptureFault.TheVariants as Captures
use Rattle.npf_pcap.specs.Capture.{IsCapture, HasCaptureFault}
use Rattle.npf_traffic.specs.declared.packet.Packet.{Packet}
use Rattle.npf_ctl_messages.specs.declared.fault.CommandFault.{CommandFault}
use Rattle.npf_ctl_messages.specs.declared.fault.CommandFault.TheVariants.{Capture, Many}
use Rattle.npf_ctl_messages.specs.declared.fault.Quantity.TheVariants.{CaptureBytes, Packets}

-- a file is a capture of this link with these records, or is none for the first test that it fails
pub data ReadsCapture (file bytes : List ℕ) : Result (Link × List Record) CommandFault → Type 0 where
  spelled : {link : Link} {records : List Record} → IsCapture bytes link records → ReadsCapture file bytes (Ok (link, records))
  refused : {fault : CaptureFault} → HasCaptureFault bytes fault → fault ≢ Captures.NoMemory → ReadsCapture file bytes (Err (Capture file fault))

-- the packet of a record that crossed this interface, this way, and isn't held
abbrev pub packet_of : Link → IfId → Dir → Record → Packet
packet_of link ifid dir r = record { time = r.time; link = link; ifid = ifid; dir = dir; held = None; bytes = r.bytes }

-- the captures that were read so far: how many bytes they have, and their packets
pub record Gathered : Type 0 where
  pub bytes : ℕ
  pub packets : List Packet

abbrev pub none_gathered : Gathered
none_gathered = record { bytes = 0; packets = [] }

abbrev pub with_capture : Gathered → List ℕ → IfId → Dir → Link × List Record → Gathered
with_capture gathered bytes ifid dir capture =
    record { bytes = gathered.bytes + length bytes; packets = gathered.packets ++ map (packet_of capture.0 ifid dir) capture.1 }

-- so many bytes and packets of all captures are no more than a run may have
abbrev pub AreWithinRun : ℕ → ℕ → Stage (Unit {0}) CommandFault
AreWithinRun bytes packets =
    asks_that (nat_le bytes MAX_BYTES_OF_CAPTURES) (Many CaptureBytes bytes) andthen λ _.
    asks_that (nat_le packets MAX_PACKETS) (Many Packets packets)

abbrev pub KeepsWithinRun : Gathered → Stage (Unit {0}) CommandFault
KeepsWithinRun gathered = AreWithinRun gathered.bytes (length gathered.packets)

-- the bytes of a file whose packets crossed this interface, this way, are gathered with the others
abbrev pub GathersCapture : Gathered → List ℕ → IfId → Dir → List ℕ → Stage Gathered CommandFault
GathersCapture gathered file ifid dir bytes =
    ReadsCapture file bytes andthen λ capture.
    let more = with_capture gathered bytes ifid dir capture in
    KeepsWithinRun more andthen λ _. gives more

-- the packets by time, those of one time as they were gathered
pub record AreByTime (gathered packets : List Packet) : Type 0 where
  pub same : IsPermutation gathered packets
  pub sorted : IsSortedByKey (λ packet. packet.time) nat_cmp packets
  pub stable : IsStableByKey (λ packet. packet.time) nat_cmp gathered packets
