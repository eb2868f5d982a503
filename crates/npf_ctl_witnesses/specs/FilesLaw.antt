-- What the files say of each packet.
use Rattle.std.specs.Prelude.{◌≡◌, ℕ, ◌+◌, ◌-◌, ◌*◌, ◌^◌, ◌≤◌, Some, List, ◌++◌, length, slice_get}
use Rattle.npf_types.specs.declared.link.Link.TheVariants.{Raw}
use Rattle.npf_model.specs.declared.iface.Iface.{Iface}
use Rattle.npf_pcap.specs.declared.capture.Record.{Record}
use Rattle.npf_pcap.specs.Capture.{IsCapture}
use Rattle.npf_possible.specs.Possible.{IsPossible}
use Rattle.npf_possible.specs.PossibleLaw.{IsWitness}
use Rattle.npf_products.specs.declared.packet.CellPacket.{CellPacket}
use Rattle.npf_ctl_messages.specs.declared.limit.TheConstants.{MAX_WITNESSES}
use Rattle.npf_ctl_witnesses.specs.declared.files.WitnessFile.{WitnessFile}
use Rattle.npf_ctl_witnesses.specs.WitnessFiles.{capture_line, capture_name, witness_files}

-- the text stands in the whole
pub record IsTextWithin (text whole : List ℕ) : Type 0 where
  pub before : List ℕ
  pub behind : List ℕ
  pub there : whole ≡ before ++ (text ++ behind)

-- the record at a place of the capture is of the packet of this number, sent at as many seconds: its bytes decode to facts that agree with the
-- packet's in all that rules test, where a packet can have these
pub record ShowsPacket (number : ℕ) (packet : CellPacket) (records : List Record) : Type 0 where
  pub place : ℕ
  pub sent : Record
  pub there : slice_get records place ≡ Some sent
  pub time : sent.time ≡ number * 10 ^ 9
  pub told : IsPossible packet.facts → IsWitness packet.facts sent.bytes

-- one of the files is a capture that has the packet of this number, and the last of them, the script, has a line by which this capture comes
-- to the packet's interface in its direction
pub record IsInFiles (ifaces : List Iface) (prefix : List ℕ) (files : List WitnessFile) (number : ℕ) (packet : CellPacket) : Type 0 where
  pub place : ℕ
  pub capture : WitnessFile
  pub there : slice_get files place ≡ Some capture
  pub named : capture.name ≡ capture_name prefix (1 + place)
  pub records : List Record
  pub reads : IsCapture capture.contents Raw records
  pub shows : ShowsPacket number packet records
  pub script : WitnessFile
  pub last : slice_get files (length files - 1) ≡ Some script
  pub comes : IsTextWithin (capture_line ifaces prefix (1 + place, packet)) script.contents

-- each packet is, with its number from 1 on
abbrev pub AreInFiles : List Iface → List CellPacket → List ℕ → List WitnessFile → Type 0
AreInFiles ifaces packets prefix files =
    (place : ℕ) (packet : CellPacket) → slice_get packets place ≡ Some packet → IsInFiles ifaces prefix files (1 + place) packet

-- so it is in the files of as many packets as may be written
abbrev pub WitnessesAreInFiles : Type 0
WitnessesAreInFiles =
    (ifaces : List Iface) (packets : List CellPacket) (prefix : List ℕ) → length packets ≤ MAX_WITNESSES
    → AreInFiles ifaces packets prefix (witness_files ifaces packets prefix)
