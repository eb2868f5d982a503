-- The capture that is written of a run: the packets that passed, in order, with their times, each as it was sent, from its IP header to the
-- IP packet's end.
use Rattle.std.specs.Prelude.{◌≡◌, ℕ, ◌-◌, if◌then◌else◌, true, false, List, [], ◌∷◌, ◌++◌, take, drop}
use Rattle.std.specs.List.{flat_map}
use Rattle.npf_types.specs.declared.facts.Facts.{Facts}
use Rattle.npf_pcap.specs.declared.capture.Record.{Record}
use Rattle.npf_pcap.specs.Spelling.{record_bytes, record_with}
use Rattle.npf_packet.specs.declared.decoded.Decoded.TheVariants.{Ip}
use Rattle.npf_packet.specs.declared.extent.IpExtent.{IpExtent}
use Rattle.npf_packet.specs.Decoder.{Decodes}
use Rattle.npf_engine.specs.declared.outcome.Outcome.{Outcome}
use Rattle.npf_engine.specs.Outcome.{passes}
use Rattle.npf_traffic.specs.declared.packet.Packet.{Packet}

-- the bytes of the IP packet that a record with these facts carries
abbrev pub ip_bytes : Facts → List ℕ → List ℕ
ip_bytes facts bytes = take (facts.end - facts.ip_at) (drop facts.ip_at bytes)

-- what is written of a packet that was sent so, where its own bytes have these facts
pub record IsWrittenAs (packet output : Packet) (r : Record) : Type 0 where
  pub facts : Facts
  pub says : Decodes packet.link packet.bytes (Ip facts)
  pub time : r.time ≡ packet.time
  pub bytes : r.bytes ≡ ip_bytes facts output.bytes

-- what is written of packets with these outcomes: of each that passed, and of no other
pub data AreWritten : List Packet → List Packet → List Outcome → List Record → Type 0 where
  none : AreWritten [] [] [] []
  passed : {packet output : Packet} {outcome : Outcome} {r : Record} {packets outputs : List Packet} {outcomes : List Outcome} {records : List Record} →
      passes outcome ≡ true → IsWrittenAs packet output r → AreWritten packets outputs outcomes records →
      AreWritten (packet ∷ packets) (output ∷ outputs) (outcome ∷ outcomes) (r ∷ records)
  kept : {packet output : Packet} {outcome : Outcome} {packets outputs : List Packet} {outcomes : List Outcome} {records : List Record} →
      passes outcome ≡ false → AreWritten packets outputs outcomes records →
      AreWritten (packet ∷ packets) (output ∷ outputs) (outcome ∷ outcomes) records

-- the record of a packet that is written from this extent of its record's bytes
abbrev pub record_from : IpExtent → Packet → Record
record_from extent output = record_with output.time (take (extent.end - extent.at) (drop extent.at output.bytes))

-- the record of a packet, if it passed
abbrev pub records_from : IpExtent → Packet → Outcome → List Record
records_from extent output outcome = if passes outcome then record_from extent output ∷ [] else []

abbrev pub written_records : List IpExtent → List Packet → List Outcome → List Record
written_records (extent ∷ extents) (output ∷ outputs) (outcome ∷ outcomes) =
    records_from extent output outcome ++ written_records extents outputs outcomes
written_records _ _ _ = []

-- the bytes of the records of the packets from this place on
abbrev pub bytes_behind : List IpExtent → List Packet → List Outcome → ℕ → List ℕ
bytes_behind extents outputs outcomes place = flat_map record_bytes (written_records (drop place extents) (drop place outputs) (drop place outcomes))
