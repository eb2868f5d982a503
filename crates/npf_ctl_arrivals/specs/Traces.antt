-- The packets of captures that were read, as their bytes have them.
use Rattle.std.specs.Prelude.{ℕ, ◌+◌, List, [], ◌∷◌, length, map}
use Rattle.std.specs.Coded.{×_prop, le_prop}
use Rattle.std.specs.List.{flat_map}
use Rattle.npf_pcap.specs.declared.extent.Extent.{Extent}
use Rattle.npf_pcap.specs.Extent.{StandApart, records_at}
use Rattle.npf_traffic.specs.declared.packet.Packet.{Packet}
use Rattle.npf_ctl_arrivals.specs.declared.trace.Trace.{Trace}
use Rattle.npf_ctl_arrivals.specs.Arrivals.{packet_of}

abbrev pub packets_of_trace : Trace → List Packet
packets_of_trace trace = map (packet_of trace.tap.link trace.tap.ifid trace.tap.dir) (records_at trace.bytes.items trace.extents)

-- they stand in its bytes, one behind the other
abbrev pub IsApart : Trace → Type 0
IsApart trace = StandApart 0 trace.extents (length trace.bytes.items)

-- extents stand apart in one way
pub StandApart-prop : (low : ℕ) (extents : List Extent) (high : ℕ) → IsProp (StandApart low extents high)
StandApart-prop low [] high = le_prop
StandApart-prop low (extent ∷ extents) high = ×_prop le_prop (StandApart-prop (extent.at + extent.len) extents high)

abbrev pub packets_in_traces : List Trace → List Packet
packets_in_traces traces = flat_map packets_of_trace traces
