-- Where a record has its IP packet: what must be known of a packet before a run writes over its bytes.
use Rattle.std.specs.Prelude.{◌≤◌, List}
use Rattle.std.specs.List.{AllZip}
use Rattle.npf_types.specs.declared.facts.Facts.{Facts}
use Rattle.npf_types.specs.declared.limits.TheConstants.{MAX_PACKET_BYTES}
use Rattle.npf_packet.specs.declared.decoded.Decoded.TheVariants.{Ip}
use Rattle.npf_packet.specs.declared.extent.IpExtent.{IpExtent}
use Rattle.npf_packet.specs.Decoder.{Decodes}
use Rattle.npf_packet.specs.Extent.{IsIpExtent}
use Rattle.npf_traffic.specs.declared.packet.Packet.{Packet}

-- if the packet is one of IP, it has this extent
abbrev pub IsExtentOf : Packet → IpExtent → Type 0
IsExtentOf packet extent = (facts : Facts) → Decodes packet.link packet.bytes (Ip facts) → IsIpExtent facts extent

abbrev pub AreExtentsOf : List Packet → List IpExtent → Type 0
AreExtentsOf packets extents = AllZip IsExtentOf packets extents

-- it ends where a packet may end
abbrev pub EndsInPacket : IpExtent → Type 0
EndsInPacket extent = extent.end ≤ MAX_PACKET_BYTES
