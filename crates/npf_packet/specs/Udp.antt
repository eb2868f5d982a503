-- The header of UDP (RFC 768): 0: source port, 2: destination port, 4: length, 6: checksum.
use Rattle.std.specs.Prelude.{ℕ, ◌+◌, List}
use Rattle.npf_types.specs.declared.facts.L4.TheVariants.{Udp}
use Rattle.npf_packet.specs.declared.decoded.Decoded.{Decoded}
use Rattle.npf_packet.specs.declared.packet.IpPacket.{IpPacket}
use Rattle.npf_fields.specs.Field.{number16}
use Rattle.npf_packet.specs.Field.{l4_source_port, l4_destination_port}
use Rattle.npf_packet.specs.Packet.{with_header}

abbrev pub decoding_udp : List ℕ → IpPacket → Decoded
decoding_udp bytes packet =
    let sport = number16 bytes (packet.l4_at + l4_source_port) in
    let dport = number16 bytes (packet.l4_at + l4_destination_port) in
    with_header packet 8 (Udp sport dport)
