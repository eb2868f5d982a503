-- The header of ICMPv6 (RFC 4443 section 2.1): 0: type, 1: code, 2: checksum; in an echo message
-- (section 4) 4: identifier, 6: sequence number.
use Rattle.std.specs.Prelude.{ℕ, ◌+◌, Option, List, slice_index}
use Rattle.npf_types.specs.declared.facts.L4.TheVariants.{Icmp6}
use Rattle.npf_packet.specs.declared.decoded.Decoded.{Decoded}
use Rattle.npf_packet.specs.declared.packet.IpPacket.{IpPacket}
use Rattle.npf_packet.specs.Field.{icmp_type, icmp_code}
use Rattle.npf_packet.specs.Icmp.{echo_of}
use Rattle.npf_packet.specs.Packet.{with_header}

-- an echo request has type 128, and its reply type 129
abbrev pub echo_in_icmpv6 : List ℕ → ℕ → Option ℕ
echo_in_icmpv6 bytes at = echo_of 128 129 bytes at

abbrev pub decoding_icmpv6 : List ℕ → IpPacket → Decoded
decoding_icmpv6 bytes packet =
    let at = packet.l4_at in
    let kind = slice_index bytes (at + icmp_type) in
    let code = slice_index bytes (at + icmp_code) in
    with_header packet 8 (Icmp6 kind code (echo_in_icmpv6 bytes at))
