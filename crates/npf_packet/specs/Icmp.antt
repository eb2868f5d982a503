-- The header of ICMP (RFC 792): 0: type, 1: code, 2: checksum; in an echo message 4: identifier, 6:
-- sequence number.
use Rattle.std.specs.Prelude.{ℕ, ◌+◌, ◌==◌, ◌||◌, if◌then◌else◌, Option, Some, None, List, slice_index}
use Rattle.npf_types.specs.declared.facts.L4.TheVariants.{Icmp}
use Rattle.npf_packet.specs.declared.decoded.Decoded.{Decoded}
use Rattle.npf_packet.specs.declared.packet.IpPacket.{IpPacket}
use Rattle.npf_fields.specs.Field.{number16}
use Rattle.npf_packet.specs.Field.{icmp_type, icmp_code, icmp_identifier}
use Rattle.npf_packet.specs.Packet.{with_header}

-- the identifier of an echo message, whose type is the one, or of its reply, whose type is the other
abbrev pub echo_of : ℕ → ℕ → List ℕ → ℕ → Option ℕ
echo_of request reply bytes at =
    let kind = slice_index bytes (at + icmp_type) in
    if kind == request || kind == reply then Some (number16 bytes (at + icmp_identifier)) else None

-- an echo message has type 8, and its reply type 0
abbrev pub echo_in_icmp : List ℕ → ℕ → Option ℕ
echo_in_icmp bytes at = echo_of 8 0 bytes at

abbrev pub decoding_icmp : List ℕ → IpPacket → Decoded
decoding_icmp bytes packet =
    let at = packet.l4_at in
    let kind = slice_index bytes (at + icmp_type) in
    let code = slice_index bytes (at + icmp_code) in
    with_header packet 8 (Icmp kind code (echo_in_icmp bytes at))
