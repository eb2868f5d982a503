-- The header of IPv4 (RFC 791 section 3.1), by the offsets of its fields:
--
--    0: version and header length   1: type of service   2: total length
--    4: identification               6: flags and fragment offset
--    8: time to live    9: protocol  10: header checksum
--   12: source address              16: destination address
use Rattle.std.specs.Prelude.{ℕ, ◌+◌, ◌*◌, ◌%◌, ◌==◌, nat_lt, not, if◌then◌else◌, Bool, Result, Ok, Err, List, length, slice_index}
use Rattle.npf_types.specs.declared.address.Addr.TheVariants.{V4}
use Rattle.npf_packet.specs.declared.decoded.Decoded.{Decoded}
use Rattle.npf_packet.specs.declared.decoded.Decoded.TheVariants.{Skip}
use Rattle.npf_packet.specs.declared.packet.IpPacket.{IpPacket}
use Rattle.npf_fields.specs.Field.{number16, number32}
use Rattle.npf_packet.specs.Field.{ipv4_total_length, ipv4_fragment, ipv4_protocol, ipv4_source, ipv4_destination}
use Rattle.npf_packet.specs.Decoded.{cut, bad}

module _ (bytes : List ℕ) (ip_at : ℕ) where
  -- the header's length in bytes: its field counts words of four
  abbrev pub header_len : ℕ
  header_len = 4 * (slice_index bytes ip_at % 16)

  -- the packet's length in bytes, its header with it
  abbrev pub total_len : ℕ
  total_len = number16 bytes (ip_at + ipv4_total_length)

  -- more fragments follow, or the offset isn't 0: the field's lower 14 bits
  abbrev pub is_fragment : Bool
  is_fragment = not (number16 bytes (ip_at + ipv4_fragment) % 0x4000 == 0)

  -- the packet's fields; what it carries begins behind the header
  abbrev pub fields_v4 : IpPacket
  fields_v4 = record {
    src = V4 (number32 bytes (ip_at + ipv4_source));
    dst = V4 (number32 bytes (ip_at + ipv4_destination));
    proto = slice_index bytes (ip_at + ipv4_protocol);
    ip_at = ip_at;
    l4_at = ip_at + header_len;
    end = ip_at + total_len;
  }

  -- a packet that is whole, or is one fragment of one
  abbrev pub whole_v4 : Result IpPacket Decoded
  whole_v4 =
      if nat_lt (length bytes) (ip_at + 20) then Err (cut (length bytes))
      else (if nat_lt header_len 20 then Err (bad ip_at)
      else (if nat_lt total_len header_len then Err (bad (ip_at + ipv4_total_length))
      else (if nat_lt (length bytes) (ip_at + total_len) then Err (cut (length bytes))
      else Ok fields_v4)))

  -- a fragment isn't looked into
  abbrev pub unless_fragment : Result IpPacket Decoded → Result IpPacket Decoded
  unless_fragment (Ok packet) = if is_fragment then Err Skip else Ok packet
  unless_fragment (Err answer) = Err answer

  abbrev pub packet_v4 : Result IpPacket Decoded
  packet_v4 = unless_fragment whole_v4
