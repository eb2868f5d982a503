-- What an error of ICMP or ICMPv6 quotes: the first bytes of a packet, from its IP header on (RFC
-- 792, RFC 4443 section 3). The pictures of the headers are those of RFC 791 and 8200, whose
-- offsets npf_packet names.
use Rattle.std.specs.Prelude.{ℕ, ◌+◌, ◌%◌, ◌^◌, ◌<◌, ◌≤◌, ◌==◌, ◌||◌, ◌&&◌, nat_le, if◌then◌else◌, Bool, false, Option, Some, None, List, slice_index}
use Rattle.std.specs.Option.{is_some}
use Rattle.npf_types.specs.declared.address.Addr.{Addr}
use Rattle.npf_types.specs.declared.address.Addr.TheVariants.{V4, V6}
use Rattle.npf_types.specs.declared.facts.Facts.{Facts}
use Rattle.npf_fields.specs.Field.{number16, number32, number128}
use Rattle.npf_packet.specs.Field.{ipv4_fragment, ipv4_protocol, ipv4_source, ipv4_destination, ipv6_next_header, ipv6_source, ipv6_destination, tcp_checksum, udp_checksum, icmp_checksum}
use Rattle.npf_packet.specs.Icmp.{echo_in_icmp}
use Rattle.npf_packet.specs.Icmpv6.{echo_in_icmpv6}
use Rattle.npf_packet.specs.Ipv4.{header_len}
use Rattle.npf_packet.specs.Place.{least_ip_header}
use Rattle.npf_packet.specs.Version.{version_number}
use Rattle.npf_icmpalg.specs.declared.quoted.Quoted.{Quoted}

-- behind the header of ICMP, which has 8 bytes
abbrev pub quoted_at : Facts → ℕ
quoted_at facts = facts.l4_at + 8

module _ (bytes : List ℕ) (at : ℕ) where
  -- A header of IPv4, at least as long as one without options, of a packet that isn't a later
  -- fragment: the offset, which is the lower 13 bits of the fragment field, is 0. It and eight
  -- bytes behind it lie before the end. Neither the bit "more fragments" nor the quoted length is
  -- looked at.
  abbrev pub is_header_v4 : ℕ → Bool
  is_header_v4 end =
      version_number bytes at == 4 && nat_le 20 (header_len bytes at)
      && number16 bytes (at + ipv4_fragment) % 0x2000 == 0
      && nat_le (at + header_len bytes at + 8) end

  -- a header of IPv6, which has 40 bytes; it and eight bytes behind it lie before the end
  abbrev pub is_header_v6 : ℕ → Bool
  is_header_v6 end = version_number bytes at == 6 && nat_le (at + 40 + 8) end

  -- the fields of a header; the protocol of IPv6 is what the header itself names, so that an
  -- extension header is a protocol of its own
  abbrev pub quoted_v4 : Quoted
  quoted_v4 = record {
    src = V4 (number32 bytes (at + ipv4_source));
    dst = V4 (number32 bytes (at + ipv4_destination));
    proto = slice_index bytes (at + ipv4_protocol);
    l4_at = at + header_len bytes at;
  }

  abbrev pub quoted_v6 : Quoted
  quoted_v6 = record {
    src = V6 (number128 bytes (at + ipv6_source));
    dst = V6 (number128 bytes (at + ipv6_destination));
    proto = slice_index bytes (at + ipv6_next_header);
    l4_at = at + 40;
  }

  -- the same by the family of the packet that quotes
  abbrev pub is_quoted_header : Addr → ℕ → Bool
  is_quoted_header (V4 _) end = is_header_v4 end
  is_quoted_header (V6 _) end = is_header_v6 end

  abbrev pub quoted_in : Addr → Quoted
  quoted_in (V4 _) = quoted_v4
  quoted_in (V6 _) = quoted_v6

-- the quoted header is no shorter than one without options, and eight bytes behind it lie before
-- the end, which is a number of 32 bits
pub record HasQuotedHeader (bytes : List ℕ) (facts : Facts) : Type 0 where
  pub least : quoted_at facts + least_ip_header facts.src ≤ (quoted_in bytes (quoted_at facts) facts.src).l4_at
  pub upper : (quoted_in bytes (quoted_at facts) facts.src).l4_at + 8 ≤ facts.end
  pub place : facts.end < 2 ^ 32

-- TCP has the number 6 and UDP 17 (assigned Internet protocol numbers)
abbrev pub is_tcp_or_udp : ℕ → Bool
is_tcp_or_udp proto = proto == 6 || proto == 17

module _ (bytes : List ℕ) (quoted : Quoted) where
  -- the identifier of a quoted echo message: ICMP has the number 1 in IPv4, and ICMPv6 58 in IPv6
  abbrev pub quoted_echo : Addr → Option ℕ
  quoted_echo (V4 _) = if quoted.proto == 1 then echo_in_icmp bytes quoted.l4_at else None
  quoted_echo (V6 _) = if quoted.proto == 58 then echo_in_icmpv6 bytes quoted.l4_at else None

  -- a packet of which a connection can be kept
  abbrev pub is_quoted_upper : Addr → Bool
  is_quoted_upper src = is_tcp_or_udp quoted.proto || is_some (quoted_echo src)

-- the port at a place, or the echo's identifier, which stands for both ports
abbrev pub port_or_identifier : List ℕ → Option ℕ → ℕ → ℕ
port_or_identifier bytes (Some identifier) at = identifier
port_or_identifier bytes None at = number16 bytes at

-- where in its header the sum of what is carried stands
abbrev pub sum_offset : ℕ → ℕ
sum_offset proto =
    if proto == 6 then tcp_checksum else (if proto == 17 then udp_checksum else icmp_checksum)

-- the place of a quoted sum, where both of its bytes are quoted
abbrev pub whole_sum_at : ℕ → ℕ → Option ℕ
whole_sum_at at end = if nat_le (at + 2) end then Some at else None

-- two addresses are one
abbrev pub is_same_address : Addr → Addr → Bool
is_same_address (V4 a) (V4 b) = a == b
is_same_address (V6 a) (V6 b) = a == b
is_same_address (V4 _) (V6 _) = false
is_same_address (V6 _) (V4 _) = false
