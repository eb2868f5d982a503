-- Where the fields of the headers stand, in bytes from the first of their header. Whoever reads or
-- writes a packet's fields names them so.
use Rattle.std.specs.Prelude.{ℕ}

-- Ethernet II (RFC 894); what a frame carries begins at 14
abbrev pub ethertype : ℕ
ethertype = 12

-- IPv4 (RFC 791 section 3.1). The first byte has the version in its upper half and the header's
-- length in its lower one; the fragment field has the flags and the offset.
abbrev pub ipv4_total_length : ℕ
ipv4_total_length = 2

abbrev pub ipv4_fragment : ℕ
ipv4_fragment = 6

abbrev pub ipv4_ttl : ℕ
ipv4_ttl = 8

abbrev pub ipv4_protocol : ℕ
ipv4_protocol = 9

abbrev pub ipv4_checksum : ℕ
ipv4_checksum = 10

abbrev pub ipv4_source : ℕ
ipv4_source = 12

abbrev pub ipv4_destination : ℕ
ipv4_destination = 16

-- IPv6 (RFC 8200 section 3). The first byte has the version in its upper half.
abbrev pub ipv6_payload_length : ℕ
ipv6_payload_length = 4

abbrev pub ipv6_next_header : ℕ
ipv6_next_header = 6

abbrev pub ipv6_hop_limit : ℕ
ipv6_hop_limit = 7

abbrev pub ipv6_source : ℕ
ipv6_source = 8

abbrev pub ipv6_destination : ℕ
ipv6_destination = 24

-- the ports, in TCP and in UDP (RFC 9293 section 3.1, RFC 768)
abbrev pub l4_source_port : ℕ
l4_source_port = 0

abbrev pub l4_destination_port : ℕ
l4_destination_port = 2

-- TCP (RFC 9293 section 3.1). The data offset is the upper half of its byte; the flags are the
-- control bits.
abbrev pub tcp_sequence : ℕ
tcp_sequence = 4

abbrev pub tcp_acknowledgment : ℕ
tcp_acknowledgment = 8

abbrev pub tcp_data_offset : ℕ
tcp_data_offset = 12

abbrev pub tcp_flags : ℕ
tcp_flags = 13

abbrev pub tcp_window : ℕ
tcp_window = 14

abbrev pub tcp_checksum : ℕ
tcp_checksum = 16

-- UDP (RFC 768)
abbrev pub udp_checksum : ℕ
udp_checksum = 6

-- ICMP and ICMPv6 (RFC 792, RFC 4443 section 2.1); an echo message has an identifier
abbrev pub icmp_type : ℕ
icmp_type = 0

abbrev pub icmp_code : ℕ
icmp_code = 1

abbrev pub icmp_checksum : ℕ
icmp_checksum = 2

abbrev pub icmp_identifier : ℕ
icmp_identifier = 4
