-- A packet's facts as fields of its bytes, for those who don't decode it. specs/Field.antt names
-- the offsets.
use Rattle.std.specs.Prelude.{◌≡◌, ◌≢◌, ℕ, ◌+◌, ◌-◌, ◌*◌, ◌/◌, ◌%◌, ◌≤◌, List, length, slice_index, slice_range, ⊤}
use Rattle.npf_types.specs.declared.address.Addr.{Addr}
use Rattle.npf_types.specs.declared.address.Addr.TheVariants.{V4, V6}
use Rattle.npf_types.specs.declared.facts.Facts.{Facts}
use Rattle.npf_types.specs.declared.facts.L4.{L4}
use Rattle.npf_types.specs.declared.facts.L4.TheVariants.{Tcp, Udp, Icmp, Icmp6, Other}
use Rattle.npf_types.specs.declared.facts.Segment.{Segment}
use Rattle.npf_fields.specs.Field.{number16, number32, number128}
use Rattle.npf_packet.specs.Field.{ipv4_protocol, ipv4_source, ipv4_destination, ipv6_source, ipv6_destination, l4_source_port, l4_destination_port, tcp_sequence, tcp_acknowledgment, tcp_flags, tcp_window, icmp_type, icmp_code}
use Rattle.npf_packet.specs.Icmp.{echo_in_icmp}
use Rattle.npf_packet.specs.Icmpv6.{echo_in_icmpv6}
use Rattle.npf_packet.specs.Place.{least_ip_header, least_upper_header}

module _ (bytes : List ℕ) where
  -- a header of IPv4 begins here, behind which layer 4 stands there
  pub record IsIpv4Header (ip_at l4_at proto src dst : ℕ) : Type 0 where
    pub version : slice_index bytes ip_at / 16 ≡ 4
    pub len : l4_at ≡ ip_at + 4 * (slice_index bytes ip_at % 16)
    pub protocol : slice_index bytes (ip_at + ipv4_protocol) ≡ proto
    pub source : number32 bytes (ip_at + ipv4_source) ≡ src
    pub destination : number32 bytes (ip_at + ipv4_destination) ≡ dst

  -- a header of IPv6 begins here; the protocol is what the last of its extension headers tells
  pub record IsIpv6Header (ip_at src dst : ℕ) : Type 0 where
    pub version : slice_index bytes ip_at / 16 ≡ 6
    pub source : number128 bytes (ip_at + ipv6_source) ≡ src
    pub destination : number128 bytes (ip_at + ipv6_destination) ≡ dst

  -- the header is of the addresses' version, which is one
  abbrev pub HasIpHeader : ℕ → ℕ → ℕ → Addr → Addr → Type 0
  HasIpHeader ip_at l4_at proto (V4 src) (V4 dst) = IsIpv4Header ip_at l4_at proto src dst
  HasIpHeader ip_at l4_at proto (V6 src) (V6 dst) = IsIpv6Header ip_at src dst
  HasIpHeader ip_at l4_at proto (V4 src) (V6 dst) = ⊥
  HasIpHeader ip_at l4_at proto (V6 src) (V4 dst) = ⊥

  -- the ports of TCP and of UDP
  pub record HasPorts (at sport dport : ℕ) : Type 0 where
    pub source : number16 bytes (at + l4_source_port) ≡ sport
    pub destination : number16 bytes (at + l4_destination_port) ≡ dport

  pub record IsSegment (at sport dport : ℕ) (segment : Segment) : Type 0 where
    pub ports : HasPorts at sport dport
    pub flags : slice_index bytes (at + tcp_flags) ≡ segment.flags
    pub sequence : number32 bytes (at + tcp_sequence) ≡ segment.seq
    pub acknowledgment : number32 bytes (at + tcp_acknowledgment) ≡ segment.ack
    pub window : number16 bytes (at + tcp_window) ≡ segment.win

  -- a message of ICMP or ICMPv6
  pub record IsMessage (at kind number : ℕ) : Type 0 where
    pub message_type : slice_index bytes (at + icmp_type) ≡ kind
    pub message_code : slice_index bytes (at + icmp_code) ≡ number

  -- what is carried begins here, and has these fields
  abbrev pub HasUpperFields : ℕ → L4 → Type 0
  HasUpperFields at (Tcp sport dport segment mss_at) = IsSegment at sport dport segment
  HasUpperFields at (Udp sport dport) = HasPorts at sport dport
  HasUpperFields at (Icmp kind code echo) = IsMessage at kind code × (echo ≡ echo_in_icmp bytes at)
  HasUpperFields at (Icmp6 kind code echo) = IsMessage at kind code
      × (echo ≡ echo_in_icmpv6 bytes at)
  HasUpperFields at Other = ⊤

  -- the facts are fields of the bytes, where the IP header begins here and layer 4 there
  pub record HasFields (ip_at l4_at : ℕ) (facts : Facts) : Type 0 where
    pub header : HasIpHeader ip_at l4_at facts.proto facts.src facts.dst
    pub upper : HasUpperFields l4_at facts.l4

-- What is told apart of a packet from this address with this protocol: TCP has the number 6 and UDP
-- 17, ICMP has 1 in IPv4, and ICMPv6 58 in IPv6 (assigned Internet protocol numbers); anything else
-- isn't looked into.
abbrev pub HasProtocol : Addr → ℕ → L4 → Type 0
HasProtocol src proto (Tcp _ _ _ _) = proto ≡ 6
HasProtocol src proto (Udp _ _) = proto ≡ 17
HasProtocol (V4 _) proto (Icmp _ _ _) = proto ≡ 1
HasProtocol (V6 _) proto (Icmp _ _ _) = ⊥
HasProtocol (V4 _) proto (Icmp6 _ _ _) = ⊥
HasProtocol (V6 _) proto (Icmp6 _ _ _) = proto ≡ 58
HasProtocol (V4 _) proto Other = (proto ≢ 6) × (proto ≢ 17) × (proto ≢ 1)
HasProtocol (V6 _) proto Other = (proto ≢ 6) × (proto ≢ 17) × (proto ≢ 58)

-- the packet's own bytes: those of its record from the IP header to its end
abbrev pub packet_bytes : List ℕ → Facts → List ℕ
packet_bytes bytes facts = slice_range bytes facts.ip_at facts.end

-- where layer 4 begins in the packet's own bytes
abbrev pub upper_offset : Facts → ℕ
upper_offset facts = facts.l4_at - facts.ip_at

-- these are the own bytes of a packet with these facts
pub record IsPacketOf (ip : List ℕ) (facts : Facts) : Type 0 where
  pub fields : HasFields ip 0 (upper_offset facts) facts
  pub protocol : HasProtocol facts.src facts.proto facts.l4
  pub upper : least_ip_header facts.src ≤ upper_offset facts
  pub upper_header : upper_offset facts + least_upper_header facts.l4 ≤ length ip
