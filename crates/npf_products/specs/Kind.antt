-- The kinds of packets: which version of IP, and what is carried. ICMP is that of the version: `ipv6-icmp` over IPv4 isn't looked into, and so
-- isn't `icmp` over IPv6 (RFC 792, RFC 4443).
use Rattle.std.specs.Prelude.{ℕ, Bool, true, false, Option, Some, None}
use Rattle.npf_types.specs.declared.address.Addr.{Addr}
use Rattle.npf_types.specs.declared.address.Addr.TheVariants.{V4, V6}
use Rattle.npf_types.specs.declared.facts.Facts.{Facts}
use Rattle.npf_types.specs.declared.facts.L4.{L4}
use Rattle.npf_types.specs.declared.facts.L4.TheVariants.{Tcp, Udp, Icmp, Icmp6, Other}
use Rattle.npf_products.specs.declared.kind.Carried.{Carried}
use Rattle.npf_products.specs.declared.kind.Carried.TheVariants.{Tcp as OfTcp, Udp as OfUdp, Icmp as OfIcmp, Other as OfOther}
use Rattle.npf_products.specs.declared.kind.IpFamily.{IpFamily}
use Rattle.npf_products.specs.declared.kind.IpFamily.TheVariants.{Inet4, Inet6}
use Rattle.npf_products.specs.declared.kind.PacketKind.{PacketKind}

abbrev pub family_of : Addr → IpFamily
family_of (V4 _) = Inet4
family_of (V6 _) = Inet6

abbrev pub carried_of : L4 → Carried
carried_of (Tcp sport dport segment mss_at) = OfTcp
carried_of (Udp sport dport) = OfUdp
carried_of (Icmp kind code echo) = OfIcmp
carried_of (Icmp6 kind code echo) = OfIcmp
carried_of Other = OfOther

-- the one kind that a packet is of
abbrev pub packet_kind : Facts → PacketKind
packet_kind facts = record { family = family_of facts.src; carried = carried_of facts.l4 }

abbrev pub is_inet6_family : IpFamily → Bool
is_inet6_family Inet4 = false
is_inet6_family Inet6 = true

abbrev pub has_port_numbers : Carried → Bool
has_port_numbers OfTcp = true
has_port_numbers OfUdp = true
has_port_numbers OfIcmp = false
has_port_numbers OfOther = false

abbrev pub has_flags : Carried → Bool
has_flags OfTcp = true
has_flags OfUdp = false
has_flags OfIcmp = false
has_flags OfOther = false

abbrev pub has_type : Carried → Bool
has_type OfTcp = false
has_type OfUdp = false
has_type OfIcmp = true
has_type OfOther = false

-- the protocol of all packets of a kind, where they have one (assigned Internet protocol numbers)
abbrev pub kind_protocol : IpFamily → Carried → Option ℕ
kind_protocol family OfTcp = Some 6
kind_protocol family OfUdp = Some 17
kind_protocol Inet4 OfIcmp = Some 1
kind_protocol Inet6 OfIcmp = Some 58
kind_protocol family OfOther = None
