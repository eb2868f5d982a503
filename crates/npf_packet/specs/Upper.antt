-- What an IP packet carries, by its protocol (assigned Internet protocol numbers).
use Rattle.std.specs.Prelude.{◌≡◌, ℕ, ◌==◌, if◌then◌else◌, List}
use Rattle.npf_types.specs.declared.address.Addr.{Addr}
use Rattle.npf_types.specs.declared.address.Addr.TheVariants.{V4, V6}
use Rattle.npf_types.specs.declared.facts.L4.TheVariants as L4
use Rattle.npf_packet.specs.declared.decoded.Decoded.{Decoded}
use Rattle.npf_packet.specs.declared.decoded.Decoded.TheVariants.{Ip}
use Rattle.npf_packet.specs.declared.packet.IpPacket.{IpPacket}
use Rattle.npf_packet.specs.declared.upper.Upper.{Upper}
use Rattle.npf_packet.specs.declared.upper.Upper.TheVariants.{Tcp, Udp, Icmp, Icmpv6, Other}
use Rattle.npf_packet.specs.Packet.{facts_of}
use Rattle.npf_packet.specs.Tcp.{CarriesTcp}
use Rattle.npf_packet.specs.Udp.{decoding_udp}
use Rattle.npf_packet.specs.Icmp.{decoding_icmp}
use Rattle.npf_packet.specs.Icmpv6.{decoding_icmpv6}

-- TCP has the number 6 and UDP 17; ICMP has 1 in a packet of IPv4, and ICMPv6 58 in one of IPv6
abbrev pub upper_of : Addr → ℕ → Upper
upper_of (V4 _) proto = if proto == 6 then Tcp else (if proto == 17 then Udp else (if proto == 1 then Icmp else Other))
upper_of (V6 _) proto = if proto == 6 then Tcp else (if proto == 17 then Udp else (if proto == 58 then Icmpv6 else Other))

-- the packet carries this protocol, and says this
abbrev pub CarriesAs : Upper → List ℕ → IpPacket → Decoded → Type 0
CarriesAs Tcp bytes packet decoded = CarriesTcp bytes packet decoded
CarriesAs Udp bytes packet decoded = decoded ≡ decoding_udp bytes packet
CarriesAs Icmp bytes packet decoded = decoded ≡ decoding_icmp bytes packet
CarriesAs Icmpv6 bytes packet decoded = decoded ≡ decoding_icmpv6 bytes packet
CarriesAs Other bytes packet decoded = decoded ≡ Ip (facts_of packet L4.Other)

abbrev pub Carries : List ℕ → IpPacket → Decoded → Type 0
Carries bytes packet decoded = CarriesAs (upper_of packet.src packet.proto) bytes packet decoded
