-- What a record's bytes say, by tests in order: the first that fits is answered.
-- READ 4 of docs/READING.md
use Rattle.std.specs.Prelude.{◌≡◌, ℕ, Result, MatchResult, List}
use Rattle.npf_types.specs.declared.link.Link.{Link}
use Rattle.npf_types.specs.declared.link.Link.TheVariants.{Ethernet, Raw}
use Rattle.npf_packet.specs.declared.decoded.Decoded.{Decoded}
use Rattle.npf_packet.specs.declared.version.Version.{Version}
use Rattle.npf_packet.specs.declared.version.Version.TheVariants.{V4, V6}
use Rattle.npf_packet.specs.declared.packet.IpPacket.{IpPacket}
use Rattle.npf_packet.specs.Ethernet.{version_in_frame}
use Rattle.npf_packet.specs.Version.{version_of_packet}
use Rattle.npf_packet.specs.Ipv4.{packet_v4}
use Rattle.npf_packet.specs.Ipv6.{IsPacketV6}
use Rattle.npf_packet.specs.Upper.{Carries}

-- where the IP header begins
abbrev pub packet_at : Link → ℕ
packet_at Raw = 0
packet_at Ethernet = 14

-- the version of the IP packet behind the link's header
abbrev pub version_behind : Link → List ℕ → Result Version Decoded
version_behind Raw bytes = version_of_packet bytes
version_behind Ethernet bytes = version_in_frame bytes

-- what the headers of IP say, or the answer where one of their tests fits
abbrev pub IsPacket : Version → List ℕ → ℕ → Result IpPacket Decoded → Type 0
IsPacket V4 bytes ip_at header = header ≡ packet_v4 bytes ip_at
IsPacket V6 bytes ip_at header = IsPacketV6 bytes ip_at header

-- the packet whose IP header begins here says this
pub record DecodesIp (version : Version) (bytes : List ℕ) (ip_at : ℕ) (decoded : Decoded) : Type 0 where
  pub header : Result IpPacket Decoded
  pub read : IsPacket version bytes ip_at header
  pub says : MatchResult header (λ packet. Carries bytes packet decoded) (λ answer. decoded ≡ answer)

-- a record of this link with these bytes says this
abbrev pub Decodes : Link → List ℕ → Decoded → Type 0
Decodes link bytes decoded =
    MatchResult (version_behind link bytes) (λ version. DecodesIp version bytes (packet_at link) decoded) (λ answer. decoded ≡ answer)
