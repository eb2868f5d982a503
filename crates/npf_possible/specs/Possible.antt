-- Which facts a packet can have. Of the numbers that no rule tests, as sequence numbers and places, nothing is asked.
use Rattle.std.specs.Prelude.{◌≢◌, ℕ, ◌<◌, ◌^◌, ⊤}
use Rattle.npf_types.specs.declared.address.Addr.{Addr}
use Rattle.npf_types.specs.declared.address.Addr.TheVariants.{V4, V6}
use Rattle.npf_types.specs.declared.facts.Facts.{Facts}
use Rattle.npf_types.specs.declared.facts.L4.{L4}
use Rattle.npf_types.specs.declared.facts.L4.TheVariants.{Tcp, Udp, Icmp, Icmp6, Other}
use Rattle.npf_packet.specs.PacketField.{HasProtocol}

-- both addresses are of one family, and numbers of its length (RFC 791 section 3.1, RFC 8200 section 3)
abbrev pub AreAddresses : Addr → Addr → Type 0
AreAddresses (V4 src) (V4 dst) = (src < 2 ^ 32) × (dst < 2 ^ 32)
AreAddresses (V6 src) (V6 dst) = (src < 2 ^ 128) × (dst < 2 ^ 128)
AreAddresses (V4 src) (V6 dst) = ⊥
AreAddresses (V6 src) (V4 dst) = ⊥

-- ports have 16 bits, and flags, types and codes 8 (RFC 9293 section 3.1, RFC 768, RFC 792, RFC 4443 section 2.1)
abbrev pub HasFieldSizes : L4 → Type 0
HasFieldSizes (Tcp sport dport segment mss_at) = (sport < 2 ^ 16) × (dport < 2 ^ 16) × (segment.flags < 2 ^ 8)
HasFieldSizes (Udp sport dport) = (sport < 2 ^ 16) × (dport < 2 ^ 16)
HasFieldSizes (Icmp kind code echo) = (kind < 2 ^ 8) × (code < 2 ^ 8)
HasFieldSizes (Icmp6 kind code echo) = (kind < 2 ^ 8) × (code < 2 ^ 8)
HasFieldSizes Other = ⊤

-- The protocol is of something that a packet carries. An extension header of IPv6 isn't: it leads to what is carried, or the packet is a
-- fragment, which isn't looked into. Those are hop-by-hop options (0), routing (43), fragment (44), authentication (51) and destination
-- options (60) (RFC 8200 section 4.1, RFC 4302 section 2).
abbrev pub IsCarried : Addr → ℕ → Type 0
IsCarried (V4 src) proto = ⊤
IsCarried (V6 src) proto = (proto ≢ 0) × (proto ≢ 43) × (proto ≢ 44) × (proto ≢ 51) × (proto ≢ 60)

-- facts that a packet can have: of one family, of its fields' sizes, and told apart by the protocol
pub record IsPossible (facts : Facts) : Type 0 where
  pub addresses : AreAddresses facts.src facts.dst
  pub size : facts.proto < 2 ^ 8
  pub carried : IsCarried facts.src facts.proto
  pub protocol : HasProtocol facts.src facts.proto facts.l4
  pub sizes : HasFieldSizes facts.l4
