-- The six numbers that rules and maps test of a packet of a known kind where it passes.
use Rattle.std.specs.Prelude.{◌≡◌, ◌≤◌, ◌<◌, ℕ, ◌+◌, ◌-◌, ◌^◌, List, [], ◌∷◌, slice_index}
use Rattle.npf_types.specs.declared.address.Addr.{Addr}
use Rattle.npf_types.specs.declared.address.Addr.TheVariants.{V4, V6}
use Rattle.npf_types.specs.declared.direction.Dir.{Dir}
use Rattle.npf_types.specs.declared.direction.Dir.TheVariants.{In, Out}
use Rattle.npf_types.specs.declared.facts.Facts.{Facts}
use Rattle.npf_types.specs.declared.facts.L4.{L4}
use Rattle.npf_types.specs.declared.facts.L4.TheVariants.{Tcp, Udp, Icmp, Icmp6, Other}
use Rattle.npf_types.specs.declared.interface.IfId.{IfId}
use Rattle.npf_possible.specs.Possible.{IsPossible}
use Rattle.npf_products.specs.declared.kind.Carried.{Carried}
use Rattle.npf_products.specs.declared.kind.Carried.TheVariants.{Tcp as OfTcp, Udp as OfUdp, Icmp as OfIcmp, Other as OfOther}
use Rattle.npf_products.specs.declared.kind.IpFamily.{IpFamily}
use Rattle.npf_products.specs.declared.kind.IpFamily.TheVariants.{Inet4, Inet6}
use Rattle.npf_products.specs.declared.kind.PacketKind.{PacketKind}
use Rattle.npf_products.specs.Kind.{packet_kind}

-- the place: the interface's number, which has 16 bits, and above it the direction
abbrev pub place_of : IfId → Dir → ℕ
place_of ifid In = ifid.0
place_of ifid Out = 2 ^ 16 + ifid.0

-- the least place of a direction
abbrev pub first_place : Dir → ℕ
first_place In = 0
first_place Out = 2 ^ 16

abbrev pub address_value : Addr → ℕ
address_value (V4 address) = address
address_value (V6 address) = address

-- the source port, or the type of a message; of what isn't looked into the protocol
abbrev pub first_value : L4 → ℕ → ℕ
first_value (Tcp sport dport segment mss_at) proto = sport
first_value (Udp sport dport) proto = sport
first_value (Icmp kind code echo) proto = kind
first_value (Icmp6 kind code echo) proto = kind
first_value Other proto = proto

-- the destination port, or the code of a message
abbrev pub second_number : L4 → ℕ
second_number (Tcp sport dport segment mss_at) = dport
second_number (Udp sport dport) = dport
second_number (Icmp kind code echo) = code
second_number (Icmp6 kind code echo) = code
second_number Other = 0

-- the control bits of a segment
abbrev pub control_number : L4 → ℕ
control_number (Tcp sport dport segment mss_at) = segment.flags
control_number (Udp sport dport) = 0
control_number (Icmp kind code echo) = 0
control_number (Icmp6 kind code echo) = 0
control_number Other = 0

-- in the order of the dimensions: the place, the source, the destination, and what is known of what is carried
abbrev pub numbers_of : Facts → IfId → Dir → List ℕ
numbers_of facts ifid dir =
    place_of ifid dir ∷ address_value facts.src ∷ address_value facts.dst
    ∷ first_value facts.l4 facts.proto ∷ second_number facts.l4 ∷ control_number facts.l4 ∷ []

-- a packet of the kind that there can be, where it passes
pub record IsPacketOfKind (kind : PacketKind) (facts : Facts) (ifid : IfId) : Type 0 where
  pub possible : IsPossible facts
  pub of_kind : packet_kind facts ≡ kind
  pub interface : ifid.0 < 2 ^ 16

abbrev pub address_top : IpFamily → ℕ
address_top Inet4 = 2 ^ 32 - 1
address_top Inet6 = 2 ^ 128 - 1

abbrev pub first_top : Carried → ℕ
first_top OfTcp = 2 ^ 16 - 1
first_top OfUdp = 2 ^ 16 - 1
first_top OfIcmp = 2 ^ 8 - 1
first_top OfOther = 2 ^ 8 - 1

abbrev pub second_top : Carried → ℕ
second_top OfTcp = 2 ^ 16 - 1
second_top OfUdp = 2 ^ 16 - 1
second_top OfIcmp = 2 ^ 8 - 1
second_top OfOther = 0

abbrev pub control_top : Carried → ℕ
control_top OfTcp = 2 ^ 8 - 1
control_top OfUdp = 0
control_top OfIcmp = 0
control_top OfOther = 0

-- the highest number of each dimension
abbrev pub tops_of : PacketKind → List ℕ
tops_of kind =
    (2 ^ 17 - 1) ∷ address_top kind.family ∷ address_top kind.family
    ∷ first_top kind.carried ∷ second_top kind.carried ∷ control_top kind.carried ∷ []

-- no number is above the highest of its dimension
abbrev pub AreNumbers : PacketKind → List ℕ → Type 0
AreNumbers kind numbers = (d : ℕ) → d < 6 → slice_index numbers d ≤ slice_index (tops_of kind) d
