-- What is known of a packet of a kind.
use Rattle.std.proofs.Common.{◌≡◌, ◌<◌, ℕ, ◌^◌, Bool, true, false, ◌&&◌, ◌==◌, Option, Some, None, List, [], ◌∷◌, Contains, arith, refl, ap}
use Rattle.std.specs.Prelude.{bit_and}
use Rattle.npf_types.specs.declared.address.Addr.{Addr, TheVariants.{V4, V6}}
use Rattle.npf_types.specs.declared.facts.{Facts.Facts, L4.{L4, TheVariants.{Tcp, Udp, Icmp, Icmp6, Other}}}
use Rattle.npf_types.specs.declared.interface.IfId.{IfId}
use Rattle.npf_packet.specs.PacketField.{HasProtocol}
use Rattle.npf_possible.specs.Possible.{HasFieldSizes}
use Rattle.npf_model.specs.Describes.{destination_of, fits_family, fits_icmp, fits_ports, is_v6, opens_if_tcp, shows_flags, source_of}
use Rattle.npf_products.specs.declared.kind.{Carried.{Carried, TheVariants.{Tcp as OfTcp, Udp as OfUdp, Icmp as OfIcmp, Other as OfOther}}}
use Rattle.npf_products.specs.declared.kind.{IpFamily.{IpFamily, TheVariants.{Inet4, Inet6}}, PacketKind.PacketKind}
use Rattle.npf_products.specs.Condition.{Ranges, has_number}
use Rattle.npf_products.specs.Kind.{carried_of, family_of, has_flags, has_port_numbers, has_type, is_inet6_family, kind_protocol}
use Rattle.npf_products.specs.Number.{IsPacketOfKind, control_number, first_value, second_number}
use Rattle.npf_products.specs.Rule.{family_allows}

abbrev kind : IpFamily → Carried → PacketKind
kind family carried = record { family = family; carried = carried }

abbrev all_kinds : List PacketKind
all_kinds =
    kind Inet4 OfTcp ∷ kind Inet4 OfUdp ∷ kind Inet4 OfIcmp ∷ kind Inet4 OfOther
    ∷ kind Inet6 OfTcp ∷ kind Inet6 OfUdp ∷ kind Inet6 OfIcmp ∷ kind Inet6 OfOther ∷ []

pub each_kind : (family : IpFamily) (carried : Carried) → Contains all_kinds (kind family carried)
each_kind Inet4 OfTcp = (0, omega arith, refl)
each_kind Inet4 OfUdp = (1, omega arith, refl)
each_kind Inet4 OfIcmp = (2, omega arith, refl)
each_kind Inet4 OfOther = (3, omega arith, refl)
each_kind Inet6 OfTcp = (4, omega arith, refl)
each_kind Inet6 OfUdp = (5, omega arith, refl)
each_kind Inet6 OfIcmp = (6, omega arith, refl)
each_kind Inet6 OfOther = (7, omega arith, refl)

pub carried_is : (kind : PacketKind) (facts : Facts) (ifid : IfId) → IsPacketOfKind kind facts ifid → carried_of facts.l4 ≡ kind.carried
carried_is kind facts ifid packet = ap (λ (k : PacketKind). k.carried) packet.of_kind

pub family_is : (kind : PacketKind) (facts : Facts) (ifid : IfId) → IsPacketOfKind kind facts ifid → family_of facts.src ≡ kind.family
family_is kind facts ifid packet = ap (λ (k : PacketKind). k.family) packet.of_kind

pub allows_family : (v6 : Option Bool) (src : Addr) → family_allows v6 (family_of src) ≡ fits_family v6 src
allows_family None src = refl
allows_family (Some true) (V4 a) = refl
allows_family (Some true) (V6 a) = refl
allows_family (Some false) (V4 a) = refl
allows_family (Some false) (V6 a) = refl

pub version_is : (src : Addr) → is_inet6_family (family_of src) ≡ is_v6 src
version_is (V4 a) = refl
version_is (V6 a) = refl

-- the protocol of a kind is its packets'
pub protocol_is : (src : Addr) (proto : ℕ) (l4 : L4) (known : ℕ) → HasProtocol src proto l4 → kind_protocol (family_of src) (carried_of l4) ≡ Some known → known ≡ proto
protocol_is (V4 a) proto (Tcp s d seg m) known has is = let h : proto ≡ 6 = has in cc
protocol_is (V6 a) proto (Tcp s d seg m) known has is = let h : proto ≡ 6 = has in cc
protocol_is (V4 a) proto (Udp s d) known has is = let h : proto ≡ 17 = has in cc
protocol_is (V6 a) proto (Udp s d) known has is = let h : proto ≡ 17 = has in cc
protocol_is (V4 a) proto (Icmp k c e) known has is = let h : proto ≡ 1 = has in cc
protocol_is (V6 a) proto (Icmp k c e) known has is = absurd has
protocol_is (V4 a) proto (Icmp6 k c e) known has is = absurd has
protocol_is (V6 a) proto (Icmp6 k c e) known has is = let h : proto ≡ 58 = has in cc
protocol_is (V4 a) proto Other known has is = absurd (cc)
protocol_is (V6 a) proto Other known has is = absurd (cc)

-- where a kind has none, it is the first number
pub first_is : (src : Addr) (proto : ℕ) (l4 : L4) → kind_protocol (family_of src) (carried_of l4) ≡ None → first_value l4 proto ≡ proto
first_is src proto (Tcp s d seg m) is = absurd (cc)
first_is src proto (Udp s d) is = absurd (cc)
first_is (V4 a) proto (Icmp k c e) is = absurd (cc)
first_is (V6 a) proto (Icmp k c e) is = absurd (cc)
first_is (V4 a) proto (Icmp6 k c e) is = absurd (cc)
first_is (V6 a) proto (Icmp6 k c e) is = absurd (cc)
first_is src proto Other is = refl

pub flags_of : (l4 : L4) (ranges : Ranges) (wanted mask : ℕ) → HasFieldSizes l4
    → ((flags : ℕ) → flags < 2 ^ 8 → has_number ranges flags ≡ (bit_and flags mask == wanted))
    → (has_flags (carried_of l4) && has_number ranges (control_number l4)) ≡ shows_flags l4 wanted mask
flags_of (Tcp s d seg m) ranges wanted mask sizes each = each seg.flags sizes.2
flags_of (Udp s d) ranges wanted mask sizes each = refl
flags_of (Icmp k c e) ranges wanted mask sizes each = refl
flags_of (Icmp6 k c e) ranges wanted mask sizes each = refl
flags_of Other ranges wanted mask sizes each = refl

pub opens_other : (l4 : L4) → has_flags (carried_of l4) ≡ false → opens_if_tcp l4 ≡ true
opens_other (Tcp s d seg m) is = absurd (cc)
opens_other (Udp s d) is = refl
opens_other (Icmp k c e) is = refl
opens_other (Icmp6 k c e) is = refl
opens_other Other is = refl

pub opens_segment : (l4 : L4) → has_flags (carried_of l4) ≡ true → opens_if_tcp l4 ≡ shows_flags l4 2 23
opens_segment (Tcp s d seg m) is = refl
opens_segment (Udp s d) is = absurd (cc)
opens_segment (Icmp k c e) is = absurd (cc)
opens_segment (Icmp6 k c e) is = absurd (cc)
opens_segment Other is = absurd (cc)

pub icmp_with : (l4 : L4) (asked proto : ℕ) → (has_type (carried_of l4) && (asked == first_value l4 proto)) ≡ fits_icmp (Some (asked, None)) l4
icmp_with (Tcp s d seg m) asked proto = refl
icmp_with (Udp s d) asked proto = refl
icmp_with (Icmp k c e) asked proto = refl
icmp_with (Icmp6 k c e) asked proto = refl
icmp_with Other asked proto = refl

pub message_with : (l4 : L4) (asked number proto : ℕ)
    → ((has_type (carried_of l4) && (asked == first_value l4 proto)) && (number == second_number l4)) ≡ fits_icmp (Some (asked, Some number)) l4
message_with (Tcp s d seg m) asked number proto = refl
message_with (Udp s d) asked number proto = refl
message_with (Icmp k c e) asked number proto = refl
message_with (Icmp6 k c e) asked number proto = refl
message_with Other asked number proto = refl

pub source_ports : (l4 : L4) (ranges : Ranges) (proto : ℕ) → (has_port_numbers (carried_of l4) && has_number ranges (first_value l4 proto)) ≡ fits_ports (Some ranges) (source_of l4)
source_ports (Tcp s d seg m) ranges proto = refl
source_ports (Udp s d) ranges proto = refl
source_ports (Icmp k c e) ranges proto = refl
source_ports (Icmp6 k c e) ranges proto = refl
source_ports Other ranges proto = refl

pub destination_ports : (l4 : L4) (ranges : Ranges) → (has_port_numbers (carried_of l4) && has_number ranges (second_number l4)) ≡ fits_ports (Some ranges) (destination_of l4)
destination_ports (Tcp s d seg m) ranges = refl
destination_ports (Udp s d) ranges = refl
destination_ports (Icmp k c e) ranges = refl
destination_ports (Icmp6 k c e) ranges = refl
destination_ports Other ranges = refl
