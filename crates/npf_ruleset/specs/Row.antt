-- The row of a rule: conditions that each packet meets which the rule's packet part describes. They are the family, the
-- protocols as a set of bits, and for both ends the least and the greatest number of the addresses and of the ports.
use Rattle.std.specs.Prelude.{◌≡◌, ℕ, ◌/◌, ◌%◌, ◌^◌, Bool, true, ◌==◌, ◌&&◌, nat_le, List, Option, Some, None}
use Rattle.std.specs.Int.{bit_at}
use Rattle.npf_types.specs.declared.address.Addr.{Addr}
use Rattle.npf_types.specs.declared.address.Addr.TheVariants.{V4, V6}
use Rattle.npf_types.specs.declared.facts.Facts.{Facts}
use Rattle.npf_types.specs.Address.{shares_first}
use Rattle.npf_model.specs.declared.ends.AddrItem.{AddrItem}
use Rattle.npf_model.specs.declared.ends.Ends.{Ends}
use Rattle.npf_model.specs.declared.rule.Rule.{Rule}
use Rattle.npf_model.specs.Describes.{Tables, describes_packet, destination_of, fits_addrs, fits_family, fits_ports, fits_protocol, in_range, source_of}
use Rattle.npf_model.specs.MapOf.{fits_side_port}
use Rattle.npf_ruleset.specs.declared.addr_hull.AddrHull.{AddrHull}
use Rattle.npf_ruleset.specs.declared.protocol_set.ProtocolSet.{ProtocolSet}
use Rattle.npf_ruleset.specs.declared.row.EndRow.{EndRow}
use Rattle.npf_ruleset.specs.declared.row.PacketEnd.{PacketEnd}
use Rattle.npf_ruleset.specs.declared.row.Row.{Row}

-- the number by which hulls know an address: that of an IPv4 address, and of an IPv6 address its upper half
abbrev pub hull_number : Addr → ℕ
hull_number (V4 number) = number
hull_number (V6 number) = number / 2 ^ 64

-- the number lies in the hull; without one any number does
abbrev pub is_within : Option AddrHull → ℕ → Bool
is_within None number = true
is_within (Some hull) number = nat_le hull.first number && nat_le number hull.last

-- the address lies in the hull
abbrev pub in_hull : Option AddrHull → Addr → Bool
in_hull hull addr = is_within hull (hull_number addr)

-- the protocol's bit is set, which it shares with those of the same number modulo 64
abbrev pub has_protocol : ProtocolSet → ℕ → Bool
has_protocol set proto = bit_at set.bits (proto % 64) == 1

-- what a row asks of a packet's ends
abbrev pub source_end : Facts → PacketEnd
source_end facts = record { number = hull_number facts.src; port = source_of facts.l4 }

abbrev pub destination_end : Facts → PacketEnd
destination_end facts = record { number = hull_number facts.dst; port = destination_of facts.l4 }

-- a packet meets the hulls of both ends, the set of protocols and the family
abbrev pub meets_row : Row → Facts → Bool
meets_row row facts =
    in_hull row.from.addrs facts.src
    && in_hull row.to.addrs facts.dst
    && has_protocol row.protocols facts.proto
    && fits_side_port row.from.ports (source_of facts.l4)
    && fits_side_port row.to.ports (destination_of facts.l4)
    && fits_family row.v6 facts.src

-- a packet that the rule's packet part describes meets the row
abbrev pub IsRowOf : Rule → Row → Type 0
IsRowOf rule row = (tables : Tables) (facts : Facts) → describes_packet rule tables facts ≡ true → meets_row row facts ≡ true

-- and of each part: what fits the list lies in the hull
abbrev pub HasProtocols : List ℕ → ProtocolSet → Type 0
HasProtocols protos set = (proto : ℕ) → fits_protocol protos proto ≡ true → has_protocol set proto ≡ true

abbrev pub IsHullOfAddrs : Bool → Option (List AddrItem) → Option AddrHull → Type 0
IsHullOfAddrs excluded addrs hull = (tables : Tables) (addr : Addr) → fits_addrs excluded addrs tables addr ≡ true → in_hull hull addr ≡ true

abbrev pub IsHullOfPorts : Option (List (ℕ × ℕ)) → Option (ℕ × ℕ) → Type 0
IsHullOfPorts ports hull = (port : Option ℕ) → fits_ports ports port ≡ true → fits_side_port hull port ≡ true

-- the hulls are those of an end's addresses and ports
pub record IsEndRowOf (ends : Ends) (row : EndRow) : Type 0 where
  pub addrs : IsHullOfAddrs ends.excluded ends.addrs row.addrs
  pub ports : IsHullOfPorts ends.ports row.ports

-- one hull lies in the other
abbrev pub IsWithin : AddrHull → AddrHull → Type 0
IsWithin inner outer = (addr : Addr) → in_hull (Some inner) addr ≡ true → in_hull (Some outer) addr ≡ true

-- the addresses with these first bits lie in the hull
abbrev pub IsHullOfBits : ℕ → Addr → AddrHull → Type 0
IsHullOfBits len first hull = (addr : Addr) → shares_first len first addr ≡ true → in_hull (Some hull) addr ≡ true

abbrev pub IsWithinRange : ℕ × ℕ → ℕ × ℕ → Type 0
IsWithinRange inner outer = (port : ℕ) → in_range port inner ≡ true → in_range port outer ≡ true
