-- Why a map can't be: the conditions of `is_bad_map` and of a side that is a table one by one, each with what is said of it, in the order of
-- that definition.
use Rattle.std.specs.Prelude.{ℕ, Bool, true, false, not, ◌&&◌, is_some, Option, List, [], ◌∷◌, codes, find}
use Rattle.npf_syntax.specs.declared.map.MapKind.{MapKind}
use Rattle.npf_model.specs.declared.map.Algo.{Algo}
use Rattle.npf_model.specs.declared.map.Algo.TheVariants.{Dynamic, Netmap, Npt66}
use Rattle.npf_model.specs.declared.map.Arrow.{Arrow}
use Rattle.npf_model.specs.declared.map.Arrow.TheVariants.{ToOutside, ToInside, Both}
use Rattle.npf_model.specs.declared.map.Map.{Map}
use Rattle.npf_model.specs.MapOf.{comes_inside}
use Rattle.npf_check.specs.Map.{asks_for_ports, fits_npt66, has_ports, is_one_address, is_one_port, of_one_family, of_one_length}
use Rattle.npf_check.specs.Unbuilt.{is_built_kind}
use Rattle.npf_why_map.specs.declared.reason.MapReason.{MapReason}
use Rattle.npf_why_map.specs.declared.reason.MapReason.TheVariants.{TableSide, OtherFamilies, DynamicRight, DynamicLeft, StaticPorts, OtherLengths, Npt66Networks, PortsBeforeArrow, PortsNotOneEach, PortsWithoutProtocol, PortsBothWays}

abbrev pub reasons : List MapReason
reasons =
    TableSide ∷ OtherFamilies ∷ DynamicRight ∷ DynamicLeft ∷ StaticPorts ∷ OtherLengths ∷ Npt66Networks ∷ PortsBeforeArrow ∷ PortsNotOneEach ∷ PortsWithoutProtocol
    ∷ PortsBothWays ∷ []

abbrev pub is_dynamic : Algo → Bool
is_dynamic Dynamic = true
is_dynamic _ = false

abbrev pub is_npt66 : Algo → Bool
is_npt66 Npt66 = true
is_npt66 _ = false

-- of an algorithm that isn't known it isn't known either
abbrev pub asks_for_length : Bool → Algo → Bool
asks_for_length known Dynamic = false
asks_for_length known Netmap = known
asks_for_length known Npt66 = true

abbrev pub is_outward : Arrow → Bool
is_outward ToOutside = true
is_outward _ = false

abbrev pub is_inward : Arrow → Bool
is_inward ToInside = true
is_inward _ = false

abbrev pub is_both_ways : Arrow → Bool
is_both_ways Both = true
is_both_ways _ = false

abbrev pub is_inward_with_ports : Map → Bool
is_inward_with_ports m = is_inward m.arrow && has_ports m

abbrev pub has_one_port_each : Map → Bool
has_one_port_each m = is_one_port m.inside.ports && is_one_port m.outside.ports

-- the reason is one of a map, of which it is said whether a side is a table, and whether its algorithm is known
abbrev pub is_reason : Bool → Bool → Map → MapReason → Bool
is_reason by_table known m TableSide = by_table
is_reason by_table known m OtherFamilies = not (of_one_family m)
is_reason by_table known m DynamicRight = is_dynamic m.algo && not (is_one_address m.outside.net)
is_reason by_table known m DynamicLeft = is_dynamic m.algo && comes_inside m.arrow && not (is_one_address m.inside.net)
is_reason by_table known m StaticPorts = not (is_dynamic m.algo) && has_ports m
is_reason by_table known m OtherLengths = asks_for_length known m.algo && not (of_one_length m)
is_reason by_table known m Npt66Networks = is_npt66 m.algo && not (fits_npt66 m.inside.net && fits_npt66 m.outside.net)
is_reason by_table known m PortsBeforeArrow = is_outward m.arrow && is_some m.inside.ports
is_reason by_table known m PortsNotOneEach = is_inward_with_ports m && not (has_one_port_each m)
is_reason by_table known m PortsWithoutProtocol = is_inward_with_ports m && not (asks_for_ports m.proto)
is_reason by_table known m PortsBothWays = is_both_ways m.arrow && has_ports m

-- the first of its reasons
abbrev pub map_reason : Bool → MapKind → Map → Option MapReason
map_reason by_table kind m = find (is_reason by_table (is_built_kind kind) m) reasons

-- what is so of every map that can be
abbrev pub reason_sentence : MapReason → List ℕ
reason_sentence TableSide = codes "a table can't be a side of a map"
reason_sentence OtherFamilies = codes "both sides of a map are of IPv4, or both of IPv6"
reason_sentence DynamicRight = codes "the right side of a dynamic map is one address"
reason_sentence DynamicLeft = codes "the left side of a dynamic map with `<-` or `<->` is one address"
reason_sentence StaticPorts = codes "a static map has no ports"
reason_sentence OtherLengths = codes "the two sides of a static map are networks of one length"
reason_sentence Npt66Networks = codes "the two sides of a map by npt66 are networks of IPv6 with a length of at most 48"
reason_sentence PortsBeforeArrow = codes "the left side of a map with `->` has no ports"
reason_sentence PortsNotOneEach = codes "a map with `<-` has one port on each side, or none at all"
reason_sentence PortsWithoutProtocol = codes "the ports of a map with `<-` stand beside `proto tcp` or `proto udp`"
reason_sentence PortsBothWays = codes "a map with `<->` has no ports"
