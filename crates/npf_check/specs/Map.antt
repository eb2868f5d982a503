-- 47: what a map can't be (npf.conf(5), "Map"; RFC 6296 for npt66), told at its statement. The model tells its blocks, ports and
-- protocol, the text whether a side is a table and whether its algorithm is known.
use Rattle.std.specs.Prelude.{ℕ, Bool, false, not, ◌==◌, ◌&&◌, ◌||◌, nat_le, is_some, Option, Some, None, List, zip}
use Rattle.std.specs.List.{flat_map}
use Rattle.npf_types.specs.declared.prefix.Prefix.{Prefix}
use Rattle.npf_types.specs.Address.{width}
use Rattle.npf_faults.specs.declared.fault.ConfFault.{ConfFault}
use Rattle.npf_faults.specs.declared.fault.Fault.TheVariants.{BadMap}
use Rattle.npf_syntax.specs.declared.stmt.Stmt.{Stmt}
use Rattle.npf_syntax.specs.declared.stmt.Tree.{Tree}
use Rattle.npf_model.specs.declared.map.Algo.{Algo}
use Rattle.npf_model.specs.declared.map.Algo.TheVariants.{Dynamic, Netmap, Npt66}
use Rattle.npf_model.specs.declared.map.Arrow.{Arrow}
use Rattle.npf_model.specs.declared.map.Arrow.TheVariants.{ToOutside, ToInside, Both}
use Rattle.npf_model.specs.declared.map.Map.{Map}
use Rattle.npf_model.specs.declared.model.Model.{Model}
use Rattle.npf_model.specs.Describes.{fits_family, is_v6}
use Rattle.npf_model.specs.MapOf.{comes_inside}
use Rattle.npf_faults.specs.First.{fault_if}
use Rattle.npf_check.specs.declared.map.MapsLeft.{MapsLeft}
use Rattle.npf_check.specs.Name.{no_text}
use Rattle.npf_check.specs.Pair.{first_beside}
use Rattle.npf_check.specs.Port.{carries_ports}
use Rattle.npf_check.specs.Unbuilt.{is_built_kind}
use Rattle.npf_check.specs.WrittenMap.{WrittenMap, stands_for_table, written_maps}

abbrev pub of_one_family : Map → Bool
of_one_family m = fits_family (Some (is_v6 m.inside.net.addr)) m.outside.net.addr

abbrev pub of_one_length : Map → Bool
of_one_length m = m.inside.net.len == m.outside.net.len

abbrev pub is_one_address : Prefix → Bool
is_one_address net = net.len == width net.addr

-- a block that npt66 translates: of IPv6, its length 48 at most
abbrev pub fits_npt66 : Prefix → Bool
fits_npt66 net = is_v6 net.addr && nat_le net.len 48

abbrev pub has_ports : Map → Bool
has_ports m = is_some m.inside.ports || is_some m.outside.ports

-- a range with one port is a port
abbrev pub is_one_port : Option (ℕ × ℕ) → Bool
is_one_port None = false
is_one_port (Some (first, last)) = first == last

abbrev pub asks_for_ports : Option ℕ → Bool
asks_for_ports None = false
asks_for_ports (Some protocol) = carries_ports protocol

-- what a map of this algorithm can't be: a dynamic one gives one address, and has one where it comes inside; a static one has no ports
-- and blocks of one length. Of an algorithm that isn't known no lengths are compared.
abbrev pub breaks_algo : Bool → Map → Algo → Bool
breaks_algo known m Dynamic = not (is_one_address m.outside.net) || (comes_inside m.arrow && not (is_one_address m.inside.net))
breaks_algo known m Netmap = has_ports m || (known && not (of_one_length m))
breaks_algo known m Npt66 = has_ports m || not (of_one_length m) || not (fits_npt66 m.inside.net && fits_npt66 m.outside.net)

-- where its ports can't stand: on the left of `->`; on one side of `<-`, or as a range, or without TCP or UDP; in `<->`
abbrev pub breaks_arrow : Map → Arrow → Bool
breaks_arrow m ToOutside = is_some m.inside.ports
breaks_arrow m ToInside = has_ports m && not (is_one_port m.inside.ports && is_one_port m.outside.ports && asks_for_ports m.proto)
breaks_arrow m Both = has_ports m

-- what no map without a table can be, its algorithm known or not
abbrev pub is_bad_map : Bool → Map → Bool
is_bad_map known m = not (of_one_family m) || breaks_algo known m m.algo || breaks_arrow m m.arrow

abbrev pub bad_map : WrittenMap × Map → List ConfFault
bad_map (written, m) = fault_if (written.by_table || is_bad_map (is_built_kind written.kind) m) written.span BadMap

abbrev pub bad_map_faults : Tree → Model → List ConfFault
bad_map_faults tree model = flat_map bad_map (zip (written_maps no_text tree.stmts) model.maps)

-- the first bad map, of those that the code has met and of those of these statements behind them
abbrev pub first_bad : MapsLeft → List Stmt → Option ConfFault
first_bad left stmts = first_beside bad_map left.first (written_maps (stands_for_table left.variables) stmts) left.rest.now
