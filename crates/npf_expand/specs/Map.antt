-- The maps of a configuration. Of a side that isn't one block, as a table is, the block of every IPv4 address stands in the
-- model, and of an algorithm that isn't known `netmap`, or ports that are drawn: a check refuses both by the tree.
use Rattle.std.specs.Prelude.{ℕ, if◌then◌else◌, unwrap_or, Option, Some, None, List, [], ◌∷◌, ◌++◌, codes}
use Rattle.std.specs.Option.{option_map}
use Rattle.std.specs.Str.{bytes_eq}
use Rattle.npf_types.specs.declared.address.Addr.{Addr}
use Rattle.npf_types.specs.declared.address.Addr.TheVariants.{V4}
use Rattle.npf_types.specs.declared.prefix.Prefix.{Prefix}
use Rattle.npf_types.specs.Address.{width}
use Rattle.npf_types.specs.Block.{block}
use Rattle.npf_faults.specs.declared.fault.ConfFault.{ConfFault}
use Rattle.npf_syntax.specs.declared.filter.Filter.{Filter}
use Rattle.npf_syntax.specs.declared.map.ArrowTree.{ArrowTree as WrittenArrow}
use Rattle.npf_syntax.specs.declared.map.ArrowTree.TheVariants as ArrowIs
use Rattle.npf_syntax.specs.declared.map.MapKind.{MapKind}
use Rattle.npf_syntax.specs.declared.map.SideTree.{SideTree as WrittenSide}
use Rattle.npf_syntax.specs.declared.value.IfaceTree.{IfaceTree as WrittenIface}
use Rattle.npf_syntax.specs.declared.value.One.{One}
use Rattle.npf_syntax.specs.declared.value.Value.{Value}
use Rattle.npf_syntax.specs.declared.word.Word.{Word}
use Rattle.npf_model.specs.declared.iface.Iface.{Iface}
use Rattle.npf_model.specs.declared.map.Algo.{Algo}
use Rattle.npf_model.specs.declared.map.Arrow.{Arrow}
use Rattle.npf_model.specs.declared.map.Map.{Map}
use Rattle.npf_model.specs.declared.map.Side.{Side}
use Rattle.npf_expand_values.specs.declared.role.Role.TheVariants.{AsAddress, AsPort}
use Rattle.npf_expand_values.specs.Atom.{Atom, BlockAtom, Env}
use Rattle.npf_expand_values.specs.Host.{hosts_of}
use Rattle.npf_expand_values.specs.Iface.{iface_faults, on_iface}
use Rattle.npf_expand_values.specs.Port.{atom_ports}
use Rattle.npf_expand_values.specs.Protocol.{one_protocol, one_protocol_faults}
use Rattle.npf_expand_values.specs.Use.{atoms_of}
use Rattle.npf_expand_values.specs.Variable.{binding_of, single_value_faults}
use Rattle.npf_expand.specs.Rule.{filter_faults, filter_rule}

abbrev pub algo_named : Option Word → Algo
algo_named None = Algo.Netmap
algo_named (Some word) = if bytes_eq word.text (codes "npt66") then Algo.Npt66 else Algo.Netmap

abbrev pub algo_of : MapKind → Algo
algo_of (MapKind.Dynamic algo no_ports span) = Algo.Dynamic
algo_of (MapKind.Static algo no_ports span) = algo_named algo

abbrev pub arrow_of_sign : WrittenArrow → Arrow
arrow_of_sign (ArrowIs.Right span) = Arrow.ToOutside
arrow_of_sign (ArrowIs.Left span) = Arrow.ToInside
arrow_of_sign (ArrowIs.Both span) = Arrow.Both

-- every IPv4 address
abbrev pub every_v4 : Prefix
every_v4 = block (V4 0) 0

-- the block of a side: of the addresses of an interface or a function the first
abbrev pub first_host : List Addr → Prefix
first_host [] = every_v4
first_host (addr ∷ _) = block addr (width addr)

abbrev pub side_block : List Iface → Atom → Prefix
side_block ifaces (BlockAtom addr len) = block addr (unwrap_or len (width addr))
side_block ifaces atom = first_host (hosts_of ifaces atom)

abbrev pub first_block : List Iface → List Atom → Prefix
first_block ifaces [] = every_v4
first_block ifaces (atom ∷ _) = side_block ifaces atom

abbrev pub first_port : List Atom → Option (ℕ × ℕ)
first_port [] = None
first_port (atom ∷ _) = atom_ports atom

module _ (ifaces : List Iface) (env : Env) where
  abbrev pub side_port_faults : Option Value → List ConfFault
  side_port_faults None = []
  side_port_faults (Some value) = single_value_faults ifaces env AsPort value

  abbrev pub side_faults : WrittenSide → List ConfFault
  side_faults side = single_value_faults ifaces env AsAddress side.value ++ side_port_faults side.port

  abbrev pub map_filter_faults : Option Filter → List ConfFault
  map_filter_faults None = []
  map_filter_faults (Some filter) = filter_faults ifaces env filter

  abbrev pub side_port : Option Value → Option (ℕ × ℕ)
  side_port None = None
  side_port (Some value) = first_port (atoms_of (binding_of ifaces env value))

  abbrev pub side_of : WrittenSide → Side
  side_of side = record { net = first_block ifaces (atoms_of (binding_of ifaces env side.value)); ports = side_port side.port }

  -- a map's faults but for the number of its filter's elements
  abbrev pub map_faults : WrittenIface → Option One → WrittenSide → WrittenSide → Option Filter → List ConfFault
  map_faults iface proto left right pass =
      iface_faults env iface ++ one_protocol_faults env proto ++ side_faults left ++ side_faults right ++ map_filter_faults pass

  abbrev pub map_of_tree : List (List ℕ) → WrittenIface → MapKind → Option One → WrittenSide → WrittenArrow → WrittenSide → Option Filter → Map
  map_of_tree tables iface kind proto left arrow right pass = record {
    on = on_iface ifaces env iface;
    algo = algo_of kind;
    arrow = arrow_of_sign arrow;
    proto = one_protocol env proto;
    inside = side_of left;
    outside = side_of right;
    filter = option_map (filter_rule ifaces env tables) pass;
  }
