-- The addresses of a rule: blocks, tables, and interfaces and functions, of which every address counts.
use Rattle.std.specs.Prelude.{ℕ, Bool, true, false, unwrap_or, Option, Some, None, List, [], ◌∷◌, ◌++◌, map}
use Rattle.std.specs.List.{flat_map}
use Rattle.std.specs.Option.{option_map}
use Rattle.npf_types.specs.declared.address.Addr.{Addr}
use Rattle.npf_types.specs.Address.{width}
use Rattle.npf_types.specs.Block.{block}
use Rattle.npf_faults.specs.declared.fault.ConfFault.{ConfFault}
use Rattle.npf_syntax.specs.declared.filter.Addresses.{Addresses}
use Rattle.npf_syntax.specs.declared.filter.Addresses.TheVariants as Written
use Rattle.npf_syntax.specs.declared.value.Value.{Value}
use Rattle.npf_model.specs.declared.ends.AddrItem.{AddrItem}
use Rattle.npf_model.specs.declared.ends.AddrItem.TheVariants.{Net, InTable}
use Rattle.npf_model.specs.declared.iface.Iface.{Iface}
use Rattle.npf_expand_values.specs.declared.role.Role.TheVariants.{AsAddress}
use Rattle.npf_expand_values.specs.Atom.{Atom, BlockAtom, TableAtom, Env}
use Rattle.npf_expand_values.specs.Declarations.{table_number}
use Rattle.npf_expand_values.specs.Host.{host_count, hosts_of}
use Rattle.npf_expand_values.specs.Variable.{each_value_faults, empty_list_at, empty_list_faults, listed_values, spliced}

-- one address as a block
abbrev pub host_item : Addr → AddrItem
host_item addr = Net (block addr (width addr))

-- what a value is among the addresses of a rule; `tables` are the names of the configuration's tables
abbrev pub items_of : List Iface → List (List ℕ) → Atom → List AddrItem
items_of ifaces tables (BlockAtom addr len) = Net (block addr (unwrap_or len (width addr))) ∷ []
items_of ifaces tables (TableAtom name) = InTable (table_number tables name) ∷ []
items_of ifaces tables atom = map host_item (hosts_of ifaces atom)

-- whether the values that are listed are those that an address must not have
abbrev pub is_excluded : Addresses → Bool
is_excluded (Written.Excluded values span) = true
is_excluded _ = false

-- the values that are listed, none where any address is asked for
abbrev pub listed_addresses : Addresses → Option (List Value)
listed_addresses (Written.Any span) = None
listed_addresses (Written.Excluded values span) = Some (listed_values values)
listed_addresses (Written.One value span) = Some (value ∷ [])
listed_addresses (Written.List list span) = Some list.values

module _ (ifaces : List Iface) (env : Env) where
  abbrev pub addresses_faults : Addresses → List ConfFault
  addresses_faults (Written.Any span) = []
  addresses_faults (Written.Excluded values span) = empty_list_faults values ++ flat_map (each_value_faults ifaces env AsAddress) (listed_values values)
  addresses_faults (Written.One value span) = each_value_faults ifaces env AsAddress value
  addresses_faults (Written.List list span) = empty_list_at list.span list.values ++ flat_map (each_value_faults ifaces env AsAddress) list.values

  -- how many elements are listed
  abbrev pub addresses_count : Addresses → ℕ
  addresses_count addresses = host_count ifaces (spliced ifaces env (unwrap_or (listed_addresses addresses) []))

  -- none where any address is asked for
  abbrev pub address_items : List (List ℕ) → Addresses → Option (List AddrItem)
  address_items tables addresses = option_map (λ values. flat_map (items_of ifaces tables) (spliced ifaces env values)) (listed_addresses addresses)
