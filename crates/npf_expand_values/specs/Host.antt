-- Interfaces where an address is asked for: an interface that is named there stands for all its addresses, in the order of the
-- interface file. One that isn't there, or has none, is told at the name, or at the variable that it came through.
use Rattle.std.specs.Prelude.{ℕ, Bool, false, ◌&&◌, ◌++◌, length, nat_lt, if◌then◌else◌, Option, Some, None, List, []}
use Rattle.std.specs.List.{list_any, sum_by}
use Rattle.npf_types.specs.declared.address.Addr.{Addr}
use Rattle.npf_types.specs.declared.span.Span.{Span}
use Rattle.npf_faults.specs.declared.fault.ConfFault.{ConfFault}
use Rattle.npf_faults.specs.declared.fault.Fault.TheVariants.{Expected, UnknownInterface}
use Rattle.npf_faults.specs.First.{fault_at, fault_if}
use Rattle.npf_model.specs.declared.iface.Iface.{Iface}
use Rattle.npf_expand_values.specs.declared.role.Role.{Role}
use Rattle.npf_expand_values.specs.declared.role.Role.TheVariants.{AsAddress}
use Rattle.npf_expand_values.specs.Atom.{Atom, AddressesAtom, Binding}
use Rattle.npf_expand_values.specs.Leader.{host_name}
use Rattle.npf_expand_values.specs.Iface.{addresses_of_first, has_none}
use Rattle.npf_expand_values.specs.Use.{count_of, is_several, use_faults}

module _ (ifaces : List Iface) where
  abbrev pub addresses_named : Option (List ℕ) → List Addr
  addresses_named None = []
  addresses_named (Some text) = addresses_of_first ifaces text

  -- the addresses of interfaces that a value is
  abbrev pub hosts_of : Atom → List Addr
  hosts_of (AddressesAtom iface addrs) = addrs
  hosts_of atom = addresses_named (host_name atom)

  abbrev pub lacks_addresses : Option (List ℕ) → Bool
  lacks_addresses None = false
  lacks_addresses (Some text) = has_none (addresses_of_first ifaces text)

  -- the value names an interface that has no address
  abbrev pub is_missing : Atom → Bool
  is_missing atom = lacks_addresses (host_name atom)

  abbrev pub counted_as : ℕ → Option (List ℕ) → ℕ
  counted_as count None = count
  counted_as count (Some text) = length (addresses_of_first ifaces text)

  -- how many elements a value is among addresses: an interface is as many as it has addresses
  abbrev pub host_count_of : Atom → ℕ
  host_count_of atom = counted_as (count_of atom) (host_name atom)

  abbrev pub host_count : List Atom → ℕ
  host_count atoms = sum_by host_count_of atoms

  abbrev pub missing_faults : Role → Span → List Atom → List ConfFault
  missing_faults AsAddress span atoms = fault_if (list_any is_missing atoms) span UnknownInterface
  missing_faults _ span atoms = []

  -- the faults of values that are used at this place, one or many
  abbrev pub place_faults : Role → Span → List Atom → List ConfFault
  place_faults role span atoms = use_faults role span atoms ++ missing_faults role span atoms

  -- the values are more than one: as addresses, if they are several of them
  abbrev pub are_several : Role → List Atom → Bool
  are_several AsAddress atoms = nat_lt 1 (host_count atoms)
  are_several role atoms = is_several role atoms

  -- the faults of what is used where one value stands: a list of several can't, whatever is in it
  abbrev pub one_place_faults : Role → Span → Binding → List ConfFault
  one_place_faults role span binding =
      if binding.many && are_several role binding.atoms then fault_at span Expected else place_faults role span binding.atoms
