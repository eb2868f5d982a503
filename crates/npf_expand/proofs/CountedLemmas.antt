-- The lists of a rule have at most as many elements as are counted of its filter, and elements that pass no limit keep it.
use Rattle.std.proofs.Common.{◌≡◌, ◌≤◌, ◌+◌, ℕ, ◌&&◌, nat_le, nat_lt, false, Option, Some, None, List, [], ◌∷◌, length, map, refl, arith}
use Rattle.std.{specs.List.{cons_option, filter_map, flat_map}, proofs.lemmas.{Bool.Decides.nat_tests, List.{length-append, length-map, Sums.sum_by-cons}}}
use Rattle.npf_types.specs.declared.{limits.TheConstants.MAX_LIST_ELEMENTS, span.Span.Span}
use Rattle.npf_syntax.specs.declared.{filter.{Addresses.Addresses, ProtoPart.ProtoPart}, value.Values.Values}
use Rattle.npf_syntax.specs.declared.filter.Addresses.TheVariants as Written
use Rattle.npf_model.specs.{declared.iface.Iface.Iface, Count.listed}
use Rattle.npf_expand_values.specs.Address.{addresses_count, address_items, host_item, items_of}
use Rattle.npf_expand_values.specs.Atom.{Atom, NumberAtom, RangeAtom, WordAtom, StringAtom, BlockAtom, TableAtom, AddressesAtom, Env}
use Rattle.npf_expand_values.specs.{Leader.host_name, Host.{addresses_named, counted_as, host_count, host_count_of}, Iface.addresses_of_first}
use Rattle.npf_expand_values.specs.{Port.{atom_ports, ports_count, ports_of}, Protocol.{protocol_of, spliced_ones}, Use.{count_of, element_count}}
use Rattle.npf_expand_values.specs.Variable.{listed_values, spliced}
use Rattle.npf_expand.{specs.Rule.{part_count, part_protocols, passing_faults}, proofs.ElementLemmas.untold}

kept_one : {Y : Type 0} (kept : Option Y) (ys : List Y) (n m : ℕ) → ((y : Y) → kept ≡ Some y → 1 ≤ n) → length ys ≤ m → length (cons_option kept ys) ≤ n + m
kept_one None ys n m some few = omega arith
kept_one (Some y) ys n m some few = let one = some y refl in omega arith

kept_few : {Y : Type 0} (keep : Atom → Option Y) → ((atom : Atom) (y : Y) → keep atom ≡ Some y → 1 ≤ count_of atom) → (atoms : List Atom)
    → length (filter_map keep atoms) ≤ element_count atoms
kept_few keep some [] = omega arith
kept_few keep some (atom ∷ atoms) =
    rw (sum_by-cons count_of atom atoms) (kept_one (keep atom) (filter_map keep atoms) (count_of atom) (element_count atoms) (some atom) (kept_few keep some atoms))

protocol_counts : (atom : Atom) (number : ℕ) → protocol_of atom ≡ Some number → 1 ≤ count_of atom
protocol_counts (AddressesAtom _ addrs) number is = absurd (let none : None ≡ Some number = is in cc)
protocol_counts (NumberAtom _) number is = omega arith
protocol_counts (RangeAtom _ _) number is = omega arith
protocol_counts (WordAtom _ _) number is = omega arith
protocol_counts (StringAtom _) number is = omega arith
protocol_counts (BlockAtom _ _) number is = omega arith
protocol_counts (TableAtom _) number is = omega arith

ports_counted : (atom : Atom) (range : ℕ × ℕ) → atom_ports atom ≡ Some range → 1 ≤ count_of atom
ports_counted (AddressesAtom _ addrs) range is = absurd (let none : None ≡ Some range = is in cc)
ports_counted (NumberAtom _) range is = omega arith
ports_counted (RangeAtom _ _) range is = omega arith
ports_counted (WordAtom _ _) range is = omega arith
ports_counted (StringAtom _) range is = omega arith
ports_counted (BlockAtom _ _) range is = omega arith
ports_counted (TableAtom _) range is = omega arith

named_counted : (ifaces : List Iface) (name : Option (List ℕ)) → length (map host_item (addresses_named ifaces name)) ≤ counted_as ifaces 1 name
named_counted ifaces None = omega arith
named_counted ifaces (Some text) = let same = length-map (addresses_of_first ifaces text) host_item in omega (arith, same)

items_counted : (ifaces : List Iface) (tables : List (List ℕ)) (atom : Atom) → length (items_of ifaces tables atom) ≤ host_count_of ifaces atom
items_counted ifaces tables (AddressesAtom _ addrs) = let same = length-map addrs host_item in omega (arith, same)
items_counted ifaces tables (NumberAtom _) = omega arith
items_counted ifaces tables (RangeAtom _ _) = omega arith
items_counted ifaces tables (WordAtom text span) = named_counted ifaces (host_name (WordAtom text span))
items_counted ifaces tables (StringAtom text) = named_counted ifaces (host_name (StringAtom text))
items_counted ifaces tables (BlockAtom _ _) = omega arith
items_counted ifaces tables (TableAtom _) = omega arith

items_few : (ifaces : List Iface) (tables : List (List ℕ)) (atoms : List Atom) → length (flat_map (items_of ifaces tables) atoms) ≤ host_count ifaces atoms
items_few ifaces tables [] = omega arith
items_few ifaces tables (atom ∷ atoms) =
    let here = items_counted ifaces tables atom in
    let rest = items_few ifaces tables atoms in
    let both = length-append (items_of ifaces tables atom) (flat_map (items_of ifaces tables) atoms) in
    rw (sum_by-cons (host_count_of ifaces) atom atoms) (omega (arith, here, rest, both))

module _ (ifaces : List Iface) (env : Env) (tables : List (List ℕ)) where
  pub addresses_few : (addresses : Addresses) → listed (address_items ifaces env tables addresses) ≤ addresses_count ifaces env addresses
  addresses_few (Written.Any span) = omega arith
  addresses_few (Written.Excluded values span) = items_few ifaces tables (spliced ifaces env (listed_values values))
  addresses_few (Written.One value span) = items_few ifaces tables (spliced ifaces env (value ∷ []))
  addresses_few (Written.List list span) = items_few ifaces tables (spliced ifaces env list.values)

  pub ports_few : (ports : Option Values) → listed (ports_of ifaces env ports) ≤ ports_count ifaces env ports
  ports_few None = omega arith
  ports_few (Some values) = kept_few atom_ports ports_counted (spliced ifaces env (listed_values values))

  pub part_few : (part : Option ProtoPart) → length (part_protocols ifaces env part) ≤ part_count ifaces env part
  part_few None = omega arith
  part_few (Some part) = kept_few protocol_of protocol_counts (spliced_ones env part.protocols)

within : (before more most : ℕ) → (nat_le before most && nat_lt most (before + more)) ≡ false → before ≤ most → before + more ≤ most
within before more most passes is = grind (arith, nat_tests)

pub within_limit : (before more : ℕ) (span : Span) → passing_faults before more span ≡ [] → before ≤ MAX_LIST_ELEMENTS → before + more ≤ MAX_LIST_ELEMENTS
within_limit before more span none is = within before more MAX_LIST_ELEMENTS (untold _ span _ none) is
