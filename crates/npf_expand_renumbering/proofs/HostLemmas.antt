-- Where an address is asked for, an interface that has an address stands for the same ones with a longer list of interfaces.
use Rattle.std.proofs.Common.{◌≡◌, ℕ, ◌+◌, Bool, true, false, ◌&&◌, ◌||◌, nat_lt, if◌then◌else◌, Option, Some, None, List, [], ◌∷◌, ◌++◌, length, map, refl, sym, ap, ap₂, ◌∙◌}
use Rattle.std.{specs.List.{filter, flat_map, list_any}, proofs.lemmas.{Bool.or_parts, List.{Folds.list_any-append, Sums.sum_by-cons}}}
use Rattle.npf_types.specs.declared.{address.Addr.{Addr, TheVariants.{V4, V6}}, span.Span.Span}
use Rattle.npf_faults.specs.{declared.fault.{Fault.TheVariants.{Expected, UnknownInterface}}, First.{fault_at, fault_if}}
use Rattle.npf_syntax.specs.declared.value.{Function.Function, Value.Value}
use Rattle.npf_model.specs.declared.{ends.AddrItem.AddrItem, iface.Iface.Iface}
use Rattle.npf_expand_values.specs.declared.role.Role.{Role, TheVariants.{AsPort, AsAddress, AsProtocol, AsInterface}}
use Rattle.npf_expand_values.specs.Address.{host_item, items_of}
use Rattle.npf_expand_values.specs.Atom.{Atom, NumberAtom, RangeAtom, WordAtom, StringAtom, BlockAtom, TableAtom, AddressesAtom, Binding, Env}
use Rattle.npf_expand_values.specs.Leader.{host_name}
use Rattle.npf_expand_values.specs.Host.{addresses_named, counted_as, host_count, host_count_of, hosts_of, is_missing, lacks_addresses, missing_faults, one_place_faults, place_faults}
use Rattle.npf_expand_values.specs.{Iface.{addresses_of_first, has_none, is_of}, Use.{atoms_of, count_of, use_faults}}
use Rattle.npf_expand_values.specs.Variable.{binding_of, bound_faults, each_value_faults, own_faults, spliced, value_span}
use Rattle.npf_expand.specs.Map.{first_block, first_host, side_block}
use Rattle.npf_expand.proofs.ElementLemmas.{unless, untold}
use Rattle.npf_expand_renumbering.proofs.{CleanLemmas.{back, both, front}, IfaceLemmas.KeepsAddresses}

filter_all : (p : Addr → Bool) → ((addr : Addr) → p addr ≡ true) → (addrs : List Addr) → filter p addrs ≡ addrs
filter_all p all [] = refl
filter_all p all (addr ∷ addrs) = ap (λ b. if b then addr ∷ filter p addrs else filter p addrs) (all addr) ∙ ap (λ rest. addr ∷ rest) (filter_all p all addrs)

somewhere : Span
somewhere = record { line = 0; col = 0; at = 0; len = 0 }

every : (addr : Addr) → is_of (Function.IfAddrs somewhere) addr ≡ true
every (V4 _) = refl
every (V6 _) = refl

module _ (ifaces longer : List Iface) (keeps : KeepsAddresses ifaces longer) where
  all_of : (list : List Iface) (text : List ℕ) → filter (is_of (Function.IfAddrs somewhere)) (addresses_of_first list text) ≡ addresses_of_first list text
  all_of list text = filter_all (is_of (Function.IfAddrs somewhere)) every (addresses_of_first list text)

  named_same : (name : Option (List ℕ)) → lacks_addresses ifaces name ≡ false → addresses_named longer name ≡ addresses_named ifaces name
  named_same None some = refl
  named_same (Some text) some =
      sym (all_of longer text)
      ∙ keeps (Function.IfAddrs somewhere) (Some text) somewhere
      (ap (λ (addrs : List Addr). fault_if (has_none addrs) somewhere UnknownInterface) (all_of ifaces text) ∙ ap (λ lacks. fault_if lacks somewhere UnknownInterface) some)
      ∙ all_of ifaces text

  still_has : (name : Option (List ℕ)) → lacks_addresses ifaces name ≡ false → lacks_addresses longer name ≡ false
  still_has None some = refl
  still_has (Some text) some = ap has_none (named_same (Some text) some) ∙ some

  counted_same : (count : ℕ) (name : Option (List ℕ)) → lacks_addresses ifaces name ≡ false → counted_as longer count name ≡ counted_as ifaces count name
  counted_same count None some = refl
  counted_same count (Some text) some = ap (λ (addrs : List Addr). length addrs) (named_same (Some text) some)

  hosts_same : (atom : Atom) → is_missing ifaces atom ≡ false → hosts_of longer atom ≡ hosts_of ifaces atom
  hosts_same (AddressesAtom iface addrs) some = refl
  hosts_same (NumberAtom number) some = refl
  hosts_same (RangeAtom first last) some = refl
  hosts_same (WordAtom text span) some = named_same (host_name (WordAtom text span)) some
  hosts_same (StringAtom text) some = named_same (host_name (StringAtom text)) some
  hosts_same (BlockAtom addr len) some = refl
  hosts_same (TableAtom name) some = refl

  items_same : (tables : List (List ℕ)) (atom : Atom) → is_missing ifaces atom ≡ false → items_of longer tables atom ≡ items_of ifaces tables atom
  items_same tables (BlockAtom addr len) some = refl
  items_same tables (TableAtom name) some = refl
  items_same tables (AddressesAtom iface addrs) some = refl
  items_same tables (NumberAtom number) some = refl
  items_same tables (RangeAtom first last) some = refl
  items_same tables (WordAtom text span) some = ap (map host_item) (hosts_same (WordAtom text span) some)
  items_same tables (StringAtom text) some = ap (map host_item) (hosts_same (StringAtom text) some)

  block_same : (atom : Atom) → is_missing ifaces atom ≡ false → side_block longer atom ≡ side_block ifaces atom
  block_same (BlockAtom addr len) some = refl
  block_same (TableAtom name) some = refl
  block_same (AddressesAtom iface addrs) some = refl
  block_same (NumberAtom number) some = refl
  block_same (RangeAtom first last) some = refl
  block_same (WordAtom text span) some = ap first_host (hosts_same (WordAtom text span) some)
  block_same (StringAtom text) some = ap first_host (hosts_same (StringAtom text) some)

  -- atoms none of which names an interface without an address
  abbrev AreThere : List Atom → Type 0
  AreThere atoms = list_any (is_missing ifaces) atoms ≡ false

  still_there : (atoms : List Atom) → AreThere atoms → list_any (is_missing longer) atoms ≡ false
  still_there [] there = refl
  still_there (atom ∷ atoms) there =
      let each = or_parts (is_missing ifaces atom) (list_any (is_missing ifaces) atoms) there in
      ap (λ b. b || list_any (is_missing longer) atoms) (still_has (host_name atom) each.0) ∙ still_there atoms each.1

  pub counts_same : (atoms : List Atom) → AreThere atoms → host_count longer atoms ≡ host_count ifaces atoms
  counts_same [] there = refl
  counts_same (atom ∷ atoms) there =
      let each = or_parts (is_missing ifaces atom) (list_any (is_missing ifaces) atoms) there in
      sum_by-cons (host_count_of longer) atom atoms ∙ ap₂ (λ n m. n + m) (counted_same (count_of atom) (host_name atom) each.0) (counts_same atoms each.1)
      ∙ sym (sum_by-cons (host_count_of ifaces) atom atoms)

  pub all_items_same : (tables : List (List ℕ)) (atoms : List Atom) → AreThere atoms → flat_map (items_of longer tables) atoms ≡ flat_map (items_of ifaces tables) atoms
  all_items_same tables [] there = refl
  all_items_same tables (atom ∷ atoms) there =
      let each = or_parts (is_missing ifaces atom) (list_any (is_missing ifaces) atoms) there in
      ap (λ (items : List AddrItem). items ++ flat_map (items_of longer tables) atoms) (items_same tables atom each.0)
      ∙ ap (λ (items : List AddrItem). items_of ifaces tables atom ++ items) (all_items_same tables atoms each.1)

  pub first_block_same : (atoms : List Atom) → AreThere atoms → first_block longer atoms ≡ first_block ifaces atoms
  first_block_same [] there = refl
  first_block_same (atom ∷ atoms) there = block_same atom (or_parts (is_missing ifaces atom) (list_any (is_missing ifaces) atoms) there).0

  placed_there : (span : Span) (atoms : List Atom) → place_faults ifaces AsAddress span atoms ≡ [] → AreThere atoms
  placed_there span atoms none = untold _ span UnknownInterface (back (use_faults AsAddress span atoms) (missing_faults ifaces AsAddress span atoms) none)

  pub place_none : (role : Role) (span : Span) (atoms : List Atom) → place_faults ifaces role span atoms ≡ [] → place_faults longer role span atoms ≡ []
  place_none AsAddress span atoms none =
      both (use_faults AsAddress span atoms) (missing_faults longer AsAddress span atoms)
      (front (use_faults AsAddress span atoms) (missing_faults ifaces AsAddress span atoms) none)
      (ap (λ missing. fault_if missing span UnknownInterface) (still_there atoms (placed_there span atoms none)))
  place_none AsPort span atoms none = none
  place_none AsProtocol span atoms none = none
  place_none AsInterface span atoms none = none

  one_there : (span : Span) (binding : Binding) → one_place_faults ifaces AsAddress span binding ≡ [] → AreThere binding.atoms
  one_there span binding none =
      placed_there span binding.atoms (unless (binding.many && nat_lt 1 (host_count ifaces binding.atoms)) span (place_faults ifaces AsAddress span binding.atoms) none).1

  pub one_place_none : (role : Role) (span : Span) (binding : Binding) → one_place_faults ifaces role span binding ≡ [] → one_place_faults longer role span binding ≡ []
  one_place_none AsAddress span binding none =
      let placed = place_faults longer AsAddress span binding.atoms in
      let parts = unless (binding.many && nat_lt 1 (host_count ifaces binding.atoms)) span (place_faults ifaces AsAddress span binding.atoms) none in
      ap (λ (count : ℕ). if binding.many && nat_lt 1 count then fault_at span Expected else placed) (counts_same binding.atoms (one_there span binding none))
      ∙ ap (λ several. if several then fault_at span Expected else placed) parts.0 ∙ place_none AsAddress span binding.atoms parts.1
  one_place_none AsPort span binding none = none
  one_place_none AsProtocol span binding none = none
  one_place_none AsInterface span binding none = none

  -- what is bound to a value of a side
  pub bound_there : (value : Value) (binding : Option Binding) → bound_faults ifaces AsAddress value binding ≡ [] → AreThere (atoms_of binding)
  bound_there value None none = refl
  bound_there value (Some binding) none = one_there (value_span value) binding none

  pub bound_none : (role : Role) (value : Value) (binding : Option Binding) → bound_faults ifaces role value binding ≡ [] → bound_faults longer role value binding ≡ []
  bound_none role value None none = refl
  bound_none role value (Some binding) none = one_place_none role (value_span value) binding none

  pub value_there : (env : Env) (value : Value) → each_value_faults ifaces env AsAddress value ≡ [] → AreThere (atoms_of (binding_of ifaces env value))
  value_there env value none =
      placed_there (value_span value) (atoms_of (binding_of ifaces env value))
      (back (own_faults ifaces env value) (place_faults ifaces AsAddress (value_span value) (atoms_of (binding_of ifaces env value))) none)

  pub values_there : (env : Env) (values : List Value) → flat_map (each_value_faults ifaces env AsAddress) values ≡ [] → AreThere (spliced ifaces env values)
  values_there env [] none = refl
  values_there env (value ∷ values) none =
      let here = each_value_faults ifaces env AsAddress value in
      let rest = flat_map (each_value_faults ifaces env AsAddress) values in
      list_any-append (is_missing ifaces) (atoms_of (binding_of ifaces env value)) (spliced ifaces env values)
      ∙ ap₂ (λ a b. a || b) (value_there env value (front here rest none)) (values_there env values (back here rest none))
