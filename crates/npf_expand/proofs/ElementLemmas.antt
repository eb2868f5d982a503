-- The elements that are counted of a rule's filter are those of its lists, where it has no fault.
use Rattle.std.proofs.Common.{◌≡◌, ◌+◌, ℕ, Bool, true, false, ◌||◌, not, nat_lt, is_some, if◌then◌else◌, Option, Some, None, List, [], ◌∷◌, ◌++◌}
use Rattle.std.proofs.Common.{length, map, refl, sym, ap, ap₂, ◌∙◌, append-nil, arith}
use Rattle.std.{specs.List.{cons_option, filter_map, flat_map, list_any, sum_by}, proofs.lemmas.List.{length-map, Concat.length-flat_map}}
use Rattle.std.proofs.lemmas.{List.Sums.{sum_by-append, sum_by-cons}, Bool.or_parts}
use Rattle.npf_types.specs.declared.span.Span.{Span}
use Rattle.npf_shelf.proofs.ListLemmas.{nil_from_append_left, nil_from_append_right}
use Rattle.npf_faults.specs.{declared.fault.{ConfFault.ConfFault, Fault.{Fault, TheVariants.{Expected, UnknownService}}}, First.{fault_at, fault_if}}
use Rattle.npf_syntax.specs.declared.{filter.{Addresses.Addresses, EndsTree.EndsTree, ProtoPart.ProtoPart}, rule.RuleTree.RuleTree, value.Value.Value}
use Rattle.npf_syntax.specs.declared.filter.Addresses.TheVariants as Written
use Rattle.npf_syntax.specs.declared.filter.EndsTree.TheVariants as EndsAre
use Rattle.npf_syntax.specs.declared.value.Values.{Values}
use Rattle.npf_model.specs.{declared.{iface.Iface.Iface, rule.Rule.Rule}, Count.{elements_of, elements_of_ends, listed}}
use Rattle.npf_expand_values.specs.declared.role.Role.{Role, TheVariants.{AsPort, AsAddress, AsProtocol}}
use Rattle.npf_expand_values.specs.Address.{address_items, addresses_count, addresses_faults, host_item, items_of}
use Rattle.npf_expand_values.specs.{Atom.{Atom, NumberAtom, RangeAtom, WordAtom, StringAtom, BlockAtom, TableAtom, AddressesAtom, Env}, Declarations.Declared}
use Rattle.npf_types.specs.NameText.{is_name}
use Rattle.npf_syntax.specs.Reserved.{is_iface_word}
use Rattle.npf_expand_values.specs.Host.{addresses_named, counted_as, host_count, host_count_of, missing_faults, place_faults}
use Rattle.npf_expand_values.specs.Iface.{addresses_of_first}
use Rattle.npf_expand_values.specs.Port.{atom_ports, ports_count, ports_faults, ports_of, same_port}
use Rattle.npf_expand_values.specs.Protocol.{one_binding, one_span, protocol_faults, protocols_faults, protocol_of, spliced_ones, written_ones}
use Rattle.npf_names.specs.{Names.number_named, Protocol.protocols, Service.services}
use Rattle.npf_expand_values.specs.Use.{atoms_of, count_of, is_unfit, undefined_faults, use_faults, word_faults}
use Rattle.npf_expand_values.specs.Variable.{binding_of, each_value_faults, empty_list_at, empty_list_faults, env_of, listed_values, own_faults, spliced, value_span}
use Rattle.npf_expand_values.proofs.FaultLemmas.{none_before}
use Rattle.npf_expand.specs.LoneRule.{ElaboratesRule, elements_alone}
use Rattle.npf_expand.specs.Rule.{ends_count, ends_faults, ends_of_written, filter_count, filter_faults, on_faults, part_count, part_faults}
use Rattle.npf_expand.specs.Rule.{part_protocols, rule_faults, rule_of_tree, source_ends, destination_ends}

pub untold : (test : Bool) (span : Span) (fault : Fault) → fault_if test span fault ≡ [] → test ≡ false
untold true span fault none = cc
untold false span fault none = refl

-- one value, or none of several
pub unless : (test : Bool) (span : Span) (faults : List ConfFault) → (if test then fault_at span Expected else faults) ≡ [] → (test ≡ false) × (faults ≡ [])
unless true span faults none = cc
unless false span faults none = (refl, none)

both : (a b c d : ℕ) → a ≡ b → c ≡ d → a + c ≡ b + d
both a b c d one other = ap₂ (λ x y. x + y) one other

from_zero : (n : ℕ) → 0 + n ≡ n
from_zero n = omega arith

-- how many items something is that may be none
abbrev kept_size : {Y : Type 0} → Option Y → ℕ
kept_size None = 0
kept_size (Some _) = 1

one_more : {Y : Type 0} (kept : Option Y) (ys : List Y) (n : ℕ) → length ys ≡ n → length (cons_option kept ys) ≡ kept_size kept + n
one_more None ys n is = omega (arith, is)
one_more (Some y) ys n is = omega (arith, is)

kept_length : {Y : Type 0} (keep : Atom → Option Y) (atoms : List Atom) → length (filter_map keep atoms) ≡ sum_by (λ atom. kept_size (keep atom)) atoms
kept_length keep [] = refl
kept_length keep (atom ∷ atoms) =
    one_more (keep atom) (filter_map keep atoms) _ (kept_length keep atoms) ∙ sym (sum_by-cons (λ a. kept_size (keep a)) atom atoms)

size_unless : {Y : Type 0} (test : Bool) (y : Y) → test ≡ false → kept_size (if test then None else Some y) ≡ 1
size_unless true y is = cc
size_unless false y is = refl

size_found : (found : Option ℕ) → not (is_some found) ≡ false → kept_size found ≡ 1
size_found None is = cc
size_found (Some x) is = refl

size_port : (found : Option ℕ) → not (is_some found) ≡ false → kept_size (same_port found) ≡ 1
size_port None is = cc
size_port (Some x) is = refl

-- each atom that fits its place is as many items as were counted of it
abbrev HasSize : Role → (Atom → ℕ) → (Atom → ℕ) → Type 0
HasSize role size_of counted_of = (atom : Atom) → is_unfit role atom ≡ false → word_faults role atom ≡ [] → size_of atom ≡ counted_of atom

port_size : HasSize AsPort (λ atom. kept_size (atom_ports atom)) count_of
port_size (NumberAtom number) fit told = size_unless (nat_lt 65535 number) (number, number) fit
port_size (RangeAtom first last) fit told = size_unless (nat_lt 65535 first || nat_lt 65535 last) (first, last) fit
port_size (WordAtom text span) fit told = size_port (number_named services text) (untold _ span UnknownService told)
port_size (StringAtom _) fit told = cc
port_size (BlockAtom _ _) fit told = cc
port_size (TableAtom _) fit told = cc
port_size (AddressesAtom _ _) fit told = cc

protocol_size : HasSize AsProtocol (λ atom. kept_size (protocol_of atom)) count_of
protocol_size (NumberAtom number) fit told = size_unless (nat_lt 255 number) number fit
protocol_size (WordAtom text span) fit told = size_found (number_named protocols text) (untold _ span UnknownService told)
protocol_size (RangeAtom _ _) fit told = cc
protocol_size (StringAtom _) fit told = cc
protocol_size (BlockAtom _ _) fit told = cc
protocol_size (TableAtom _) fit told = cc
protocol_size (AddressesAtom _ _) fit told = cc

named_size : (ifaces : List Iface) (is : Bool) (text : List ℕ) → not is ≡ false
    → length (map host_item (addresses_named ifaces (if is then Some text else None))) ≡ counted_as ifaces 1 (if is then Some text else None)
named_size ifaces true text fit = length-map (addresses_of_first ifaces text) host_item
named_size ifaces false text fit = cc

address_size : (ifaces : List Iface) (tables : List (List ℕ)) → HasSize AsAddress (λ atom. length (items_of ifaces tables atom)) (host_count_of ifaces)
address_size ifaces tables (BlockAtom addr len) fit told = refl
address_size ifaces tables (TableAtom name) fit told = refl
address_size ifaces tables (AddressesAtom iface addrs) fit told = length-map addrs host_item
address_size ifaces tables (NumberAtom _) fit told = cc
address_size ifaces tables (RangeAtom _ _) fit told = cc
address_size ifaces tables (WordAtom text span) fit told = named_size ifaces (is_iface_word text) text fit
address_size ifaces tables (StringAtom text) fit told = named_size ifaces (is_name text) text fit

module _ (role : Role) (size_of counted_of : Atom → ℕ) (each : HasSize role size_of counted_of) where
  fit_sum : (atoms : List Atom) → list_any (is_unfit role) atoms ≡ false → flat_map (word_faults role) atoms ≡ [] → sum_by size_of atoms ≡ sum_by counted_of atoms
  fit_sum [] fit told = refl
  fit_sum (atom ∷ atoms) fit told =
      let unfit = list_any (is_unfit role) atoms in
      let words = flat_map (word_faults role) atoms in
      sum_by-cons size_of atom atoms
      ∙ both _ _ _ _ (each atom (or_parts (is_unfit role atom) unfit fit).0 (nil_from_append_left (word_faults role atom) words told))
      (fit_sum atoms (or_parts (is_unfit role atom) unfit fit).1 (nil_from_append_right (word_faults role atom) words told))
      ∙ sym (sum_by-cons counted_of atom atoms)

  used_sum : (span : Span) (atoms : List Atom) → use_faults role span atoms ≡ [] → sum_by size_of atoms ≡ sum_by counted_of atoms
  used_sum span atoms none =
      let unfit = fault_if (list_any (is_unfit role) atoms) span Expected in
      let words = flat_map (word_faults role) atoms in
      fit_sum atoms (untold _ span Expected (nil_from_append_left unfit words none)) (nil_from_append_right unfit words none)

  each_sum : {X : Type 0} (faults : X → List ConfFault) (atoms : X → List Atom) → ((x : X) → faults x ≡ [] → sum_by size_of (atoms x) ≡ sum_by counted_of (atoms x))
      → (xs : List X) → flat_map faults xs ≡ [] → sum_by size_of (flat_map atoms xs) ≡ sum_by counted_of (flat_map atoms xs)
  each_sum faults atoms sums [] none = refl
  each_sum faults atoms sums (x ∷ xs) none =
      let rest = flat_map atoms xs in
      sum_by-append size_of (atoms x) rest
      ∙ both _ _ _ _ (sums x (nil_from_append_left (faults x) (flat_map faults xs) none)) (each_sum faults atoms sums xs (nil_from_append_right (faults x) (flat_map faults xs) none))
      ∙ sym (sum_by-append counted_of (atoms x) rest)

  values_sum : (ifaces : List Iface) (env : Env) (values : List Value) → flat_map (each_value_faults ifaces env role) values ≡ []
      → sum_by size_of (spliced ifaces env values) ≡ sum_by counted_of (spliced ifaces env values)
  values_sum ifaces env values none = each_sum (each_value_faults ifaces env role) (λ value. atoms_of (binding_of ifaces env value))
      (λ value clean. used_sum (value_span value) (atoms_of (binding_of ifaces env value))
      (let atoms = atoms_of (binding_of ifaces env value) in
      nil_from_append_left (use_faults role (value_span value) atoms) (missing_faults ifaces role (value_span value) atoms)
      (nil_from_append_right (own_faults ifaces env value) (place_faults ifaces role (value_span value) atoms) clean))) values none

module _ (ifaces : List Iface) (env : Env) (tables : List (List ℕ)) where
  values_items : (values : List Value) → flat_map (each_value_faults ifaces env AsAddress) values ≡ []
      → length (flat_map (items_of ifaces tables) (spliced ifaces env values)) ≡ host_count ifaces (spliced ifaces env values)
  values_items values none = length-flat_map (items_of ifaces tables) (spliced ifaces env values)
      ∙ values_sum AsAddress (λ atom. length (items_of ifaces tables atom)) (host_count_of ifaces) (address_size ifaces tables) ifaces env values none

  addresses_listed : (addresses : Addresses) → addresses_faults ifaces env addresses ≡ [] → listed (address_items ifaces env tables addresses) ≡ addresses_count ifaces env addresses
  addresses_listed (Written.Any span) none = refl
  addresses_listed (Written.Excluded values span) none = values_items (listed_values values)
      (nil_from_append_right (empty_list_faults values) (flat_map (each_value_faults ifaces env AsAddress) (listed_values values)) none)
  addresses_listed (Written.One value span) none = values_items (value ∷ []) (append-nil (each_value_faults ifaces env AsAddress value) ∙ none)
  addresses_listed (Written.List list span) none =
      values_items list.values (nil_from_append_right (empty_list_at list.span list.values) (flat_map (each_value_faults ifaces env AsAddress) list.values) none)

  ports_listed : (ports : Option Values) → ports_faults ifaces env ports ≡ [] → listed (ports_of ifaces env ports) ≡ ports_count ifaces env ports
  ports_listed None none = refl
  ports_listed (Some values) none = kept_length atom_ports (spliced ifaces env (listed_values values))
      ∙ values_sum AsPort (λ atom. kept_size (atom_ports atom)) count_of port_size ifaces env (listed_values values)
      (nil_from_append_right (empty_list_faults values) (flat_map (each_value_faults ifaces env AsPort) (listed_values values)) none)

  part_listed : (part : Option ProtoPart) → part_faults ifaces env part ≡ [] → length (part_protocols ifaces env part) ≡ part_count ifaces env part
  part_listed None none = refl
  part_listed (Some part) none = kept_length protocol_of (spliced_ones env part.protocols)
      ∙ each_sum AsProtocol (λ atom. kept_size (protocol_of atom)) count_of protocol_size (protocol_faults env) (λ one. atoms_of (one_binding env one))
      (λ one clean. used_sum AsProtocol (λ atom. kept_size (protocol_of atom)) count_of protocol_size (one_span one) (atoms_of (one_binding env one))
      (nil_from_append_right (undefined_faults (one_span one) (one_binding env one)) (use_faults AsProtocol (one_span one) (atoms_of (one_binding env one))) clean))
      (written_ones part.protocols) (none_before (protocols_faults env part.protocols) _ none)

  ends_listed : (ends : Option EndsTree) → ends_faults ifaces env ends ≡ [] → elements_of_ends (ends_of_written ifaces env tables ends) ≡ ends_count ifaces env ends
  ends_listed None none = refl
  ends_listed (Some (EndsAre.Addresses addresses ports span)) none =
      let of_addresses = addresses_faults ifaces env addresses in
      let of_ports = ports_faults ifaces env ports in
      both _ _ _ _ (addresses_listed addresses (nil_from_append_left of_addresses of_ports none)) (ports_listed ports (nil_from_append_right of_addresses of_ports none))
  ends_listed (Some (EndsAre.Ports ports span)) none = ap (λ n. 0 + n) (ports_listed (Some ports) none) ∙ from_zero (ports_count ifaces env (Some ports))

pub elements_counted : (ifaces : List Iface) (env : Env) (declared : Declared) (tree : RuleTree) → rule_faults ifaces env tree ≡ []
    → elements_of (rule_of_tree ifaces env declared tree) ≡ filter_count ifaces env tree.filter
elements_counted ifaces env declared tree none =
    let filter = tree.filter in
    let of_part = part_faults ifaces env filter.proto in
    let of_source = ends_faults ifaces env (source_ends filter.ends) in
    let of_target = ends_faults ifaces env (destination_ends filter.ends) in
    let clean : (of_part ++ of_source) ++ of_target ≡ [] = nil_from_append_right (on_faults ifaces env tree.on) (filter_faults ifaces env filter) none in
    let before = nil_from_append_left (of_part ++ of_source) of_target clean in
    both _ _ _ _
    (both _ _ _ _ (part_listed ifaces env declared.tables filter.proto (nil_from_append_left of_part of_source before))
    (ends_listed ifaces env declared.tables (source_ends filter.ends) (nil_from_append_right of_part of_source before)))
    (ends_listed ifaces env declared.tables (destination_ends filter.ends) (nil_from_append_right (of_part ++ of_source) of_target clean))

-- the same of a rule that stands in no text
pub lone_elements : (tree : RuleTree) (declared : Declared) (ifaces : List Iface) (rule : Rule) → ElaboratesRule tree declared ifaces rule
    → elements_of rule ≡ elements_alone tree ifaces
lone_elements tree declared ifaces rule is = rw (is.meant) (elements_counted ifaces (env_of ifaces []) declared tree is.clean)
