-- The tables that an added rule names are the model's, where each has a number there.
use Rattle.std.proofs.Common.{◌≡◌, ◌==◌, ◌+◌, ◌||◌, ℕ, Bool, true, false, not, if◌then◌else◌, min, unwrap_or, Option, Some, None, List, [], ◌∷◌, ◌++◌, map, refl, sym, ap, ◌∙◌}
use Rattle.std.specs.{List.{flat_map, list_any, zip}, Str.bytes_eq}
use Rattle.npf_types.specs.declared.address.Addr.{Addr}
use Rattle.npf_faults.specs.{declared.fault.Fault.TheVariants.UnknownTable, First.fault_if}
use Rattle.npf_syntax.specs.declared.{filter.{Addresses.Addresses, EndsTree.EndsTree as WrittenEnds, Where.Where}, value.{Value.Value, Values.Values}}
use Rattle.npf_syntax.specs.declared.filter.Addresses.TheVariants as Written
use Rattle.npf_syntax.specs.declared.filter.EndsTree.TheVariants as EndsAre
use Rattle.npf_model.specs.{declared.{ends.AddrItem.AddrItem, iface.Iface.Iface, rule.Rule.Rule}, Verdict.first_where}
use Rattle.npf_expand_values.specs.{Address.{address_items, host_item, items_of}, Atom.{Atom, WordAtom, StringAtom, Env}, Host.hosts_of, Declarations.{no_number, table_number}}
use Rattle.npf_expand_values.specs.{Iface.{addresses_of, iface_name}, Variable.{env_of, spliced}}
use Rattle.npf_expand.{specs.Rule.{destination_ends, ends_of_written, source_ends}, proofs.ElementLemmas.untold}
use Rattle.npf_check.specs.LoneRule.{number_of_none, table_numbers, table_places, unknown_among, unknown_in_addresses, unknown_in_ends, unknown_in_target, unknown_in_where, unknown_table}
use Rattle.npf_check.specs.Undefined.{table_faults, tables_of_addresses, tables_of_target, tables_of_where}
use Rattle.npf_config.proofs.TableNameLemmas.{bytes_eq-symm}

module _ {X : Type 0} where
  pub front : (xs ys : List X) → xs ++ ys ≡ [] → xs ≡ []
  front [] ys none = refl
  front (x ∷ xs) ys none = cc

  back : (xs ys : List X) → xs ++ ys ≡ [] → ys ≡ []
  back [] ys none = none
  back (x ∷ xs) ys none = cc

-- one of these names
abbrev pub is_among : List (List ℕ) → List ℕ → Bool
is_among names text = list_any (λ name. bytes_eq name text) names

passed : (here there rest : Bool) (n : ℕ) (later : Option ℕ) → here ≡ there → (there || rest) ≡ false → (rest ≡ false → later ≡ None) → (if here then Some n else later) ≡ None
passed true true rest n later same none find = cc
passed true false rest n later same none find = cc
passed false true rest n later same none find = cc
passed false false rest n later same none find = find none

nowhere_among : (names : List (List ℕ)) (text : List ℕ) (n : ℕ) → is_among names text ≡ false → first_where (bytes_eq text) n names ≡ None
nowhere_among [] text n none = refl
nowhere_among (name ∷ names) text n none =
    passed (bytes_eq text name) (bytes_eq name text) (is_among names text) n (first_where (bytes_eq text) (n + 1) names) (bytes_eq-symm text name) none
    (nowhere_among names text (n + 1))

-- a name with a number is there
numbered : (names : List (List ℕ)) (text : List ℕ) (there : Bool) → is_among names text ≡ there → (table_number names text == number_of_none) ≡ false → there ≡ true
numbered names text true is known = refl
numbered names text false is known =
    let of_none : (table_number names text == number_of_none) ≡ true = ap (λ found. min (unwrap_or found no_number) no_number == number_of_none) (nowhere_among names text 0 is) in
    cc

-- no address of a function is a table
hosts_have_none : (addrs : List Addr) (items : List AddrItem) → table_numbers (map host_item addrs ++ items) ≡ table_numbers items
hosts_have_none [] items = refl
hosts_have_none (addr ∷ addrs) items = hosts_have_none addrs items

module _ (names : List (List ℕ)) (ifaces : List Iface) where
  abbrev alone : Env
  alone = env_of ifaces []

  -- no interface that is named is a table
  hosts_skipped : (atom : Atom) (values : List Value) → unknown_among values (map host_item (hosts_of ifaces atom) ++ flat_map (items_of ifaces names) (spliced ifaces alone values)) ≡ []
      → (unknown_among values (flat_map (items_of ifaces names) (spliced ifaces alone values)) ≡ [] → flat_map (table_faults (is_among names)) values ≡ [])
      → flat_map (table_faults (is_among names)) values ≡ []
  hosts_skipped atom values none later =
      let skipped = hosts_have_none (hosts_of ifaces atom) (flat_map (items_of ifaces names) (spliced ifaces alone values)) in
      later (ap (λ numbers. flat_map unknown_table (zip (table_places values) numbers)) (sym skipped) ∙ none)

  values_named : (values : List Value) → unknown_among values (flat_map (items_of ifaces names) (spliced ifaces alone values)) ≡ [] → flat_map (table_faults (is_among names)) values ≡ []
  values_named [] none = refl
  values_named (Value.Table name span ∷ values) none =
      let number = table_number names name.text in
      let here = unknown_table (span, number) in
      let rest = unknown_among values (flat_map (items_of ifaces names) (spliced ifaces alone values)) in
      let there = numbered names name.text (is_among names name.text) refl (untold (number == number_of_none) span UnknownTable (front here rest none)) in
      ap (λ is. fault_if (not is) span UnknownTable ++ flat_map (table_faults (is_among names)) values) there ∙ values_named values (back here rest none)
  values_named (Value.Function function iface span ∷ values) none =
      let items = flat_map (items_of ifaces names) (spliced ifaces alone values) in
      let skipped = hosts_have_none (addresses_of ifaces function (iface_name alone iface)) items in
      values_named values (ap (λ numbers. flat_map unknown_table (zip (table_places values) numbers)) (sym skipped) ∙ none)
  values_named (Value.Number first None span ∷ values) none = values_named values none
  values_named (Value.Number first (Some last) span ∷ values) none = values_named values none
  values_named (Value.Word word span ∷ values) none = hosts_skipped (WordAtom word.text word.span) values none (values_named values)
  values_named (Value.Str string span ∷ values) none = hosts_skipped (StringAtom string.text) values none (values_named values)
  values_named (Value.Var var span ∷ values) none = values_named values none
  values_named (Value.Address address len span ∷ values) none = values_named values none

  addresses_named : (addresses : Addresses) → unknown_in_addresses addresses (address_items ifaces alone names addresses) ≡ [] → tables_of_addresses (is_among names) addresses ≡ []
  addresses_named (Written.Any span) none = refl
  addresses_named (Written.Excluded (Values.One value _) span) none = front (table_faults (is_among names) value) [] (values_named (value ∷ []) none)
  addresses_named (Written.Excluded (Values.List list _) span) none = values_named list.values none
  addresses_named (Written.One value span) none = front (table_faults (is_among names) value) [] (values_named (value ∷ []) none)
  addresses_named (Written.List list span) none = values_named list.values none

  ends_named : (ends : Option WrittenEnds) → unknown_in_target ends (ends_of_written ifaces alone names ends) ≡ [] → tables_of_target (is_among names) ends ≡ []
  ends_named None none = refl
  ends_named (Some (EndsAre.Addresses addresses ports span)) none = addresses_named addresses none
  ends_named (Some (EndsAre.Ports ports span)) none = refl

  pub where_named : (ends : Where) (rule : Rule) → rule.from ≡ ends_of_written ifaces alone names (source_ends ends) → rule.to ≡ ends_of_written ifaces alone names (destination_ends ends)
      → unknown_in_where ends rule ≡ [] → tables_of_where (is_among names) ends ≡ []
  where_named (Where.All span) rule from to none = refl
  where_named (Where.From source target span) rule from to none =
      let here = unknown_in_ends source rule.from in
      let there = unknown_in_target target rule.to in
      let one = ends_named (Some source) (ap (unknown_in_ends source) (sym from) ∙ front here there none) in
      let other = ends_named target (ap (unknown_in_target target) (sym to) ∙ back here there none) in
      ap (λ faults. faults ++ tables_of_target (is_among names) target) one ∙ other
  where_named (Where.PcapFilter span) rule from to none = refl
  where_named (Where.To target span) rule from to none = ends_named (Some target) (ap (unknown_in_ends target) (sym to) ∙ none)
