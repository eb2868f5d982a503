-- The tables that rules name are defined, also where they come through variables, so their numbers are small.
use Rattle.std.proofs.Common.{◌≡◌, ◌≤◌, ◌<◌, ◌+◌, ◌^◌, ℕ, suc, Bool, true, false, not, ◌||◌, if◌then◌else◌, min, unwrap_or, Option, Some, None, List}
use Rattle.std.{proofs.Common.{[], ◌∷◌, ◌++◌, All, length, map, refl, sym, ap, subst, ◌∙◌, append-nil, arith}, specs.{List.{flat_map, list_any}, Str.bytes_eq}}
use Rattle.std.{specs.Bool.one_answer, proofs.lemmas.{Slice.Eq.bytes_eq-Decides, List.Elements.{All-append, All-cons, All-head, All-map, All-nil, All-tail}}}
use Rattle.npf_types.specs.{declared.address.Addr.Addr, Address.width, Block.block}
use Rattle.npf_faults.specs.declared.fault.{ConfFault.ConfFault, Fault.TheVariants.UnknownTable}
use Rattle.npf_syntax.specs.declared.{filter.{Addresses.Addresses, EndsTree.EndsTree as WrittenEnds, Where.Where}, rule.RuleTree.RuleTree, stmt.Stmt.Stmt}
use Rattle.npf_syntax.specs.declared.filter.Addresses.TheVariants as Written
use Rattle.npf_syntax.specs.declared.filter.EndsTree.TheVariants as EndsAre
use Rattle.npf_syntax.specs.declared.{value.{Value.Value, Values.Values}, word.Number.Number}
use Rattle.npf_model.specs.{declared.{ends.AddrItem.TheVariants.{Net, InTable}, iface.Iface.Iface}, Verdict.first_where}
use Rattle.npf_expand_values.specs.{Address.{address_items, host_item, items_of}, Host.hosts_of}
use Rattle.npf_expand_values.specs.Atom.{Atom, NumberAtom, RangeAtom, WordAtom, StringAtom, BlockAtom, TableAtom, AddressesAtom, Binding, Env}
use Rattle.npf_expand_values.specs.{Declarations.{Declared, no_number, table_names, table_number}, Iface.{addresses_of, iface_name}, Use.atoms_of}
use Rattle.npf_expand_values.specs.Variable.{Definition, binding_of, defined, definition_faults, env_of, length_of_block, listed_values, number_atom, spliced, unless_refused}
use Rattle.npf_expand.{specs.Rule.{ends_of_written, rule_of_tree, source_ends, destination_ends}, proofs.ElementLemmas.untold}
use Rattle.npf_check.specs.Undefined.{is_table_in, table_faults, tables_of_addresses, tables_of_ends, tables_of_target, tables_of_values, tables_of_where}
use Rattle.npf_bpfgen.specs.Condition.{HasItemNumber, HasItemNumbers, HasTableNumbers}
use Rattle.npf_config.proofs.NoneLemmas.{back, front}

-- a place that is found among names
record IsFound (found : Option ℕ) (most : ℕ) : Type 0 where
  place : ℕ
  is : found ≡ Some place
  below : place < most

found_one : (here there rest : Bool) (n len : ℕ) (later : Option ℕ) → here ≡ there → (there || rest) ≡ true → (rest ≡ true → IsFound later (n + 1 + len))
    → IsFound (if here then Some n else later) (n + suc len)
found_one true there rest n len later same any find = record { place = n; is = refl; below = omega arith }
found_one false true rest n len later same any find = cc
found_one false false rest n len later same any find = let found = find any in record { place = found.place; is = found.is; below = let below = found.below in omega arith }

pub bytes_eq-symm : (one other : List ℕ) → bytes_eq one other ≡ bytes_eq other one
bytes_eq-symm one other =
    let back = bytes_eq-Decides other one in
    one_answer (bytes_eq one other) (bytes_eq other one) (bytes_eq-Decides one other) ((λ is. sym (back.0 is)), (λ same. back.1 (sym same)))

found_among : (names : List (List ℕ)) (text : List ℕ) (n : ℕ) → list_any (λ name. bytes_eq name text) names ≡ true
    → IsFound (first_where (bytes_eq text) n names) (n + length names)
found_among [] text n any = cc
found_among (name ∷ names) text n any =
    found_one (bytes_eq text name) (bytes_eq name text) (list_any (λ name. bytes_eq name text) names) n (length names) (first_where (bytes_eq text) (n + 1) names)
    (bytes_eq-symm text name) any (found_among names text (n + 1))

-- the names of tables that the checks look through are those by which tables are numbered
pub given_is_named : (stmts : List Stmt) (text : List ℕ) → is_table_in stmts text ≡ list_any (λ name. bytes_eq name text) (table_names stmts)
given_is_named [] text = refl
given_is_named (Stmt.Table name kind file span ∷ stmts) text = ap (λ rest. bytes_eq name.text text || rest) (given_is_named stmts text)
given_is_named (Stmt.Define var values span ∷ stmts) text = given_is_named stmts text
given_is_named (Stmt.Set name value span ∷ stmts) text = given_is_named stmts text
given_is_named (Stmt.Alg name span ∷ stmts) text = given_is_named stmts text
given_is_named (Stmt.MapRuleset iface span ∷ stmts) text = given_is_named stmts text
given_is_named (Stmt.Map iface kind proto left arrow right pass span ∷ stmts) text = given_is_named stmts text
given_is_named (Stmt.Group head items span ∷ stmts) text = given_is_named stmts text
given_is_named (Stmt.Procedure name calls span ∷ stmts) text = given_is_named stmts text

small_number : (found : Option ℕ) → IsFound found 64 → min (unwrap_or found no_number) no_number < 2 ^ 31
small_number found is =
    let below = is.below in
    rw (is.is) (omega arith)

-- the tables that are defined have these names
module _ (names : List (List ℕ)) (is_defined : List ℕ → Bool) (is_among : (text : List ℕ) → is_defined text ≡ list_any (λ name. bytes_eq name text) names) (few : length names ≤ 64) where
  defined_small : (text : List ℕ) → is_defined text ≡ true → table_number names text < 2 ^ 31
  defined_small text is =
      let found = found_among names text 0 (sym (is_among text) ∙ is) in
      let below = found.below in
      small_number (first_where (bytes_eq text) 0 names) (record { place = found.place; is = found.is; below = omega arith })

  abbrev pub IsDefinedAtom : Atom → Type 0
  IsDefinedAtom (TableAtom name) = is_defined name ≡ true
  IsDefinedAtom _ = Unit {0}

  -- every table that a name stands for is defined
  abbrev pub NamesDefined : Env → Type 0
  NamesDefined env = (name : List ℕ) → All IsDefinedAtom (atoms_of (env name))

  one_atom : (atom : Atom) → IsDefinedAtom atom → All IsDefinedAtom (atom ∷ [])
  one_atom atom is = All-cons IsDefinedAtom atom [] is (All-nil IsDefinedAtom)

  number_defined : (first : ℕ) (last : Option Number) → IsDefinedAtom (number_atom first last)
  number_defined first None = tt
  number_defined first (Some last) = tt

  is_yes : (b : Bool) → not b ≡ false → b ≡ true
  is_yes true none = refl
  is_yes false none = cc

  module _ (ifaces : List Iface) where
    value_defined : (env : Env) → NamesDefined env → (value : Value) → table_faults is_defined value ≡ [] → All IsDefinedAtom (atoms_of (binding_of ifaces env value))
    value_defined env all (Value.Var var span) none = all var.name
    value_defined env all (Value.Table name span) none = one_atom (TableAtom name.text) (is_yes (is_defined name.text) (untold (not (is_defined name.text)) span UnknownTable none))
    value_defined env all (Value.Number first last span) none = one_atom (number_atom first.value last) (number_defined first.value last)
    value_defined env all (Value.Word word span) none = one_atom (WordAtom word.text word.span) tt
    value_defined env all (Value.Str string span) none = one_atom (StringAtom string.text) tt
    value_defined env all (Value.Address address len span) none = one_atom (BlockAtom address.addr (length_of_block len)) tt
    value_defined env all (Value.Function function iface span) none = one_atom (AddressesAtom (iface_name env iface) (addresses_of ifaces function (iface_name env iface))) tt

    values_defined : (env : Env) → NamesDefined env → (values : List Value) → flat_map (table_faults is_defined) values ≡ [] → All IsDefinedAtom (spliced ifaces env values)
    values_defined env all [] none = All-nil IsDefinedAtom
    values_defined env all (value ∷ values) none =
        let here = table_faults is_defined value in
        let rest = flat_map (table_faults is_defined) values in
        All-append IsDefinedAtom (atoms_of (binding_of ifaces env value)) (spliced ifaces env values)
        (value_defined env all value (front here rest none)) (values_defined env all values (back here rest none))

    listed_defined : (env : Env) → NamesDefined env → (values : Values) → tables_of_values is_defined values ≡ [] → All IsDefinedAtom (spliced ifaces env (listed_values values))
    listed_defined env all (Values.One value span) none = values_defined env all (value ∷ []) (append-nil (table_faults is_defined value) ∙ none)
    listed_defined env all (Values.List list span) none = values_defined env all list.values none

    kept_defined : (faults : List ConfFault) (atoms : List Atom) → All IsDefinedAtom atoms → All IsDefinedAtom (unless_refused ifaces faults atoms)
    kept_defined [] atoms all = all
    kept_defined (_ ∷ _) atoms all = All-nil IsDefinedAtom

    -- definitions that name no table that isn't there
    abbrev pub AreDefined : List Definition → Type 0
    AreDefined [] = Unit {0}
    AreDefined (newest ∷ older) = (tables_of_values is_defined newest.values ≡ []) × AreDefined older

    bound_defined : (here : Bool) (binding : Binding) (older : Option Binding) → All IsDefinedAtom binding.atoms → All IsDefinedAtom (atoms_of older)
        → All IsDefinedAtom (atoms_of (if here then Some binding else older))
    bound_defined true binding older one other = one
    bound_defined false binding older one other = other

    pub env_defined : (older : List Definition) → AreDefined older → NamesDefined (env_of ifaces older)
    env_defined [] all name = All-nil IsDefinedAtom
    env_defined (newest ∷ older) all name =
        let env = env_of ifaces older in
        let before = env_defined older all.1 in
        bound_defined (bytes_eq newest.name name) (defined ifaces env newest.values) (env name)
        (kept_defined (definition_faults ifaces env newest.values) (spliced ifaces env (listed_values newest.values)) (listed_defined env before newest.values all.0))
        (before name)

  host_numbers : (addrs : List Addr) → All HasItemNumber (map host_item addrs)
  host_numbers addrs = All-map HasItemNumber host_item addrs (λ k d below. tt)

  item_numbers : (ifaces : List Iface) (atom : Atom) → IsDefinedAtom atom → All HasItemNumber (items_of ifaces names atom)
  item_numbers ifaces (TableAtom name) is = All-cons HasItemNumber (InTable (table_number names name)) [] (defined_small name is) (All-nil HasItemNumber)
  item_numbers ifaces (BlockAtom addr len) is = All-cons HasItemNumber (Net (block addr (unwrap_or len (width addr)))) [] tt (All-nil HasItemNumber)
  item_numbers ifaces (AddressesAtom _ addrs) is = host_numbers addrs
  item_numbers ifaces (NumberAtom _) is = All-nil HasItemNumber
  item_numbers ifaces (RangeAtom _ _) is = All-nil HasItemNumber
  item_numbers ifaces (WordAtom text span) is = host_numbers (hosts_of ifaces (WordAtom text span))
  item_numbers ifaces (StringAtom text) is = host_numbers (hosts_of ifaces (StringAtom text))

  all_numbers : (ifaces : List Iface) (atoms : List Atom) → All IsDefinedAtom atoms → All HasItemNumber (flat_map (items_of ifaces names) atoms)
  all_numbers ifaces [] all = All-nil HasItemNumber
  all_numbers ifaces (atom ∷ atoms) all = All-append HasItemNumber (items_of ifaces names atom) (flat_map (items_of ifaces names) atoms)
      (item_numbers ifaces atom (All-head IsDefinedAtom atom atoms all)) (all_numbers ifaces atoms (All-tail IsDefinedAtom atom atoms all))

  module _ (ifaces : List Iface) (env : Env) (all : NamesDefined env) where
    addresses_numbers : (addresses : Addresses) → tables_of_addresses is_defined addresses ≡ [] → HasItemNumbers (address_items ifaces env names addresses)
    addresses_numbers (Written.Any span) none = tt
    addresses_numbers (Written.Excluded values span) none = all_numbers ifaces (spliced ifaces env (listed_values values)) (listed_defined ifaces env all values none)
    addresses_numbers (Written.One value span) none =
        all_numbers ifaces (spliced ifaces env (value ∷ [])) (values_defined ifaces env all (value ∷ []) (append-nil (table_faults is_defined value) ∙ none))
    addresses_numbers (Written.List list span) none = all_numbers ifaces (spliced ifaces env list.values) (values_defined ifaces env all list.values none)

    ends_numbers : (ends : Option WrittenEnds) → tables_of_target is_defined ends ≡ [] → HasItemNumbers ((ends_of_written ifaces env names ends).addrs)
    ends_numbers None none = tt
    ends_numbers (Some (EndsAre.Addresses addresses ports span)) none = addresses_numbers addresses none
    ends_numbers (Some (EndsAre.Ports ports span)) none = tt

    source_clean : (ends : Where) → tables_of_where is_defined ends ≡ [] → tables_of_target is_defined (source_ends ends) ≡ []
    source_clean (Where.All span) none = refl
    source_clean (Where.From from to span) none = front (tables_of_ends is_defined from) (tables_of_target is_defined to) none
    source_clean (Where.PcapFilter span) none = refl
    source_clean (Where.To to span) none = refl

    destination_clean : (ends : Where) → tables_of_where is_defined ends ≡ [] → tables_of_target is_defined (destination_ends ends) ≡ []
    destination_clean (Where.All span) none = refl
    destination_clean (Where.From from to span) none = back (tables_of_ends is_defined from) (tables_of_target is_defined to) none
    destination_clean (Where.PcapFilter span) none = refl
    destination_clean (Where.To to span) none = none

    pub rule_numbers : (declared : Declared) → declared.tables ≡ names → (rule : RuleTree) → tables_of_where is_defined rule.filter.ends ≡ []
        → HasTableNumbers (rule_of_tree ifaces env declared rule)
    rule_numbers declared same rule none =
        subst (λ (tables : List (List ℕ)). HasTableNumbers (rule_of_tree ifaces env (record { tables = tables; procedures = declared.procedures }) rule)) (sym same)
        (record {
          from = ends_numbers (source_ends rule.filter.ends) (source_clean rule.filter.ends none);
          to = ends_numbers (destination_ends rule.filter.ends) (destination_clean rule.filter.ends none);
        })
