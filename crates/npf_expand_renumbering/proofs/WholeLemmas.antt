-- Where no definition has a fault each name that is bound has values, and one where it isn't bound to a list. So an interface
-- that has no fault has a name.
use Rattle.std.proofs.Common.{◌≡◌, ℕ, Bool, true, false, not, ◌||◌, Option, Some, None, List, [], ◌∷◌, ◌++◌, refl, sym, ap, ◌∙◌, append-nil, if◌then◌else◌}
use Rattle.std.{proofs.Math.Path.fun_ext, specs.{List.{flat_map, list_any}, Str.bytes_eq}, proofs.lemmas.Bool.or_parts}
use Rattle.npf_types.specs.{declared.span.Span.Span, NameText.is_name}
use Rattle.npf_faults.specs.{declared.fault.{ConfFault.ConfFault, Fault.TheVariants.Expected}, First.{fault_at, fault_if}}
use Rattle.npf_syntax.specs.declared.{value.{IfaceTree.IfaceTree as WrittenIface, Value.Value, Values.Values}, word.Var.Var}
use Rattle.npf_syntax.specs.declared.value.IfaceTree.TheVariants as IfaceIs
use Rattle.npf_model.specs.{declared.iface.Iface.Iface, Numbering.numbered_on}
use Rattle.npf_expand_values.specs.Atom.{Atom, NumberAtom, RangeAtom, WordAtom, StringAtom, BlockAtom, TableAtom, AddressesAtom, Binding, Env}
use Rattle.npf_expand_values.specs.{Leader.{is_alike, name_text, shared_name}, Iface.{bound_name, iface_faults, iface_name, on_iface, on_text}}
use Rattle.npf_expand_values.specs.{Use.{atoms_of, is_unfit, undefined_faults, use_faults, word_faults}}
use Rattle.npf_expand_values.specs.Variable.{Definition, binding_of, defined, definition_faults, empty_list_at, env_of, is_bound_to_list, is_list, listed_values, own_faults, spliced}
use Rattle.npf_expand_values.specs.declared.role.Role.TheVariants.{AsInterface}
use Rattle.npf_expand.proofs.ElementLemmas.{untold}
use Rattle.npf_expand_renumbering.proofs.{CleanLemmas.front, IfaceLemmas.KeepsAddresses, ValueLemmas.{bound, defined_is, defined_same}}

-- there are values, and more than one only where a list is
abbrev pub is_full : Bool → List Atom → Bool
is_full many [] = false
is_full many (_ ∷ []) = true
is_full many (_ ∷ _ ∷ _) = many

abbrev pub is_whole : Option Binding → Bool
is_whole None = true
is_whole (Some binding) = is_full binding.many binding.atoms

abbrev pub IsWhole : Env → Type 0
IsWhole env = (name : List ℕ) → is_whole (env name) ≡ true

-- a binding that is there, with its values
abbrev IsBound : Option Binding → Type 0
IsBound binding = (many : Bool) × (atoms : List Atom) × (binding ≡ Some (bound many atoms)) × (is_full many atoms ≡ true)

found : (binding : Option Binding) (span : Span) → undefined_faults span binding ≡ [] → is_whole binding ≡ true → IsBound binding
found None span none whole = cc
found (Some binding) span none whole = (binding.many, binding.atoms, refl, whole)

full_list : (many : Bool) (atoms rest : List Atom) → is_full many atoms ≡ true → is_full true (atoms ++ rest) ≡ true
full_list many [] rest full = cc
full_list many (a ∷ []) [] full = refl
full_list many (a ∷ []) (b ∷ rest) full = refl
full_list many (a ∷ b ∷ atoms) rest full = refl

either : (test : Bool) (a b : Option Binding) → is_whole a ≡ true → is_whole b ≡ true → is_whole (if test then a else b) ≡ true
either true a b one other = one
either false a b one other = other

module _ (ifaces : List Iface) (env : Env) (whole : IsWhole env) where
  value_bound : (value : Value) → own_faults ifaces env value ≡ [] → IsBound (binding_of ifaces env value)
  value_bound (Value.Var var span) none = found (env var.name) span none (whole var.name)
  value_bound (Value.Number first last span) none = (false, _, refl, refl)
  value_bound (Value.Word word span) none = (false, _, refl, refl)
  value_bound (Value.Str string span) none = (false, _, refl, refl)
  value_bound (Value.Address address len span) none = (false, _, refl, refl)
  value_bound (Value.Table name span) none = (false, _, refl, refl)
  value_bound (Value.Function function iface span) none = (false, _, refl, refl)

  one_full : (value : Value) → own_faults ifaces env value ≡ []
      → is_full (is_bound_to_list ifaces (binding_of ifaces env value)) (atoms_of (binding_of ifaces env value) ++ []) ≡ true
  one_full value none =
      let at = value_bound value none in
      ap (λ binding. is_full (is_bound_to_list ifaces binding) (atoms_of binding ++ [])) at.2
      ∙ ap (is_full at.0) (append-nil at.1) ∙ at.3

  list_full : (span : Span) (values : List Value) → empty_list_at span values ++ flat_map (own_faults ifaces env) values ≡ []
      → is_full true (spliced ifaces env values) ≡ true
  list_full span [] none = cc
  list_full span (value ∷ values) none =
      let at = value_bound value (front (own_faults ifaces env value) (flat_map (own_faults ifaces env) values) none) in
      let rest = spliced ifaces env values in
      ap (λ binding. is_full true (atoms_of binding ++ rest)) at.2 ∙ full_list at.0 at.1 rest at.3

  values_full : (values : Values) → definition_faults ifaces env values ≡ []
      → is_full (is_list ifaces env values) (spliced ifaces env (listed_values values)) ≡ true
  values_full (Values.One value span) none = one_full value (front (own_faults ifaces env value) [] none)
  values_full (Values.List list span) none = list_full list.span list.values none

  definition_whole : (values : Values) → definition_faults ifaces env values ≡ [] → is_whole (Some (defined ifaces env values)) ≡ true
  definition_whole values none = ap (λ binding. is_whole (Some binding)) (defined_is ifaces env values none) ∙ values_full values none

-- none of these definitions has a fault
abbrev pub AreClean : List Iface → List Definition → Type 0
AreClean ifaces [] = Unit {0}
AreClean ifaces (newest ∷ older) = (definition_faults ifaces (env_of ifaces older) newest.values ≡ []) × AreClean ifaces older

pub whole_env : (ifaces : List Iface) (definitions : List Definition) → AreClean ifaces definitions → IsWhole (env_of ifaces definitions)
whole_env ifaces [] clean name = refl
whole_env ifaces (newest ∷ older) clean name =
    either (bytes_eq newest.name name) (Some (defined ifaces (env_of ifaces older) newest.values)) (env_of ifaces older name)
    (definition_whole ifaces (env_of ifaces older) (whole_env ifaces older clean.1) newest.values clean.0) (whole_env ifaces older clean.1 name)

-- names mean the same with the longer list
pub env_same : (ifaces longer : List Iface) → KeepsAddresses ifaces longer → (definitions : List Definition) → AreClean ifaces definitions
    → env_of longer definitions ≡ env_of ifaces definitions
env_same ifaces longer keeps [] clean = refl
env_same ifaces longer keeps (newest ∷ older) clean =
    let old = env_of ifaces older in
    fun_ext (λ name.
    ap (λ (env : Env). if bytes_eq newest.name name then Some (defined longer env newest.values) else env name)
    (env_same ifaces longer keeps older clean.1)
    ∙ ap (λ binding. if bytes_eq newest.name name then Some binding else old name)
    (defined_same ifaces longer keeps old newest.values clean.0))

named_by : (text : List ℕ) (span : Span) (is : Bool) → fault_if (not is || false) span Expected ++ [] ≡ [] → (if is then Some text else None) ≡ Some text
named_by text span true none = refl
named_by text span false none = cc

module _ (var : Var) (span : Span) where
  -- the faults of an interface that is a variable bound to this
  abbrev bound_faults : Option Binding → List ConfFault
  bound_faults binding = iface_faults (λ _. binding) (IfaceIs.Var var span)

  atom_name : (atom : Atom) → bound_faults (Some (bound false (atom ∷ []))) ≡ [] → (text : List ℕ) × (name_text atom ≡ Some text)
  atom_name (WordAtom text at) none = (text, named_by text span (is_name text) none)
  atom_name (StringAtom text) none = (text, named_by text span (is_name text) none)
  atom_name (NumberAtom _) none = cc
  atom_name (RangeAtom _ _) none = cc
  atom_name (BlockAtom _ _) none = cc
  atom_name (TableAtom _) none = cc
  atom_name (AddressesAtom (Some text) addrs) none = (text, refl)
  atom_name (AddressesAtom None addrs) none = cc

  -- of values that are used the first can be
  first_none : (atom : Atom) (atoms : List Atom) → use_faults AsInterface span (atom ∷ atoms) ≡ [] → bound_faults (Some (bound false (atom ∷ []))) ≡ []
  first_none atom atoms none =
      let fits = untold (list_any (is_unfit AsInterface) (atom ∷ atoms)) span Expected (front _ (flat_map (word_faults AsInterface) (atom ∷ atoms)) none) in
      ap (λ unfit. fault_if (unfit || false) span Expected ++ []) (or_parts (is_unfit AsInterface atom) (list_any (is_unfit AsInterface) atoms) fits).0

  shared : (atom : Atom) (atoms : List Atom) (alike : Bool) → is_alike (atom ∷ atoms) ≡ alike
      → (if not alike then fault_at span Expected else use_faults AsInterface span (atom ∷ atoms)) ≡ [] → (text : List ℕ) × (shared_name (atom ∷ atoms) ≡ Some text)
  shared atom atoms true is none =
      let named = atom_name atom (first_none atom atoms none) in
      (named.0, ap (λ alike. if alike then name_text atom else None) is ∙ named.1)
  shared atom atoms false is none = cc

  single_name : (many : Bool) (atoms : List Atom) → bound_faults (Some (bound many atoms)) ≡ [] → is_full many atoms ≡ true
      → (text : List ℕ) × (bound_name (Some (bound many atoms)) ≡ Some text)
  single_name many [] none full = cc
  single_name true (atom ∷ atoms) none full = shared atom atoms (is_alike (atom ∷ atoms)) refl none
  single_name false (atom ∷ _ ∷ _) none full = cc
  single_name false (atom ∷ []) none full = atom_name atom none

  one_name : (binding : Option Binding) → bound_faults binding ≡ [] → is_whole binding ≡ true → (text : List ℕ) × (bound_name binding ≡ Some text)
  one_name None none whole = cc
  one_name (Some binding) none whole = single_name binding.many binding.atoms none whole

has_name : (env : Env) → IsWhole env → (iface : WrittenIface) → iface_faults env iface ≡ [] → (text : List ℕ) × (iface_name env iface ≡ Some text)
has_name env whole (IfaceIs.Word word span) none = (word.text, named_by word.text span (is_name word.text) none)
has_name env whole (IfaceIs.Str string span) none = (string.text, named_by string.text span (is_name string.text) none)
has_name env whole (IfaceIs.Var var span) none = one_name var span (env var.name) none (whole var.name)

-- an interface without a fault, numbered anew, is what it is with the longer list
pub on_same : (ifaces longer : List Iface) (env : Env) → IsWhole env → (iface : WrittenIface) → iface_faults env iface ≡ []
    → on_iface longer env iface ≡ numbered_on longer (on_iface ifaces env iface)
on_same ifaces longer env whole iface none =
    let at = has_name env whole iface none in
    ap (on_text longer) at.1 ∙ sym (ap (λ name. numbered_on longer (on_text ifaces name)) at.1)
