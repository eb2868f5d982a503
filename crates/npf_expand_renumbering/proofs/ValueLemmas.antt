-- Values that have no fault are the same with a longer list of interfaces.
use Rattle.std.{proofs.Common.{◌≡◌, Bool, Option, Some, None, List, [], ◌++◌, refl, sym, ap, ◌∙◌}, specs.List.flat_map}
use Rattle.npf_faults.specs.declared.fault.ConfFault.{ConfFault}
use Rattle.npf_syntax.specs.declared.value.{Value.Value, Values.Values}
use Rattle.npf_model.specs.declared.iface.Iface.{Iface}
use Rattle.npf_expand_values.specs.{Atom.{Atom, AddressesAtom, Binding, Env}, Iface.{address_faults, iface_faults, iface_name}}
use Rattle.npf_expand_values.specs.Variable.{bound_faults, single_value_faults, alone_binding, binding_of, defined, definition_faults, each_value_faults, empty_list_faults}
use Rattle.npf_expand_values.specs.Variable.{is_bound_to_list, is_list, listed_values, own_faults, spliced, unless_refused, value_span}
use Rattle.npf_expand_values.specs.{Host.place_faults, Use.atoms_of}
use Rattle.npf_expand_renumbering.proofs.{CleanLemmas.{back, both, each_none, each_same, front}, HostLemmas.{bound_none, place_none}, IfaceLemmas.{KeepsAddresses, still_there}}

abbrev pub bound : Bool → List Atom → Binding
bound many atoms = record { many = many; atoms = atoms }

-- what a definition without faults binds
pub defined_is : (ifaces : List Iface) (env : Env) (values : Values) → definition_faults ifaces env values ≡ []
    → defined ifaces env values ≡ bound (is_list ifaces env values) (spliced ifaces env (listed_values values))
defined_is ifaces env values none =
    ap (λ faults. bound (is_list ifaces env values) (unless_refused ifaces faults (spliced ifaces env (listed_values values)))) none

same_many : (ifaces longer : List Iface) (binding : Option Binding) → is_bound_to_list longer binding ≡ is_bound_to_list ifaces binding
same_many ifaces longer None = refl
same_many ifaces longer (Some binding) = refl

module _ (ifaces longer : List Iface) (keeps : KeepsAddresses ifaces longer) (env : Env) where
  pub own_none : (value : Value) → own_faults ifaces env value ≡ [] → own_faults longer env value ≡ []
  own_none (Value.Function function iface span) none =
      let name = iface_name env iface in
      let named = iface_faults env iface in
      let found = address_faults ifaces function name span in
      both named (address_faults longer function name span) (front named found none)
      (still_there ifaces longer keeps function name span (back named found none))
  own_none (Value.Var var span) none = none
  own_none (Value.Number first last span) none = none
  own_none (Value.Word word span) none = none
  own_none (Value.Str string span) none = none
  own_none (Value.Address address len span) none = none
  own_none (Value.Table name span) none = none

  pub binding_same : (value : Value) → own_faults ifaces env value ≡ [] → binding_of longer env value ≡ binding_of ifaces env value
  binding_same (Value.Function function iface span) none =
      let name = iface_name env iface in
      ap (λ addrs. alone_binding (AddressesAtom name addrs))
      (keeps function name span (back (iface_faults env iface) (address_faults ifaces function name span) none))
  binding_same (Value.Var var span) none = refl
  binding_same (Value.Number first last span) none = refl
  binding_same (Value.Word word span) none = refl
  binding_same (Value.Str string span) none = refl
  binding_same (Value.Address address len span) none = refl
  binding_same (Value.Table name span) none = refl

  pub spliced_same : (values : List Value) → flat_map (own_faults ifaces env) values ≡ [] → spliced longer env values ≡ spliced ifaces env values
  spliced_same = each_same (own_faults ifaces env) (λ value. atoms_of (binding_of longer env value)) (λ value. atoms_of (binding_of ifaces env value))
      (λ value none. ap atoms_of (binding_same value none))

  list_same : (values : Values) → definition_faults ifaces env values ≡ [] → is_list longer env values ≡ is_list ifaces env values
  list_same (Values.One value span) none =
      ap (is_bound_to_list longer) (binding_same value (front (own_faults ifaces env value) [] none)) ∙ same_many ifaces longer (binding_of ifaces env value)
  list_same (Values.List list span) none = refl

  pub definition_none : (values : Values) → definition_faults ifaces env values ≡ [] → definition_faults longer env values ≡ []
  definition_none values none =
      let empty = empty_list_faults values in
      let own = flat_map (own_faults ifaces env) (listed_values values) in
      both empty (flat_map (own_faults longer env) (listed_values values)) (front empty own none)
      (each_none (own_faults ifaces env) (own_faults longer env) own_none (listed_values values) (back empty own none))

  pub defined_same : (values : Values) → definition_faults ifaces env values ≡ [] → defined longer env values ≡ defined ifaces env values
  defined_same values none =
      let values_of = listed_values values in
      defined_is longer env values (definition_none values none)
      ∙ ap (λ many. bound many (spliced longer env values_of)) (list_same values none)
      ∙ ap (bound (is_list ifaces env values)) (spliced_same values_of (back (empty_list_faults values) (flat_map (own_faults ifaces env) values_of) none))
      ∙ sym (defined_is ifaces env values none)

  -- values that are used
  module _ (role : _) where
    pub each_value_none : (value : Value) → each_value_faults ifaces env role value ≡ [] → each_value_faults longer env role value ≡ []
    each_value_none value none =
        let fits = λ (list : List Iface) (binding : Option Binding). place_faults list role (value_span value) (atoms_of binding) in
        let bound = binding_of ifaces env value in
        let own = front (own_faults ifaces env value) (fits ifaces bound) none in
        both (own_faults longer env value) (fits longer (binding_of longer env value)) (own_none value own)
        (ap (fits longer) (binding_same value own)
        ∙ place_none ifaces longer keeps role (value_span value) (atoms_of bound) (back (own_faults ifaces env value) (fits ifaces bound) none))

    pub each_value_same : (value : Value) → each_value_faults ifaces env role value ≡ [] → binding_of longer env value ≡ binding_of ifaces env value
    each_value_same value none =
        binding_same value (front (own_faults ifaces env value) (place_faults ifaces role (value_span value) (atoms_of (binding_of ifaces env value))) none)

    pub listed_none : (empty : List ConfFault) (values : List Value) → empty ++ flat_map (each_value_faults ifaces env role) values ≡ []
        → empty ++ flat_map (each_value_faults longer env role) values ≡ []
    listed_none empty values none =
        let each = flat_map (each_value_faults ifaces env role) values in
        both empty (flat_map (each_value_faults longer env role) values) (front empty each none)
        (each_none (each_value_faults ifaces env role) (each_value_faults longer env role) each_value_none values (back empty each none))

    pub listed_same : (empty : List ConfFault) (values : List Value) → empty ++ flat_map (each_value_faults ifaces env role) values ≡ []
        → spliced longer env values ≡ spliced ifaces env values
    listed_same empty values none =
        each_same (each_value_faults ifaces env role) (λ value. atoms_of (binding_of longer env value)) (λ value. atoms_of (binding_of ifaces env value))
        (λ value clean. ap atoms_of (each_value_same value clean)) values (back empty (flat_map (each_value_faults ifaces env role) values) none)

    pub single_none : (value : Value) → single_value_faults ifaces env role value ≡ [] → single_value_faults longer env role value ≡ []
    single_none value none =
        let bound = binding_of ifaces env value in
        let own = front (own_faults ifaces env value) (bound_faults ifaces role value bound) none in
        both (own_faults longer env value) (bound_faults longer role value (binding_of longer env value)) (own_none value own)
        (ap (bound_faults longer role value) (binding_same value own)
        ∙ bound_none ifaces longer keeps role value bound (back (own_faults ifaces env value) (bound_faults ifaces role value bound) none))

    pub single_same : (value : Value) → single_value_faults ifaces env role value ≡ [] → binding_of longer env value ≡ binding_of ifaces env value
    single_same value none = binding_same value (front (own_faults ifaces env value) (bound_faults ifaces role value (binding_of ifaces env value)) none)
