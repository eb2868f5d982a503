-- What names are bound to: a variable means what its last definition before the use says, with the variables in it replaced and
-- lists in it spliced. A definition that is refused binds its name to nothing.
use Rattle.std.specs.Prelude.{ℕ, Bool, true, false, if◌then◌else◌, Option, Some, None, List, [], ◌∷◌, ◌++◌}
use Rattle.std.specs.List.{flat_map}
use Rattle.std.specs.Str.{bytes_eq}
use Rattle.npf_types.specs.declared.span.Span.{Span}
use Rattle.npf_faults.specs.declared.fault.ConfFault.{ConfFault}
use Rattle.npf_faults.specs.declared.fault.Fault.TheVariants.{EmptyList}
use Rattle.npf_syntax.specs.declared.value.Value.{Value}
use Rattle.npf_syntax.specs.declared.value.Values.{Values}
use Rattle.npf_syntax.specs.declared.word.Number.{Number}
use Rattle.npf_model.specs.declared.iface.Iface.{Iface}
use Rattle.npf_faults.specs.First.{fault_at}
use Rattle.npf_expand_values.specs.declared.role.Role.{Role}
use Rattle.npf_expand_values.specs.Atom.{Atom, NumberAtom, RangeAtom, WordAtom, StringAtom, BlockAtom, TableAtom, AddressesAtom, Binding, Env}
use Rattle.npf_expand_values.specs.Iface.{addresses_of, function_faults, iface_name}
use Rattle.npf_expand_values.specs.Host.{one_place_faults, place_faults}
use Rattle.npf_expand_values.specs.Use.{atoms_of, undefined_faults}

abbrev pub value_span : Value → Span
value_span (Value.Number _ _ span) = span
value_span (Value.Word _ span) = span
value_span (Value.Str _ span) = span
value_span (Value.Var _ span) = span
value_span (Value.Address _ _ span) = span
value_span (Value.Table _ span) = span
value_span (Value.Function _ _ span) = span

abbrev pub listed_values : Values → List Value
listed_values (Values.One value span) = value ∷ []
listed_values (Values.List list span) = list.values

-- a number, or a range where a second one stands there
abbrev pub number_atom : ℕ → Option Number → Atom
number_atom first None = NumberAtom first
number_atom first (Some last) = RangeAtom first last.value

abbrev pub length_of_block : Option Number → Option ℕ
length_of_block None = None
length_of_block (Some len) = Some len.value

abbrev pub alone_binding : Atom → Option Binding
alone_binding atom = Some (record { many = false; atoms = atom ∷ [] })

-- an empty list is told at the list
abbrev pub empty_list_at : Span → List Value → List ConfFault
empty_list_at span [] = fault_at span EmptyList
empty_list_at span (_ ∷ _) = []

abbrev pub empty_list_faults : Values → List ConfFault
empty_list_faults (Values.One value span) = []
empty_list_faults (Values.List list span) = empty_list_at list.span list.values

-- a definition as it is written
pub record Definition : Type 0 where
  pub name : List ℕ
  pub values : Values

module _ (ifaces : List Iface) where
  -- the faults of one value in its place; a name that isn't defined has none there
  abbrev pub bound_faults : Role → Value → Option Binding → List ConfFault
  bound_faults role value None = []
  bound_faults role value (Some binding) = one_place_faults ifaces role (value_span value) binding

  -- what a value is bound to where these names mean what they do
  abbrev pub binding_of : Env → Value → Option Binding
  binding_of env (Value.Var var span) = env var.name
  binding_of env (Value.Number first last span) = alone_binding (number_atom first.value last)
  binding_of env (Value.Word word span) = alone_binding (WordAtom word.text word.span)
  binding_of env (Value.Str string span) = alone_binding (StringAtom string.text)
  binding_of env (Value.Address address len span) = alone_binding (BlockAtom address.addr (length_of_block len))
  binding_of env (Value.Table name span) = alone_binding (TableAtom name.text)
  binding_of env (Value.Function function iface span) =
      alone_binding (AddressesAtom (iface_name env iface) (addresses_of ifaces function (iface_name env iface)))

  -- the faults of a value by itself, wherever it stands
  abbrev pub own_faults : Env → Value → List ConfFault
  own_faults env (Value.Var var span) = undefined_faults span (env var.name)
  own_faults env (Value.Function function iface span) = function_faults ifaces env function iface span
  own_faults env _ = []

  -- the faults of a value that is used in this place, one or many
  abbrev pub each_value_faults : Env → Role → Value → List ConfFault
  each_value_faults env role value = own_faults env value ++ place_faults ifaces role (value_span value) (atoms_of (binding_of env value))

  -- the faults of one value by itself and in its place
  abbrev pub single_value_faults : Env → Role → Value → List ConfFault
  single_value_faults env role value = own_faults env value ++ bound_faults role value (binding_of env value)

  abbrev pub spliced : Env → List Value → List Atom
  spliced env values = flat_map (λ value. atoms_of (binding_of env value)) values

  abbrev pub definition_faults : Env → Values → List ConfFault
  definition_faults env values = empty_list_faults values ++ flat_map (own_faults env) (listed_values values)

  -- whether a definition is one of a list: a variable that is bound to one is
  abbrev pub is_bound_to_list : Option Binding → Bool
  is_bound_to_list None = false
  is_bound_to_list (Some binding) = binding.many

  abbrev pub is_list : Env → Values → Bool
  is_list env (Values.List list span) = true
  is_list env (Values.One value span) = is_bound_to_list (binding_of env value)

  abbrev pub unless_refused : List ConfFault → List Atom → List Atom
  unless_refused [] atoms = atoms
  unless_refused (_ ∷ _) atoms = []

  abbrev pub defined : Env → Values → Binding
  defined env values = record {
    many = is_list env values;
    atoms = unless_refused (definition_faults env values) (spliced env (listed_values values));
  }

  -- the meaning of names behind these definitions, of which the newest stands first
  abbrev pub env_of : List Definition → Env
  env_of [] name = None
  env_of (newest ∷ older) name =
      if bytes_eq newest.name name then Some (defined (env_of older) newest.values) else env_of older name
