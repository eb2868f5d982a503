-- What written values mean where no name is defined.
use Rattle.std.proofs.Common.{◌≡◌, ℕ, ◌+◌, true, Option, Some, None, unwrap_or, List, [], ◌∷◌, ◌++◌, length, flat_map, filter_map, refl, sym, ap, subst, ◌∙◌, arith}
use Rattle.std.{specs.List.sum_by, proofs.lemmas.List.Sums.sum_by-append}
use Rattle.npf_types.specs.{declared.{prefix.Prefix.Prefix, span.Span.Span}, Address.width, Block.block}
use Rattle.npf_faults.specs.declared.fault.ConfFault.{ConfFault}
use Rattle.npf_syntax.specs.declared.{filter.Addresses.Addresses, value.{Value.Value, Values.Values}, word.{Address.Address, Number.Number, Word.Word}}
use Rattle.npf_model.specs.declared.{ends.AddrItem.TheVariants.{Net, InTable}, iface.Iface.Iface}
use Rattle.npf_parser_values.specs.{Token.nowhere, Value.{is_port, is_port_end}}
use Rattle.npf_expand_values.specs.{Address.{items_of, addresses_faults}, Atom.{Atom, Env}, Declarations.table_number, Port.{atom_ports, ports_faults}}
use Rattle.npf_expand_values.specs.{Host.host_count_of, Use.{count_of, atoms_of}}
use Rattle.npf_expand_values.specs.Variable.{alone_binding, binding_of, own_faults, spliced, length_of_block, number_atom, env_of}
use Rattle.npf_expand.specs.Map.{first_block, side_faults, side_port, side_port_faults}
use Rattle.npf_show_meaning.proofs.Lists.{Each}

module _ (ifaces : List Iface) where
  -- where no name is defined
  abbrev pub nameless : Env
  nameless = env_of ifaces []

  -- the value is this
  pub record Says (atom : Atom) (value : Value) : Type 0 where
    pub own : own_faults ifaces nameless value ≡ []
    pub binding : binding_of ifaces nameless value ≡ alone_binding atom

  abbrev pub atoms : Value → List Atom
  atoms value = atoms_of (binding_of ifaces nameless value)

  -- a port that has no fault
  abbrev zero_port : Value
  zero_port = Value.Number (record { value = 0; span = nowhere }) None nowhere

  -- the faults of values that are addresses or ports of a rule
  abbrev pub address_list_faults : List Value → List ConfFault
  address_list_faults values = flat_map (λ value. addresses_faults ifaces nameless (Addresses.One value nowhere)) values

  abbrev pub port_list_faults : List Value → List ConfFault
  port_list_faults values = ports_faults ifaces nameless (Some (Values.List (record { values = zero_port ∷ values; span = nowhere }) nowhere))

  -- a value of an address
  pub record SaysNet (prefix : Prefix) (value : Value) : Type 0 where
    pub address : Address
    pub written : Option Number
    pub span : Span
    pub form : value ≡ Value.Address address written span
    pub block : block address.addr (unwrap_or (length_of_block written) (width address.addr)) ≡ prefix

  pub record SaysTable (name : List ℕ) (value : Value) : Type 0 where
    pub word : Word
    pub span : Span
    pub form : value ≡ Value.Table word span
    pub same : word.text ≡ name

  pub record SaysRange (range : ℕ × ℕ) (value : Value) : Type 0 where
    pub first : Number
    pub last : Option Number
    pub span : Span
    pub form : value ≡ Value.Number first last span
    pub port : is_port first ≡ true
    pub last_port : is_port_end last ≡ true
    pub faults : (values : List Value) → port_list_faults values ≡ [] → port_list_faults (Value.Number first last span ∷ values) ≡ []
    pub side : side_port_faults ifaces nameless (Some (Value.Number first last span)) ≡ []
    pub ports : atom_ports (number_atom first.value last) ≡ Some range
    pub one : count_of (number_atom first.value last) ≡ 1

  -- a value of a rule's list: what it gives, which is one element, and no fault
  pub record IsElement {A : Type 0} (counted_of : Atom → ℕ) (faults_of : List Value → List ConfFault) (give : List Atom → List A) (value : Value) (a : A) : Type 0 where
    pub faults : (values : List Value) → faults_of values ≡ [] → faults_of (value ∷ values) ≡ []
    pub gives : give (atoms value) ≡ a ∷ []
    pub one : sum_by counted_of (atoms value) ≡ 1

  pub net_element : (tables : List (List ℕ)) (prefix : Prefix) (value : Value) → SaysNet prefix value
      → IsElement (host_count_of ifaces) address_list_faults (flat_map (items_of ifaces tables)) value (Net prefix)
  net_element tables prefix value is =
      subst (λ v. IsElement (host_count_of ifaces) address_list_faults (flat_map (items_of ifaces tables)) v (Net prefix)) (sym is.form)
      (record { faults = λ values rest. rest; gives = ap (λ p. Net p ∷ []) is.block; one = refl })

  pub table_element : (tables : List (List ℕ)) (name : List ℕ) (number : ℕ) (value : Value) → table_number tables name ≡ number
      → SaysTable name value → IsElement (host_count_of ifaces) address_list_faults (flat_map (items_of ifaces tables)) value (InTable number)
  table_element tables name number value is says =
      subst (λ v. IsElement (host_count_of ifaces) address_list_faults (flat_map (items_of ifaces tables)) v (InTable number)) (sym says.form)
      (record { faults = λ values rest. rest; gives = ap (λ n. InTable n ∷ []) (ap (table_number tables) says.same ∙ is); one = refl })

  pub range_element : (range : ℕ × ℕ) (value : Value) → SaysRange range value → IsElement count_of port_list_faults (filter_map atom_ports) value range
  range_element range value is =
      subst (λ v. IsElement count_of port_list_faults (filter_map atom_ports) v range) (sym is.form)
      (record { faults = is.faults; gives = rw is.ports refl; one = rw is.one refl })

  -- a side of a map
  pub net_side : (prefix : Prefix) (value : Value) → SaysNet prefix value → (port : Option Value) (span : Span)
      → (side_faults ifaces nameless (record { value = value; port = port; span = span }) ≡ side_port_faults ifaces nameless port) × (first_block ifaces (atoms value) ≡ prefix)
  net_side prefix value is port span =
      subst (λ v. (side_faults ifaces nameless (record { value = v; port = port; span = span }) ≡ side_port_faults ifaces nameless port) × (first_block ifaces (atoms v) ≡ prefix)) (sym is.form)
      (refl, is.block)

  pub range_side : (range : ℕ × ℕ) (value : Value) → SaysRange range value → (side_port_faults ifaces nameless (Some value) ≡ []) × (side_port ifaces nameless (Some value) ≡ Some range)
  range_side range value is =
      subst (λ v. (side_port_faults ifaces nameless (Some v) ≡ []) × (side_port ifaces nameless (Some v) ≡ Some range)) (sym is.form)
      (is.side, is.ports)

  -- the values of a list
  module _ {A : Type 0} (counted_of : Atom → ℕ) (faults_of : List Value → List ConfFault) (give : List Atom →
      List A) (clean : faults_of [] ≡ []) (none : give [] ≡ []) (both : (xs ys : List Atom) → give (xs ++ ys) ≡ give xs ++ give ys) where
    pub elements_faults : (values : List Value) (vals : List A) → Each (IsElement counted_of faults_of give) values vals → faults_of values ≡ []
    elements_faults [] [] each = clean
    elements_faults (value ∷ values) (a ∷ vals) (one, each) = one.faults values (elements_faults values vals each)
    elements_faults [] (a ∷ vals) each = absurd each
    elements_faults (value ∷ values) [] each = absurd each

    pub elements_give : (values : List Value) (vals : List A) → Each (IsElement counted_of faults_of give) values vals → give (spliced ifaces nameless values) ≡ vals
    elements_give [] [] each = none
    elements_give (value ∷ values) (a ∷ vals) (one, each) =
        both (atoms value) (spliced ifaces nameless values) ∙ ap (λ xs. xs ++ give (spliced ifaces nameless values)) one.gives ∙ ap (λ vals. a ∷ vals) (elements_give values vals each)
    elements_give [] (a ∷ vals) each = absurd each
    elements_give (value ∷ values) [] each = absurd each

    pub elements_count : (values : List Value) (vals : List A) → Each (IsElement counted_of faults_of give) values vals → sum_by counted_of (spliced ifaces nameless values) ≡ length vals
    elements_count [] [] each = refl
    elements_count (value ∷ values) (a ∷ vals) (one, each) =
        sum_by-append counted_of (atoms value) (spliced ifaces nameless values) ∙ ap (λ n. n + sum_by counted_of (spliced ifaces nameless values)) one.one
        ∙ ap (λ n. 1 + n) (elements_count values vals each) ∙ omega arith
    elements_count [] (a ∷ vals) each = absurd each
    elements_count (value ∷ values) [] each = absurd each
