-- What the names and the values of a configuration without a fault stand for.
use Rattle.std.proofs.Common.{◌≡◌, ◌≤◌, ◌<◌, ℕ, Bool, true, false, not, ◌&&◌, ◌||◌, if◌then◌else◌, cond, Option, Some, None, IfSome, List, [], ◌∷◌}
use Rattle.std.proofs.{Common.{◌++◌, length, flat_map, filter, refl, sym, ap, subst, ◌∙◌, arith, append-nil}, lemmas.{Bool.{leb-true, or_parts}, List.length-append}}
use Rattle.std.{proofs.lemmas.List.Elements.{All-head, All-tail}, specs.{List.{All, list_any}, Str.bytes_eq}}
use Rattle.npf_types.specs.{declared.{address.Addr.Addr, span.Span.Span}, Name.name_bytes, NameText.is_name}
use Rattle.npf_shelf.proofs.ListLemmas.{nil_from_append_left, nil_from_append_right}
use Rattle.npf_faults.specs.{declared.fault.{ConfFault.ConfFault, Fault.TheVariants.{Expected, UnknownInterface, UnknownTable}}, First.fault_if}
use Rattle.npf_syntax.specs.declared.{value.{Function.Function, IfaceTree.IfaceTree as WrittenIface, Value.Value, Values.Values}, word.Number.Number}
use Rattle.npf_model.specs.declared.iface.Iface.{Iface}
use Rattle.npf_check.specs.Undefined.{table_faults, tables_of_values}
use Rattle.npf_expand_values.specs.Atom.{Atom, NumberAtom, RangeAtom, WordAtom, StringAtom, BlockAtom, TableAtom, AddressesAtom, Binding, Env}
use Rattle.npf_expand_values.specs.declared.role.Role.TheVariants.{AsInterface}
use Rattle.npf_expand_values.specs.Leader.{is_alike, name_text, shared_name}
use Rattle.npf_expand_values.specs.Iface.{iface_binding, iface_span, iface_faults, bound_name, iface_name, addresses_of_first, addresses_of, is_of, has_none, address_faults}
use Rattle.npf_expand_values.specs.Use.{atoms_of, is_unfit, undefined_faults, use_faults, word_faults}
use Rattle.npf_expand_values.specs.Variable.{Definition, number_atom, length_of_block, empty_list_at, binding_of, own_faults, spliced}
use Rattle.npf_expand_values.specs.Variable.{definition_faults, is_bound_to_list, is_list, unless_refused, defined, env_of}
use Rattle.npf_expand.proofs.ElementLemmas.{unless, untold}
use Rattle.npf_parser_values.specs.Value.{is_range}
use Rattle.npf_show_tokens.specs.{Showable.FitsAddr, Tokens.is_run_word}
use Rattle.npf_show_law.proofs.{Gives.Every, Sound.{IsSoundValue, AreSoundValues}}

-- the faults of one atom that is used
pub split : (unfit : Bool) (span : Span) (words : List ConfFault) → fault_if (unfit || false) span Expected ++ (words ++ []) ≡ [] → (unfit ≡ false) × (words ≡ [])
split true span words none = cc
split false span words none = (refl, nil_from_append_left words [] none)

pub is_on : (b : Bool) → not b ≡ false → b ≡ true
is_on true off = refl
is_on false off = cc

pub every_both : {A : Type 0} (P : A → Type 0) (xs ys : List A) → Every P xs → Every P ys → Every P (xs ++ ys)
every_both P [] ys one other = other
every_both P (x ∷ xs) ys one other = (one.0, every_both P xs ys one.1 other)

pub some_left : {A : Type 0} (xs ys : List A) → 0 < length xs → 0 < length (xs ++ ys)
some_left xs ys some = let sum = length-append xs ys in omega (arith, some, sum)

pub every_listed : {A B : Type 0} (P : A → Type 0) (Q : B → Type 0) (f : A → List B) → ((a : A) → P a → Every Q (f a)) → (xs : List A) → Every P xs → Every Q (flat_map f xs)
every_listed P Q f step [] every = tt
every_listed P Q f step (x ∷ xs) every = every_both Q (f x) (flat_map f xs) (step x every.0) (every_listed P Q f step xs every.1)

-- the name of an interface that has no fault
pub record IsNamed (o : Option (List ℕ)) : Type 0 where
  pub text : List ℕ
  pub is : o ≡ Some text
  pub name : is_name text ≡ true

-- values that are all of one interface, or one alone
alone_alike : (atom : Atom) (atoms : List Atom) → length (atom ∷ atoms) ≡ 1 → is_alike (atom ∷ atoms) ≡ true
alone_alike atom [] one = refl
alone_alike atom (other ∷ atoms) one = absurd (omega (arith, one))

are_alike : (many : Bool) (atom : Atom) (atoms : List Atom) (alike : Bool) → is_alike (atom ∷ atoms) ≡ alike → (many && not alike) ≡ false
    → (many ≡ false → length (atom ∷ atoms) ≡ 1) → is_alike (atom ∷ atoms) ≡ true
are_alike many atom atoms true is clean one = is
are_alike true atom atoms false is clean one = cc
are_alike false atom atoms false is clean one = alone_alike atom atoms (one refl)

module _ (ifaces : List Iface) (fit : All (λ i. All FitsAddr i.addrs) ifaces) (is_defined : List ℕ → Bool) where
  abbrev pub IsSoundAtom : Atom → Type 0
  IsSoundAtom (RangeAtom first last) = first ≤ last
  IsSoundAtom (BlockAtom addr len) = FitsAddr addr
  IsSoundAtom (TableAtom name) = (is_run_word name ≡ true) × (is_name name ≡ true) × (is_defined name ≡ true)
  IsSoundAtom (AddressesAtom iface addrs) = (0 < length addrs) × Every FitsAddr addrs × IsNamed iface
  IsSoundAtom _ = Unit {0}

  pub record IsSoundBinding (b : Binding) : Type 0 where
    pub atoms : Every IsSoundAtom b.atoms
    pub some : 0 < length b.atoms
    pub one : b.many ≡ false → length b.atoms ≡ 1

  abbrev pub IsSoundEnv : Env → Type 0
  IsSoundEnv env = (name : List ℕ) → IfSome (env name) IsSoundBinding

  -- one value
  abbrev pub Bound : Option Binding → Type 0
  Bound None = ⊥
  Bound (Some b) = IsSoundBinding b

  alone_sound : (atom : Atom) → IsSoundAtom atom → IsSoundBinding (record { many = false; atoms = atom ∷ [] })
  alone_sound atom is = record { atoms = (is, tt); some = omega arith; one = λ _. refl }

  var_sound : (o : Option Binding) (span : Span) → IfSome o IsSoundBinding → undefined_faults span o ≡ [] → Bound o
  var_sound None span sound none = cc
  var_sound (Some b) span sound none = sound

  iface_bound : (env : Env) → IsSoundEnv env → (i : WrittenIface) → IfSome (iface_binding env i) IsSoundBinding
  iface_bound env sound (WrittenIface.Word w span) = alone_sound (WordAtom w.text w.span) tt
  iface_bound env sound (WrittenIface.Str s span) = alone_sound (StringAtom s.text) tt
  iface_bound env sound (WrittenIface.Var v span) = sound v.name

  -- the faults of what stands for an interface here, as those of a variable
  abbrev uses_of : Span → Option Binding → List ConfFault
  uses_of span o = iface_faults (λ _. o) (WrittenIface.Var (record { name = []; span = span }) span)

  abbrev uses_alone : Span → List Atom → List ConfFault
  uses_alone span atoms = uses_of span (Some (record { many = false; atoms = atoms }))

  text_named : (text : List ℕ) (span : Span) → fault_if (not (is_name text) || false) span Expected ++ ([] ++ []) ≡ [] → IsNamed (if is_name text then Some text else None)
  text_named text span none = let is = is_on (is_name text) (split (not (is_name text)) span [] none).0 in record { text = text; is = rw is refl; name = is }

  no_name : {o : Option (List ℕ)} (span : Span) → fault_if (true || false) span Expected ++ ([] ++ []) ≡ [] → IsNamed o
  no_name span none = let no : true ≡ false = (split true span [] none).0 in cc

  atom_named : (atom : Atom) (span : Span) → IsSoundAtom atom → uses_alone span (atom ∷ []) ≡ [] → IsNamed (name_text atom)
  atom_named (WordAtom text at) span sound none = text_named text span none
  atom_named (StringAtom text) span sound none = text_named text span none
  atom_named (NumberAtom n) span sound none = no_name span none
  atom_named (RangeAtom n m) span sound none = no_name span none
  atom_named (BlockAtom a l) span sound none = no_name span none
  atom_named (TableAtom n) span sound none = no_name span none
  atom_named (AddressesAtom iface a) span sound none = sound.2

  -- of values that are used the first can be
  first_used : (atom : Atom) (atoms : List Atom) (span : Span) → use_faults AsInterface span (atom ∷ atoms) ≡ [] → uses_alone span (atom ∷ []) ≡ []
  first_used atom atoms span none =
      let unfit = list_any (is_unfit AsInterface) (atom ∷ atoms) in
      let fits = untold unfit span Expected (nil_from_append_left (fault_if unfit span Expected) (flat_map (word_faults AsInterface) (atom ∷ atoms)) none) in
      ap (λ here. fault_if (here || false) span Expected ++ []) (or_parts (is_unfit AsInterface atom) (list_any (is_unfit AsInterface) atoms) fits).0

  atoms_named : (many : Bool) (atoms : List Atom) (span : Span) → Every IsSoundAtom atoms → 0 < length atoms → (many ≡ false → length atoms ≡ 1)
      → uses_of span (Some (record { many = many; atoms = atoms })) ≡ [] → IsNamed (shared_name atoms)
  atoms_named many [] span sound some one none = absurd (omega (arith, some))
  atoms_named many (atom ∷ atoms) span sound some one none =
      let used = use_faults AsInterface span (atom ∷ atoms) in
      let clean = unless (many && not (is_alike (atom ∷ atoms))) span used none in
      let named = atom_named atom span sound.0 (first_used atom atoms span clean.1) in
      record {
        text = named.text;
        is = ap (λ alike. if alike then name_text atom else None) (are_alike many atom atoms (is_alike (atom ∷ atoms)) refl clean.0 one) ∙ named.is;
        name = named.name;
      }

  bound_named : (o : Option Binding) (span : Span) → IfSome o IsSoundBinding → uses_of span o ≡ [] → IsNamed (bound_name o)
  bound_named None span sound none = cc
  bound_named (Some b) span sound none = atoms_named b.many b.atoms span sound.atoms sound.some sound.one none

  pub iface_named : (env : Env) → IsSoundEnv env → (i : WrittenIface) → iface_faults env i ≡ [] → IsNamed (iface_name env i)
  iface_named env sound i none = bound_named (iface_binding env i) (iface_span i) (iface_bound env sound i) none

  -- the addresses that a function gives
  every_of : (xs : List Addr) → All FitsAddr xs → Every FitsAddr xs
  every_of [] all = tt
  every_of (x ∷ xs) all = (All-head FitsAddr x xs all, every_of xs (All-tail FitsAddr x xs all))

  pub first_fit : (list : List Iface) → All (λ i. All FitsAddr i.addrs) list → (text : List ℕ) → Every FitsAddr (addresses_of_first list text)
  first_fit [] all text = tt
  first_fit (i ∷ list) all text = by (bytes_eq (name_bytes i.name) text) (first_fit list (All-tail (λ i. All FitsAddr i.addrs) i list all) text) where
    by : (b : Bool) → Every FitsAddr (addresses_of_first list text) → Every FitsAddr (if b then i.addrs else addresses_of_first list text)
    by true later = every_of i.addrs (All-head (λ i. All FitsAddr i.addrs) i list all)
    by false later = later

  kept_fit : (test : Addr → Bool) (xs : List Addr) → Every FitsAddr xs → Every FitsAddr (filter test xs)
  kept_fit test [] every = tt
  kept_fit test (x ∷ xs) every = by (test x) (kept_fit test xs every.1) where
    by : (b : Bool) → Every FitsAddr (filter test xs) → Every FitsAddr (cond b (x ∷ filter test xs) (filter test xs))
    by true later = (every.0, later)
    by false later = later

  pub some_there : (addrs : List Addr) → has_none addrs ≡ false → 0 < length addrs
  some_there [] some = cc
  some_there (a ∷ addrs) some = omega arith

  function_sound : (f : Function) (o : Option (List ℕ)) (span : Span) → IsNamed o → address_faults ifaces f o span ≡ [] → IsSoundAtom (AddressesAtom o (addresses_of ifaces f o))
  function_sound f None span named none = let no : None ≡ Some named.text = named.is in cc
  function_sound f (Some text) span named none =
      let addrs = addresses_of ifaces f (Some text) in
      (some_there addrs (untold (has_none addrs) span UnknownInterface none), kept_fit (is_of f) (addresses_of_first ifaces text) (first_fit ifaces fit text), named)

  number_sound : (first : Number) (last : Option Number) → is_range (first, last) ≡ true → IsSoundAtom (number_atom first.value last)
  number_sound first None is = tt
  number_sound first (Some last) is = leb-true first.value last.value is

  pub value_sound : (env : Env) → IsSoundEnv env → (v : Value) → IsSoundValue v → own_faults ifaces env v ≡ [] → table_faults is_defined v ≡ [] → Bound (binding_of ifaces env v)
  value_sound env sound (Value.Var var span) is own none = var_sound (env var.name) span (sound var.name) own
  value_sound env sound (Value.Number first last span) is own none = alone_sound (number_atom first.value last) (number_sound first last is)
  value_sound env sound (Value.Word w span) is own none = alone_sound (WordAtom w.text w.span) tt
  value_sound env sound (Value.Str s span) is own none = alone_sound (StringAtom s.text) tt
  value_sound env sound (Value.Address a len span) is own none = alone_sound (BlockAtom a.addr (length_of_block len)) is
  value_sound env sound (Value.Table name span) is own none = alone_sound (TableAtom name.text) (is.0, is.1, is_on (is_defined name.text) (untold (not (is_defined name.text)) span UnknownTable none))
  value_sound env sound (Value.Function f i span) is own none =
      let named = iface_named env sound i (nil_from_append_left (iface_faults env i) (address_faults ifaces f (iface_name env i) span) own) in
      alone_sound (AddressesAtom (iface_name env i) (addresses_of ifaces f (iface_name env i)))
      (function_sound f (iface_name env i) span named (nil_from_append_right (iface_faults env i) (address_faults ifaces f (iface_name env i) span) own))

  pub bound_atoms : (o : Option Binding) → Bound o → Every IsSoundAtom (atoms_of o) × (0 < length (atoms_of o))
  bound_atoms None bound = absurd bound
  bound_atoms (Some b) bound = (bound.atoms, bound.some)

  -- values, one behind the other
  pub values_sound : (env : Env) → IsSoundEnv env → (vs : List Value) → Every IsSoundValue vs → flat_map (own_faults ifaces env) vs ≡ [] → flat_map (table_faults is_defined) vs ≡ []
      → Every IsSoundAtom (spliced ifaces env vs)
  values_sound env sound [] every own none = tt
  values_sound env sound (v ∷ vs) every own none =
      let first = bound_atoms (binding_of ifaces env v) (value_sound env sound v every.0 (nil_from_append_left (own_faults ifaces env v) (flat_map (own_faults ifaces env) vs) own)
      (nil_from_append_left (table_faults is_defined v) (flat_map (table_faults is_defined) vs) none)) in
      every_both IsSoundAtom (atoms_of (binding_of ifaces env v)) (spliced ifaces env vs) first.0
      (values_sound env sound vs every.1 (nil_from_append_right (own_faults ifaces env v) (flat_map (own_faults ifaces env) vs) own)
      (nil_from_append_right (table_faults is_defined v) (flat_map (table_faults is_defined) vs) none))

  pub values_some : (env : Env) → IsSoundEnv env → (span : Span) (vs : List Value) → empty_list_at span vs ≡ [] →
      Every IsSoundValue vs → flat_map (own_faults ifaces env) vs ≡ [] → flat_map (table_faults is_defined) vs ≡ []
      → 0 < length (spliced ifaces env vs)
  values_some env sound span [] some every own none = cc
  values_some env sound span (v ∷ vs) some every own none =
      let first = bound_atoms (binding_of ifaces env v) (value_sound env sound v every.0 (nil_from_append_left (own_faults ifaces env v) (flat_map (own_faults ifaces env) vs) own)
      (nil_from_append_left (table_faults is_defined v) (flat_map (table_faults is_defined) vs) none)) in
      some_left (atoms_of (binding_of ifaces env v)) (spliced ifaces env vs) first.1

  -- definitions
  one_defined : (env : Env) (v : Value) (o : Option Binding) → binding_of ifaces env v ≡ o → Bound o → IsSoundBinding (record { many = is_bound_to_list ifaces o; atoms = atoms_of o ++ [] })
  one_defined env v None is bound = absurd bound
  one_defined env v (Some b) is bound = record {
    atoms = subst (Every IsSoundAtom) (sym (append-nil b.atoms)) bound.atoms;
    some = subst (λ xs. 0 < length xs) (sym (append-nil b.atoms)) bound.some;
    one = λ single. ap length (append-nil b.atoms) ∙ bound.one single;
  }

  refused_none : (faults : List ConfFault) (atoms : List Atom) → faults ≡ [] → unless_refused ifaces faults atoms ≡ atoms
  refused_none faults atoms none = ap (λ f. unless_refused ifaces f atoms) none

  definition_sound : (env : Env) → IsSoundEnv env → (values : Values) → AreSoundValues values → definition_faults ifaces env values ≡ [] → tables_of_values is_defined values ≡ []
      → IsSoundBinding (defined ifaces env values)
  definition_sound env sound (Values.One v span) is own none =
      let clean : own_faults ifaces env v ≡ [] = sym (append-nil (own_faults ifaces env v)) ∙ own in
      subst (λ atoms. IsSoundBinding (record { many = is_list ifaces env (Values.One v span); atoms = atoms }))
      (sym (refused_none (definition_faults ifaces env (Values.One v span)) (spliced ifaces env (v ∷ [])) own))
      (one_defined env v (binding_of ifaces env v) refl (value_sound env sound v is clean none))
  definition_sound env sound (Values.List list span) is own none =
      let filled = nil_from_append_left (empty_list_at list.span list.values) (flat_map (own_faults ifaces env) list.values) own in
      let clean = nil_from_append_right (empty_list_at list.span list.values) (flat_map (own_faults ifaces env) list.values) own in
      subst (λ atoms. IsSoundBinding (record { many = true; atoms = atoms })) (sym (refused_none (definition_faults ifaces env (Values.List list span)) (spliced ifaces env list.values) own))
      (record {
        atoms = values_sound env sound list.values is clean none;
        some = values_some env sound list.span list.values filled is clean none;
        one = λ never. cc;
      })

  -- definitions without a fault
  abbrev pub AreCleanDefinitions : List Definition → Type 0
  AreCleanDefinitions [] = Unit {0}
  AreCleanDefinitions (newest ∷ older) =
      (AreSoundValues newest.values × (definition_faults ifaces (env_of ifaces older) newest.values ≡ []) × (tables_of_values is_defined newest.values ≡ [])) × AreCleanDefinitions older

  pub env_sound : (older : List Definition) → AreCleanDefinitions older → IsSoundEnv (env_of ifaces older)
  env_sound [] clean name = tt
  env_sound (newest ∷ older) clean name =
      by (bytes_eq newest.name name) (env_of ifaces older name)
      (definition_sound (env_of ifaces older) (env_sound older clean.1) newest.values clean.0.0 clean.0.1 clean.0.2) (env_sound older clean.1 name) where
        by : {binding : Binding} (b : Bool) (before : Option Binding) → IsSoundBinding binding → IfSome before IsSoundBinding → IfSome (if b then Some binding else before) IsSoundBinding
        by true before one other = one
        by false before one other = other
