-- What the code keeps, and no part of what the language means: in place of the values of a variable in a list the place of its definition, so
-- that nothing is spliced before it is used.
use Rattle.std.specs.Prelude.{◌≡◌, ◌<◌, ◌≤◌, ℕ, false, Option, Some, None, List, [], ◌∷◌, ◌++◌, All, length, slice_get}
use Rattle.std.specs.Coded.{×_prop, Unit-prop, le_prop}
use Rattle.std.specs.List.{flat_map}
use Rattle.std.specs.Option.{option_map}
use Rattle.std.proofs.Props.{props}
use Rattle.npf_expand_values.specs.declared.atom.Atom.{Atom as Kept}
use Rattle.npf_model.specs.declared.iface.Iface.{Iface}
use Rattle.npf_expand_values.specs.declared.leader.Leader.{Leader}
use Rattle.npf_expand_values.specs.declared.summary.Summary.{Summary}
use Rattle.npf_expand_values.specs.declared.variable.Bound.{Bound}
use Rattle.npf_expand_values.specs.declared.variable.Def.{Def}
use Rattle.npf_expand_values.specs.declared.variable.DefValues.{DefValues}
use Rattle.npf_expand_values.specs.declared.variable.DefValues.TheVariants.{Nothing, One, Many}
use Rattle.npf_expand_values.specs.declared.variable.Part.{Part}
use Rattle.npf_expand_values.specs.declared.variable.Part.TheVariants.{Single, Defined}
use Rattle.npf_expand_values.specs.declared.variable.Spliced.{Spliced}
use Rattle.npf_expand_values.specs.Atom.{Atom, Atom-set, Binding, kept_atom}
use Rattle.npf_expand_values.specs.Leader.{is_alike}
use Rattle.npf_expand_values.specs.Summary.{summary_of}
use Rattle.npf_expand_values.specs.Use.{atoms_of}

-- the atoms of a part, where the definitions so far bind their names so
abbrev pub part_atoms : List Binding → Part → List Atom
part_atoms bindings (Single atom) = kept_atom atom ∷ []
part_atoms bindings (Defined place) = atoms_of (slice_get bindings place)

abbrev pub parts_atoms : List Binding → List Part → List Atom
parts_atoms bindings parts = flat_map (part_atoms bindings) parts

-- the parts of the values of a definition
abbrev pub kept_parts : DefValues → List Part
kept_parts Nothing = []
kept_parts (One atom) = Single atom ∷ []
kept_parts (Many values) = values.parts.items

abbrev pub def_binding : List Binding → Def → Binding
def_binding bindings def = record { many = def.many; atoms = parts_atoms bindings (kept_parts def.values) }

-- what definitions bind, in the order of the text; of the definitions the newest stands first
abbrev pub bindings_of : List Def → List Binding
bindings_of [] = []
bindings_of (newest ∷ older) = bindings_of older ++ def_binding (bindings_of older) newest ∷ []

abbrev pub first_atom : List Atom → Option Atom
first_atom [] = None
first_atom (atom ∷ _) = Some atom

-- a part names none but the first definitions, so many
abbrev pub IsOfFirst : ℕ → Part → Type 0
IsOfFirst count (Single atom) = Unit {0}
IsOfFirst count (Defined place) = place < count

IsOfFirst-prop : (count : ℕ) (part : Part) → IsProp (IsOfFirst count part)
IsOfFirst-prop count (Single atom) = Unit-prop
IsOfFirst-prop count (Defined place) = le_prop

-- for these interfaces
module _ (ifaces : List Iface) where
  -- what is kept of atoms
  pub record AreKeptBy (leader : Leader) (summary : Summary) (atoms : List Atom) : Type 0 where
    pub first : option_map kept_atom leader.first ≡ first_atom atoms
    pub alike : leader.alike ≡ is_alike atoms
    pub summed : summary ≡ summary_of ifaces atoms

  -- a definition's values are these atoms, as far as they are kept beside their parts
  abbrev pub AreKeptIn : DefValues → List Atom → Type 0
  AreKeptIn Nothing atoms = atoms ≡ []
  AreKeptIn (One atom) atoms = atoms ≡ kept_atom atom ∷ []
  AreKeptIn (Many values) atoms = AreKeptBy values.leader values.summary atoms

  -- the parts are these atoms
  pub record AreSpliced (bindings : List Binding) (values : Spliced) (atoms : List Atom) : Type 0 where
    pub means : parts_atoms bindings values.parts.items ≡ atoms
    pub older : All (IsOfFirst (length bindings)) values.parts.items
    pub kept : AreKeptBy values.leader values.summary atoms

  -- a definition behind those that bind their names so
  pub record IsDefBehind (bindings : List Binding) (def : Def) : Type 0 where
    pub older : All (IsOfFirst (length bindings)) (kept_parts def.values)
    pub kept : AreKeptIn def.values (parts_atoms bindings (kept_parts def.values))
    pub alone : def.many ≡ false → length (parts_atoms bindings (kept_parts def.values)) ≤ 1

  -- each definition is behind those before it; of the definitions the newest stands first
  abbrev pub AreDefs : List Def → Type 0
  AreDefs [] = Unit {0}
  AreDefs (newest ∷ older) = IsDefBehind (bindings_of older) newest × AreDefs older

  AreKeptIn-prop : (values : DefValues) (atoms : List Atom) → IsProp (AreKeptIn values atoms)
  AreKeptIn-prop Nothing atoms = Prim.hlevel (Atom-set, props)
  AreKeptIn-prop (One atom) atoms = Prim.hlevel (Atom-set, props)
  AreKeptIn-prop (Many values) atoms = Prim.hlevel (Atom-set, props)

  IsDefBehind-prop : (bindings : List Binding) (def : Def) → IsProp (IsDefBehind bindings def)
  IsDefBehind-prop bindings def = Prim.hlevel (IsOfFirst-prop, AreKeptIn-prop, props)

  -- definitions are so in one way
  pub AreDefs-prop : (defs : List Def) → IsProp (AreDefs defs)
  AreDefs-prop [] = Unit-prop
  AreDefs-prop (newest ∷ older) = ×_prop (IsDefBehind-prop (bindings_of older) newest) (AreDefs-prop older)

-- the interfaces of a run, and what the definitions so far bind
pub record KnownNames : Type 0 where
  pub ifaces : List Iface
  pub bindings : List Binding

-- what is known of a value that is bound so
pub record IsBound (known : KnownNames) (bound : Bound) (binding : Binding) : Type 0 where
  pub many : bound.many ≡ binding.many
  pub means : part_atoms known.bindings bound.part ≡ binding.atoms
  pub older : IsOfFirst (length known.bindings) bound.part
  pub kept : AreKeptBy known.ifaces bound.leader bound.summary binding.atoms
  pub alone : binding.many ≡ false → length binding.atoms ≤ 1

abbrev pub IsBoundWhere : KnownNames → Option Bound → Option Binding → Type 0
IsBoundWhere known None None = Unit {0}
IsBoundWhere known (Some bound) (Some binding) = IsBound known bound binding
IsBoundWhere known _ _ = ⊥
