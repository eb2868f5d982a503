-- What a variable stands for: values in which no variable is left. A function is the addresses that it gives where it is
-- written, so an atom means the same wherever its variable is used.
use Rattle.std.specs.Prelude.{ℕ, Bool, Option, List}
use Rattle.std.specs.Option.{option_map}
use Rattle.npf_types.specs.declared.address.Addr.{Addr}
use Rattle.npf_types.specs.declared.span.Span.{Span}
use Rattle.npf_expand_values.specs.declared.atom.Atom.{Atom as Kept}

pub data Atom : Type 0 where
  NumberAtom : (number : ℕ) → Atom
  RangeAtom : (first last : ℕ) → Atom
  -- the place of the word is kept: that of an unknown service or protocol is in the definition
  WordAtom : (text : List ℕ) (span : Span) → Atom
  StringAtom : (text : List ℕ) → Atom
  BlockAtom : (addr : Addr) (len : Option ℕ) → Atom
  TableAtom : (name : List ℕ) → Atom
  -- the interface's name is kept: where an interface is asked for, its addresses stand for it
  AddressesAtom : (iface : Option (List ℕ)) (addrs : List Addr) → Atom
  deriving IsSet as Atom-set

-- what a name is bound to: its values, and whether they are a list. Only a name whose definition is refused is bound to none.
pub record Binding : Type 0 where
  pub many : Bool
  pub atoms : List Atom

-- what a name is bound to, or none where it isn't defined
abbrev pub Env : Type 0
Env = List ℕ → Option Binding

-- an atom as the code keeps it, whose texts stand in the tree and whose addresses in the list of interfaces
abbrev pub kept_atom : Kept → Atom
kept_atom (Kept.Number number) = NumberAtom number
kept_atom (Kept.Range first last) = RangeAtom first last
kept_atom (Kept.Word word) = WordAtom word.now.text word.now.span
kept_atom (Kept.Str string) = StringAtom string.now.text
kept_atom (Kept.Block addr len) = BlockAtom addr len
kept_atom (Kept.Table name) = TableAtom name.now.text
kept_atom (Kept.Addresses iface addrs) = AddressesAtom (option_map (λ name. name.now) iface) addrs.now
