-- The interface that values stand for where one is asked for: that of the first, where each of them has it. A word or a string is its
-- name, and a function has the one that it is of.
use Rattle.std.specs.Prelude.{ℕ, Bool, true, false, ◌&&◌, if◌then◌else◌, Option, Some, None, List, [], ◌∷◌}
use Rattle.std.specs.List.{list_all}
use Rattle.std.specs.Option.{option_map, option_or}
use Rattle.std.specs.Str.{bytes_eq}
use Rattle.npf_types.specs.NameText.{is_name}
use Rattle.npf_syntax.specs.Reserved.{is_iface_word}
use Rattle.npf_expand_values.specs.declared.leader.Leader.{Leader}
use Rattle.npf_expand_values.specs.Atom.{Atom, WordAtom, StringAtom, AddressesAtom, kept_atom}

-- the name of the interface that a value stands for, where it does for one
abbrev pub name_text : Atom → Option (List ℕ)
name_text (WordAtom text span) = if is_name text then Some text else None
name_text (StringAtom text) = if is_name text then Some text else None
name_text (AddressesAtom iface addrs) = iface
name_text _ = None

-- the name of the interface whose addresses a value stands for, where it names one there
abbrev pub host_name : Atom → Option (List ℕ)
host_name (WordAtom text span) = if is_iface_word text then Some text else None
host_name (StringAtom text) = if is_name text then Some text else None
host_name _ = None

abbrev pub is_same_name : Option (List ℕ) → Option (List ℕ) → Bool
is_same_name (Some one) (Some other) = bytes_eq one other
is_same_name _ _ = false

abbrev pub has_name : Option (List ℕ) → Atom → Bool
has_name name atom = is_same_name name (name_text atom)

-- all have the interface of the first
abbrev pub is_alike : List Atom → Bool
is_alike [] = true
is_alike (atom ∷ atoms) = list_all (has_name (name_text atom)) atoms

abbrev pub shared_name : List Atom → Option (List ℕ)
shared_name [] = None
shared_name (atom ∷ atoms) = if is_alike (atom ∷ atoms) then name_text atom else None

-- what the code keeps of values that stand behind others

abbrev pub are_alike : Option Atom → Option Atom → Bool
are_alike (Some one) (Some other) = has_name (name_text one) other
are_alike _ _ = true

abbrev pub joined_leader : Leader → Leader → Leader
joined_leader one other = record {
  first = option_or one.first other.first;
  alike = one.alike && (other.alike && are_alike (option_map kept_atom one.first) (option_map kept_atom other.first));
}
