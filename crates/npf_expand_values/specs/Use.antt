-- Where a value stands, and which values can stand there. A value that can't is told at the value as it is written where it is
-- used: where it came through a variable, at that variable. A word that is no service or protocol is told at the word, also in the
-- definition that it came from.
use Rattle.std.specs.Prelude.{ℕ, Bool, length, true, false, not, ◌&&◌, ◌||◌, nat_lt, is_some, if◌then◌else◌, Option, Some, None, List, [], ◌∷◌, ◌++◌}
use Rattle.std.specs.List.{flat_map, list_any, sum_by}
use Rattle.npf_types.specs.declared.span.Span.{Span}
use Rattle.npf_types.specs.NameText.{is_name}
use Rattle.npf_faults.specs.declared.fault.ConfFault.{ConfFault}
use Rattle.npf_faults.specs.declared.fault.Fault.TheVariants.{Expected, UnknownVariable, UnknownService}
use Rattle.npf_faults.specs.First.{fault_at, fault_if}
use Rattle.npf_names.specs.Names.{number_named}
use Rattle.npf_names.specs.Protocol.{protocols}
use Rattle.npf_names.specs.Service.{services}
use Rattle.npf_expand_values.specs.declared.role.Role.{Role}
use Rattle.npf_expand_values.specs.declared.role.Role.TheVariants.{AsPort, AsAddress, AsProtocol, AsInterface}
use Rattle.npf_syntax.specs.Reserved.{is_iface_word}
use Rattle.npf_expand_values.specs.Atom.{Atom, NumberAtom, RangeAtom, WordAtom, StringAtom, BlockAtom, TableAtom, AddressesAtom, Binding}
use Rattle.npf_expand_values.specs.Leader.{is_alike}

-- the value can't stand in this place
abbrev pub is_unfit : Role → Atom → Bool
is_unfit AsPort (NumberAtom number) = nat_lt 65535 number
is_unfit AsPort (RangeAtom first last) = nat_lt 65535 first || nat_lt 65535 last
is_unfit AsPort (WordAtom _ _) = false
is_unfit AsPort _ = true
is_unfit AsAddress (BlockAtom _ _) = false
is_unfit AsAddress (TableAtom _) = false
is_unfit AsAddress (AddressesAtom _ _) = false
is_unfit AsAddress (WordAtom text _) = not (is_iface_word text)
is_unfit AsAddress (StringAtom text) = not (is_name text)
is_unfit AsAddress _ = true
is_unfit AsProtocol (NumberAtom number) = nat_lt 255 number
is_unfit AsProtocol (WordAtom _ _) = false
is_unfit AsProtocol _ = true
is_unfit AsInterface (WordAtom text _) = not (is_name text)
is_unfit AsInterface (StringAtom text) = not (is_name text)
is_unfit AsInterface (AddressesAtom iface _) = not (is_some iface)
is_unfit AsInterface _ = true

-- a word that names nothing in this place
abbrev pub word_faults : Role → Atom → List ConfFault
word_faults AsPort (WordAtom text span) = fault_if (not (is_some (number_named services text))) span UnknownService
word_faults AsProtocol (WordAtom text span) = fault_if (not (is_some (number_named protocols text))) span UnknownService
word_faults _ _ = []

-- the faults of values that are used at this place, one or many, but for interfaces that have no address
abbrev pub use_faults : Role → Span → List Atom → List ConfFault
use_faults role span atoms = fault_if (list_any (is_unfit role) atoms) span Expected ++ flat_map (word_faults role) atoms

-- how many elements values are, fit or not: a function is as many as it gives addresses
abbrev pub count_of : Atom → ℕ
count_of (AddressesAtom _ addrs) = length addrs
count_of _ = 1

abbrev pub element_count : List Atom → ℕ
element_count atoms = sum_by count_of atoms

-- the values are more than one: as interfaces, if not all are one
abbrev pub is_several : Role → List Atom → Bool
is_several AsInterface atoms = not (is_alike atoms)
is_several _ atoms = nat_lt 1 (element_count atoms)

-- the faults of what is used where one value stands, but for addresses: a list of several can't, whatever is in it
abbrev pub single_faults : Role → Span → Binding → List ConfFault
single_faults role span binding =
    if binding.many && is_several role binding.atoms then fault_at span Expected else use_faults role span binding.atoms

-- a name that isn't defined before its use is told at the use, and makes no further fault
abbrev pub undefined_faults : Span → Option Binding → List ConfFault
undefined_faults span binding = fault_if (not (is_some binding)) span UnknownVariable

-- further faults, which are told only where there are none yet
abbrev pub then_faults : List ConfFault → List ConfFault → List ConfFault
then_faults [] further = further
then_faults (fault ∷ faults) further = fault ∷ faults

abbrev pub atoms_of : Option Binding → List Atom
atoms_of None = []
atoms_of (Some binding) = binding.atoms

abbrev pub each_use_faults : Role → Span → Option Binding → List ConfFault
each_use_faults role span binding = undefined_faults span binding ++ use_faults role span (atoms_of binding)

abbrev pub one_use_faults : Role → Span → Option Binding → List ConfFault
one_use_faults role span None = fault_at span UnknownVariable
one_use_faults role span (Some binding) = single_faults role span binding
