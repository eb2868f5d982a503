-- Types and codes of ICMP's messages: numbers to 255 and names, of which one stands there.
use Rattle.std.specs.Prelude.{ℕ, ◌&&◌, not, nat_lt, is_some, if◌then◌else◌, Option, Some, None, List, [], ◌∷◌, ◌++◌}
use Rattle.std.specs.List.{list_all, list_any}
use Rattle.npf_types.specs.declared.span.Span.{Span}
use Rattle.npf_faults.specs.declared.fault.ConfFault.{ConfFault}
use Rattle.npf_faults.specs.declared.fault.Fault.TheVariants.{Expected, UnknownVariable, UnknownService}
use Rattle.npf_faults.specs.First.{fault_at, fault_if}
use Rattle.npf_names.specs.declared.icmp.IcmpNames.{IcmpNames}
use Rattle.npf_names.specs.declared.icmp.IcmpNames.TheVariants.{OfIcmp, OfIcmp6, OfNeither}
use Rattle.npf_names.specs.Names.{Names, number_named}
use Rattle.npf_syntax.specs.declared.value.One.{One}
use Rattle.npf_expand_values.specs.declared.role.Role.TheVariants.{AsProtocol}
use Rattle.npf_expand_values.specs.Atom.{Atom, NumberAtom, WordAtom, Binding, Env}
use Rattle.npf_expand_values.specs.Protocol.{is_protocol, one_binding, one_span}
use Rattle.npf_expand_values.specs.Use.{atoms_of, is_several, is_unfit}

-- whose names the messages of some protocols have: ICMP's where each is 1, ICMPv6's where each is 58
abbrev pub icmp_names : List Atom → IcmpNames
icmp_names protos = if list_all (is_protocol 1) protos then OfIcmp else (if list_all (is_protocol 58) protos then OfIcmp6 else OfNeither)

-- the number that a value is, by itself or as one of these names
abbrev pub number_among : Names → Atom → Option ℕ
number_among names (NumberAtom number) = if nat_lt 255 number then None else Some number
number_among names (WordAtom text span) = number_named names text
number_among names _ = None

-- a word that isn't one of these names
abbrev pub name_faults : Names → Atom → List ConfFault
name_faults names (WordAtom text span) = fault_if (not (is_some (number_named names text))) span UnknownService
name_faults names _ = []

abbrev pub first_name_faults : Names → List Atom → List ConfFault
first_name_faults names [] = []
first_name_faults names (atom ∷ _) = name_faults names atom

-- a list of several can't stand there, whatever is in it
abbrev pub message_use_faults : Names → Span → Option Binding → List ConfFault
message_use_faults names span None = fault_at span UnknownVariable
message_use_faults names span (Some binding) =
    if binding.many && is_several AsProtocol binding.atoms then fault_at span Expected
    else fault_if (list_any (is_unfit AsProtocol) binding.atoms) span Expected ++ first_name_faults names binding.atoms

abbrev pub message_faults : Names → Env → One → List ConfFault
message_faults names env one = message_use_faults names (one_span one) (one_binding env one)

abbrev pub first_number : Names → List Atom → Option ℕ
first_number names [] = None
first_number names (atom ∷ _) = number_among names atom

abbrev pub message_number : Names → Env → One → Option ℕ
message_number names env one = first_number names (atoms_of (one_binding env one))
