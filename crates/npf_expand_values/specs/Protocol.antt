-- The protocols of a rule and of a map: numbers to 255 and names.
use Rattle.std.specs.Prelude.{ℕ, Bool, false, ◌==◌, nat_lt, if◌then◌else◌, Option, Some, None, List, [], ◌∷◌}
use Rattle.std.specs.List.{flat_map, filter_map}
use Rattle.npf_types.specs.declared.span.Span.{Span}
use Rattle.npf_faults.specs.declared.fault.ConfFault.{ConfFault}
use Rattle.npf_syntax.specs.declared.filter.Protocols.{Protocols}
use Rattle.npf_syntax.specs.declared.value.One.{One}
use Rattle.npf_names.specs.Names.{number_named}
use Rattle.npf_names.specs.Protocol.{protocols}
use Rattle.npf_expand_values.specs.declared.role.Role.TheVariants.{AsProtocol}
use Rattle.npf_expand_values.specs.Atom.{Atom, NumberAtom, WordAtom, Binding, Env}
use Rattle.npf_expand_values.specs.Use.{each_use_faults, one_use_faults, atoms_of}

abbrev pub one_span : One → Span
one_span (One.Word word span) = span
one_span (One.Number number span) = span
one_span (One.Var var span) = span

abbrev pub one_binding : Env → One → Option Binding
one_binding env (One.Word word span) = Some (record { many = false; atoms = WordAtom word.text word.span ∷ [] })
one_binding env (One.Number number span) = Some (record { many = false; atoms = NumberAtom number.value ∷ [] })
one_binding env (One.Var var span) = env var.name

abbrev pub protocol_of : Atom → Option ℕ
protocol_of (NumberAtom number) = if nat_lt 255 number then None else Some number
protocol_of (WordAtom text span) = number_named protocols text
protocol_of _ = None

abbrev pub is_number : ℕ → Option ℕ → Bool
is_number wanted None = false
is_number wanted (Some number) = number == wanted

-- the value is this protocol
abbrev pub is_protocol : ℕ → Atom → Bool
is_protocol wanted atom = is_number wanted (protocol_of atom)

abbrev pub written_ones : Protocols → List One
written_ones (Protocols.One one span) = one ∷ []
written_ones (Protocols.List list span) = list.ones

abbrev pub protocol_faults : Env → One → List ConfFault
protocol_faults env one = each_use_faults AsProtocol (one_span one) (one_binding env one)

abbrev pub protocols_faults : Env → Protocols → List ConfFault
protocols_faults env protos = flat_map (protocol_faults env) (written_ones protos)

abbrev pub spliced_ones : Env → Protocols → List Atom
spliced_ones env protos = flat_map (λ one. atoms_of (one_binding env one)) (written_ones protos)

abbrev pub protocols_of : Env → Protocols → List ℕ
protocols_of env protos = filter_map protocol_of (spliced_ones env protos)

-- where one protocol stands: that of a map
abbrev pub one_protocol_faults : Env → Option One → List ConfFault
one_protocol_faults env None = []
one_protocol_faults env (Some one) = one_use_faults AsProtocol (one_span one) (one_binding env one)

abbrev pub first_protocol : List Atom → Option ℕ
first_protocol [] = None
first_protocol (atom ∷ _) = protocol_of atom

abbrev pub one_protocol : Env → Option One → Option ℕ
one_protocol env None = None
one_protocol env (Some one) = first_protocol (atoms_of (one_binding env one))
