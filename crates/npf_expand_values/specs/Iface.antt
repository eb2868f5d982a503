-- Interfaces as a configuration names them, and the addresses that functions give of them.
use Rattle.std.specs.Prelude.{ℕ, Bool, true, false, if◌then◌else◌, Option, Some, None, List, [], ◌∷◌, ◌++◌}
use Rattle.std.specs.List.{filter}
use Rattle.std.specs.Str.{bytes_eq}
use Rattle.npf_types.specs.declared.address.Addr.{Addr}
use Rattle.npf_types.specs.declared.address.Addr.TheVariants.{V4, V6}
use Rattle.npf_types.specs.declared.span.Span.{Span}
use Rattle.npf_types.specs.Name.{name_bytes}
use Rattle.npf_types.specs.Named.{named}
use Rattle.npf_faults.specs.declared.fault.ConfFault.{ConfFault}
use Rattle.npf_faults.specs.declared.fault.Fault.TheVariants.{UnknownInterface}
use Rattle.npf_syntax.specs.declared.value.Function.{Function}
use Rattle.npf_syntax.specs.declared.value.IfaceTree.{IfaceTree as WrittenIface}
use Rattle.npf_syntax.specs.declared.value.IfaceTree.TheVariants as IfaceIs
use Rattle.npf_model.specs.declared.iface.Iface.{Iface}
use Rattle.npf_model.specs.declared.rule.OnIf.{OnIf}
use Rattle.npf_model.specs.Numbering.{number_of_name}
use Rattle.npf_faults.specs.First.{fault_if}
use Rattle.npf_expand_values.specs.declared.role.Role.TheVariants.{AsInterface}
use Rattle.npf_expand_values.specs.Atom.{WordAtom, StringAtom, Binding, Env}
use Rattle.npf_expand_values.specs.Leader.{shared_name}
use Rattle.npf_expand_values.specs.Use.{one_use_faults}

-- what an interface is written as: a word, a string or a variable
abbrev pub iface_binding : Env → WrittenIface → Option Binding
iface_binding env (IfaceIs.Word word span) = Some (record { many = false; atoms = WordAtom word.text word.span ∷ [] })
iface_binding env (IfaceIs.Str string span) = Some (record { many = false; atoms = StringAtom string.text ∷ [] })
iface_binding env (IfaceIs.Var var span) = env var.name

abbrev pub iface_span : WrittenIface → Span
iface_span (IfaceIs.Word word span) = span
iface_span (IfaceIs.Str string span) = span
iface_span (IfaceIs.Var var span) = span

abbrev pub iface_faults : Env → WrittenIface → List ConfFault
iface_faults env iface = one_use_faults AsInterface (iface_span iface) (iface_binding env iface)

-- the interface that a variable stands for where one is asked for
abbrev pub bound_name : Option Binding → Option (List ℕ)
bound_name None = None
bound_name (Some binding) = shared_name binding.atoms

abbrev pub iface_name : Env → WrittenIface → Option (List ℕ)
iface_name env iface = bound_name (iface_binding env iface)

-- the interface with its number in the run; where no name stands there, of the name that every text has
module _ (ifaces : List Iface) where
  abbrev pub on_text : Option (List ℕ) → OnIf
  on_text None = record { name = named []; id = record { 0 = 0 } }
  on_text (Some text) = record { name = named text; id = record { 0 = number_of_name ifaces (named text) } }

  abbrev pub on_iface : Env → WrittenIface → OnIf
  on_iface env iface = on_text (iface_name env iface)

-- the addresses of the first interface with this name
abbrev pub addresses_of_first : List Iface → List ℕ → List Addr
addresses_of_first [] text = []
addresses_of_first (iface ∷ others) text = if bytes_eq (name_bytes iface.name) text then iface.addrs else addresses_of_first others text

abbrev pub is_of : Function → Addr → Bool
is_of (Function.Inet4 _) (V4 _) = true
is_of (Function.Inet4 _) (V6 _) = false
is_of (Function.Inet6 _) (V4 _) = false
is_of (Function.Inet6 _) (V6 _) = true
is_of (Function.IfAddrs _) _ = true

-- the addresses that a function gives: those of its family, in the order of the interface file
abbrev pub addresses_of : List Iface → Function → Option (List ℕ) → List Addr
addresses_of ifaces function None = []
addresses_of ifaces function (Some text) = filter (is_of function) (addresses_of_first ifaces text)

abbrev pub has_none : List Addr → Bool
has_none [] = true
has_none (_ ∷ _) = false

-- an interface that isn't there, or has no such address, is told at the function; where no name stands in it, nothing is
abbrev pub address_faults : List Iface → Function → Option (List ℕ) → Span → List ConfFault
address_faults ifaces function None span = []
address_faults ifaces function (Some text) span = fault_if (has_none (addresses_of ifaces function (Some text))) span UnknownInterface

abbrev pub function_faults : List Iface → Env → Function → WrittenIface → Span → List ConfFault
function_faults ifaces env function iface span =
    iface_faults env iface ++ address_faults ifaces function (iface_name env iface) span
