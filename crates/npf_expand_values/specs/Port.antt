-- The ports of a rule: numbers, ranges and services.
use Rattle.std.specs.Prelude.{ℕ, ◌||◌, nat_lt, if◌then◌else◌, Option, Some, None, List, [], ◌++◌}
use Rattle.std.specs.List.{flat_map, filter_map}
use Rattle.npf_faults.specs.declared.fault.ConfFault.{ConfFault}
use Rattle.npf_syntax.specs.declared.value.Values.{Values}
use Rattle.npf_model.specs.declared.iface.Iface.{Iface}
use Rattle.npf_names.specs.Names.{number_named}
use Rattle.npf_names.specs.Service.{services}
use Rattle.npf_expand_values.specs.declared.role.Role.TheVariants.{AsPort}
use Rattle.npf_expand_values.specs.Atom.{Atom, NumberAtom, RangeAtom, WordAtom, Env}
use Rattle.npf_expand_values.specs.Use.{element_count}
use Rattle.npf_expand_values.specs.Variable.{each_value_faults, empty_list_faults, listed_values, spliced}

abbrev pub same_port : Option ℕ → Option (ℕ × ℕ)
same_port None = None
same_port (Some port) = Some (port, port)

-- the ports that a value is, where it is some
abbrev pub atom_ports : Atom → Option (ℕ × ℕ)
atom_ports (NumberAtom number) = if nat_lt 65535 number then None else Some (number, number)
atom_ports (RangeAtom first last) = if nat_lt 65535 first || nat_lt 65535 last then None else Some (first, last)
atom_ports (WordAtom text span) = same_port (number_named services text)
atom_ports _ = None

module _ (ifaces : List Iface) (env : Env) where
  abbrev pub ports_faults : Option Values → List ConfFault
  ports_faults None = []
  ports_faults (Some values) = empty_list_faults values ++ flat_map (each_value_faults ifaces env AsPort) (listed_values values)

  abbrev pub ports_count : Option Values → ℕ
  ports_count None = 0
  ports_count (Some values) = element_count (spliced ifaces env (listed_values values))

  abbrev pub ports_of : Option Values → Option (List (ℕ × ℕ))
  ports_of None = None
  ports_of (Some values) = Some (filter_map atom_ports (spliced ifaces env (listed_values values)))
