-- The names that a statement gives, those of interfaces, and those of settings.
use Rattle.std.specs.Prelude.{ℕ, ◌+◌, nat_le, if◌then◌else◌, List, [], ◌∷◌, ◌++◌, codes, map}
use Rattle.npf_types.specs.Name.{name_bytes}
use Rattle.npf_syntax.specs.declared.stmt.Stmt.{Stmt}
use Rattle.npf_model.specs.declared.iface.Iface.{Iface}
use Rattle.npf_model.specs.Settings.{parameter_name, parameters}
use Rattle.npf_why.specs.declared.known.GivenNames.{GivenNames}
use Rattle.npf_why.specs.declared.known.GivenNames.TheVariants.{VariablesBefore, Tables, Procedures}

-- a variable, where its definition ends before this byte of the text; a table; a procedure
abbrev pub given_by : GivenNames → Stmt → List (List ℕ)
given_by (VariablesBefore at) (Stmt.Define var values span) = if nat_le (span.at + span.len) at then var.name ∷ [] else []
given_by Tables (Stmt.Table name kind file span) = name.text ∷ []
given_by Procedures (Stmt.Procedure name calls span) = name.text ∷ []
given_by _ _ = []

abbrev pub iface_text : Iface → List ℕ
iface_text iface = name_bytes iface.name

-- settings that are accepted without an effect
abbrev pub idle_settings : List (List ℕ)
idle_settings = codes "bpf.jit" ∷ codes "ip4.reassembly" ∷ codes "ip6.reassembly" ∷ codes "gc.step" ∷ []

abbrev pub setting_names : List (List ℕ)
setting_names = map parameter_name parameters ++ idle_settings
