-- What the code keeps, and no part of what the language means: what is known where a statement stands.
use Rattle.std.specs.Prelude.{ℕ, Option, Some, None, List, reverse, slice_get}
use Rattle.std.specs.HashMap.{get_by}
use Rattle.std.specs.Str.{bytes_eq}
use Rattle.npf_model.specs.declared.iface.Iface.{Iface}
use Rattle.npf_expand_values.specs.declared.scope.Scope.{Scope}
use Rattle.npf_expand_values.specs.declared.variable.Variables.{Variables}
use Rattle.npf_expand_values.specs.Atom.{Binding, Env}
use Rattle.npf_expand_values.specs.Declarations.{Declared}
use Rattle.npf_expand_values.specs.Kept.{KnownNames, bindings_of}
use Rattle.npf_expand_values.specs.Source.{declared_by}

-- what the definitions so far bind
abbrev pub known : Variables → List Binding
known variables = bindings_of (reverse variables.defs.items)

abbrev pub at_place : List Binding → Option ℕ → Option Binding
at_place bindings None = None
at_place bindings (Some place) = slice_get bindings place

-- what names are bound to
abbrev pub env_in : Variables → Env
env_in variables text = at_place (known variables) (get_by (λ name. bytes_eq text name.now) variables.latest)

-- the interfaces of the run
abbrev pub ifaces_in : Variables → List Iface
ifaces_in variables = variables.interfaces.now.list.now

abbrev pub ifaces_of_scope : Scope → List Iface
ifaces_of_scope scope = ifaces_in scope.variables.now

-- what names are bound to
abbrev pub env_of_scope : Scope → Env
env_of_scope scope = env_in scope.variables.now

-- what the definitions so far bind
abbrev pub known_of_scope : Scope → List Binding
known_of_scope scope = known scope.variables.now

-- what is known where a value stands
abbrev pub known_in : Variables → KnownNames
known_in variables = record { ifaces = ifaces_in variables; bindings = known variables }

abbrev pub all_known : Scope → KnownNames
all_known scope = known_in scope.variables.now

-- the names that are declared
abbrev pub declared_of_scope : Scope → Declared
declared_of_scope scope = declared_by scope.declarations.now.source
