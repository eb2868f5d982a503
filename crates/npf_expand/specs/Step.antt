-- What the code keeps, and no part of what the language means: what each statement does to what was read before it.
use Rattle.std.specs.Prelude.{◌≡◌, ℕ, if◌then◌else◌, Some, None, List, [], ◌++◌}
use Rattle.std.specs.Str.{bytes_eq}
use Rattle.npf_syntax.specs.declared.stmt.Stmt.{Stmt}
use Rattle.npf_model.specs.declared.iface.Iface.{Iface}
use Rattle.npf_expand_values.specs.Atom.{Env}
use Rattle.npf_expand_values.specs.Declarations.{Declared}
use Rattle.npf_expand_values.specs.Scope.{env_in, ifaces_in}
use Rattle.npf_expand_values.specs.Variable.{defined}
use Rattle.npf_expand.specs.declared.elaborate.State.{State}
use Rattle.npf_expand.specs.Elaborates.{default_group, gathered, maps_of, named_group, stmt_elements, stmt_faults}
use Rattle.npf_expand.specs.Meets.{Meets}

module _ (ifaces : List Iface) where
  -- what names are bound to behind a statement
  abbrev pub env_behind : Env → Stmt → Env
  env_behind env (Stmt.Define var values span) text = if bytes_eq var.name text then Some (defined ifaces env values) else env text
  env_behind env _ text = env text

  module _ (declared : Declared) where
    -- what a statement adds to the model
    pub record AddsToModel (env : Env) (old new : State) (stmt : Stmt) : Type 0 where
      pub groups : new.groups.items ≡ old.groups.items ++ named_group ifaces declared env stmt
      pub defaults : new.defaults.items ≡ old.defaults.items ++ default_group ifaces declared env stmt
      pub maps : new.maps.items ≡ old.maps.items ++ maps_of ifaces declared env stmt

    pub record IsStmtRead (old new : State) (stmt : Stmt) : Type 0 where
      pub run : ifaces_in new.variables ≡ ifaces_in old.variables
      pub env : (text : List ℕ) → env_in new.variables text ≡ env_behind (env_in old.variables) stmt text
      pub met : Meets old.met new.met (stmt_faults ifaces declared (env_in old.variables) old.met.elements stmt)
          (stmt_elements ifaces declared (env_in old.variables) stmt)
      pub adds : new.met.first ≡ None → AddsToModel (env_in old.variables) old new stmt

    -- what all statements of a text add
    pub record Adding (state : State) (stmts : List Stmt) : Type 0 where
      pub groups : state.groups.items ≡ gathered ifaces declared (named_group ifaces declared) [] stmts
      pub defaults : state.defaults.items ≡ gathered ifaces declared (default_group ifaces declared) [] stmts
      pub maps : state.maps.items ≡ gathered ifaces declared (maps_of ifaces declared) [] stmts
