-- The maps of the text, as far as a model doesn't tell: of a side that is a table, and of an algorithm that isn't known, something else
-- stands in it. A side may be a table through a variable, which stands for what its last definition before the map says.
use Rattle.std.specs.Prelude.{ℕ, Bool, true, false, ◌||◌, if◌then◌else◌, unwrap_or, List, [], ◌∷◌, ◌++◌}
use Rattle.std.specs.HashMap.{get_by}
use Rattle.std.specs.Str.{bytes_eq}
use Rattle.npf_types.specs.declared.span.Span.{Span}
use Rattle.npf_syntax.specs.declared.map.MapKind.{MapKind}
use Rattle.npf_syntax.specs.declared.stmt.Stmt.{Stmt}
use Rattle.npf_syntax.specs.declared.value.Value.{Value}
use Rattle.npf_syntax.specs.declared.value.Values.{Values}
use Rattle.npf_check.specs.declared.written_map.TableVariables.{TableVariables}

pub record WrittenMap : Type 0 where
  pub span : Span
  pub kind : MapKind
  -- whether one of its sides is a table
  pub by_table : Bool

-- the value is a table, where these variables are
abbrev pub is_table : (List ℕ → Bool) → Value → Bool
is_table known (Value.Table name span) = true
is_table known (Value.Var var span) = known var.name
is_table known _ = false

-- of lists one of one value stands in a side
abbrev pub is_only_table : (List ℕ → Bool) → List Value → Bool
is_only_table known (value ∷ []) = is_table known value
is_only_table known _ = false

abbrev pub is_one_table : (List ℕ → Bool) → Values → Bool
is_one_table known (Values.One value span) = is_table known value
is_one_table known (Values.List list span) = is_only_table known list.values

-- a definition counts until the next one of its name
abbrev pub with_definition : (List ℕ → Bool) → List ℕ → Values → List ℕ → Bool
with_definition known var values name = if bytes_eq var name then is_one_table known values else known name

-- which variables are tables behind a statement
abbrev pub tables_behind : (List ℕ → Bool) → Stmt → List ℕ → Bool
tables_behind known (Stmt.Define var values span) = with_definition known var.name values
tables_behind known _ = known

abbrev pub map_written : (List ℕ → Bool) → Stmt → List WrittenMap
map_written known (Stmt.Map iface kind proto left arrow right pass span) =
    record { span = span; kind = kind; by_table = is_table known left.value || is_table known right.value } ∷ []
map_written known _ = []

-- the maps of statements in front of which these variables are tables
abbrev pub written_maps : (List ℕ → Bool) → List Stmt → List WrittenMap
written_maps known [] = []
written_maps known (stmt ∷ stmts) = map_written known stmt ++ written_maps (tables_behind known stmt) stmts

-- the variable is a table among those that the code keeps
abbrev pub stands_for_table : TableVariables → List ℕ → Bool
stands_for_table variables name = unwrap_or (get_by (λ var. bytes_eq name var.now) variables.tables) false
