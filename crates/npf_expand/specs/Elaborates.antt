-- What the tree of a configuration means: its model, and its faults, each as a function of the tree and of the run's interfaces.
-- Statements are read from the front, each where the names mean what the definitions before it say.
-- READ 6 of docs/READING.md
use Rattle.std.specs.Prelude.{◌≡◌, ℕ, ◌+◌, Option, Some, None, List, [], ◌∷◌, ◌++◌}
use Rattle.std.specs.List.{flat_map}
use Rattle.npf_faults.specs.declared.fault.ConfFault.{ConfFault}
use Rattle.npf_faults.specs.declared.fault.Refused.{Refused}
use Rattle.npf_syntax.specs.declared.filter.Filter.{Filter}
use Rattle.npf_syntax.specs.declared.group.GroupHead.TheVariants as Head
use Rattle.npf_syntax.specs.declared.stmt.Stmt.{Stmt}
use Rattle.npf_syntax.specs.declared.stmt.Tree.{Tree}
use Rattle.npf_model.specs.declared.group.Group.{Group}
use Rattle.npf_model.specs.declared.iface.Iface.{Iface}
use Rattle.npf_model.specs.declared.map.Map.{Map}
use Rattle.npf_model.specs.declared.model.Model.{Model}
use Rattle.npf_model.specs.declared.procedure.Procedure.{Procedure}
use Rattle.npf_faults.specs.First.{IsFirstFaultOf}
use Rattle.npf_expand_values.specs.Atom.{Env}
use Rattle.npf_expand_values.specs.Declarations.{Declared, declared_in}
use Rattle.npf_expand_values.specs.Variable.{Definition, definition_faults, env_of}
use Rattle.npf_expand.specs.Group.{group_of_tree, head_faults, items_elements, items_faults}
use Rattle.npf_expand.specs.Map.{map_faults, map_of_tree}
use Rattle.npf_expand.specs.Procedure.{procedure_of}
use Rattle.npf_expand.specs.Rule.{filter_count, passing_faults}
use Rattle.npf_expand.specs.Settings.{asks_icmp, settings_of}
use Rattle.npf_expand.specs.Table.{tables_of}

abbrev pub procedures_of : Stmt → List Procedure
procedures_of (Stmt.Procedure name calls span) = procedure_of name.text calls ∷ []
procedures_of _ = []

-- the definitions behind a statement, the newest first
abbrev pub behind : List Definition → Stmt → List Definition
behind older (Stmt.Define var values span) = record { name = var.name; values = values } ∷ older
behind older _ = older

module _ (ifaces : List Iface) (declared : Declared) where
  abbrev pub filter_elements : Env → Option Filter → ℕ
  filter_elements env None = 0
  filter_elements env (Some filter) = filter_count ifaces env filter

  abbrev pub stmt_elements : Env → Stmt → ℕ
  stmt_elements env (Stmt.Map iface kind proto left arrow right pass span) = filter_elements env pass
  stmt_elements env (Stmt.Group head items span) = items_elements ifaces env declared items
  stmt_elements env _ = 0

  -- the faults of a statement in front of which so many elements stand
  abbrev pub stmt_faults : Env → ℕ → Stmt → List ConfFault
  stmt_faults env counted (Stmt.Define var values span) = definition_faults ifaces env values
  stmt_faults env counted (Stmt.Map iface kind proto left arrow right pass span) =
      map_faults ifaces env iface proto left right pass ++ passing_faults counted (filter_elements env pass) span
  stmt_faults env counted (Stmt.Group head items span) = head_faults ifaces env declared head ++ items_faults ifaces env declared counted items
  stmt_faults env counted _ = []

  -- the faults of statements behind these definitions and so many elements
  abbrev pub stmts_faults : List Definition → ℕ → List Stmt → List ConfFault
  stmts_faults older counted [] = []
  stmts_faults older counted (stmt ∷ stmts) =
      let env = env_of ifaces older in
      stmt_faults env counted stmt ++ stmts_faults (behind older stmt) (counted + stmt_elements env stmt) stmts

  abbrev pub named_group : Env → Stmt → List Group
  named_group env (Stmt.Group (Head.Named name dir layer on head) items span) =
      group_of_tree ifaces env declared (Head.Named name dir layer on head) items ∷ []
  named_group env _ = []

  abbrev pub default_group : Env → Stmt → List Group
  default_group env (Stmt.Group (Head.Default layer head) items span) = group_of_tree ifaces env declared (Head.Default layer head) items ∷ []
  default_group env _ = []

  abbrev pub maps_of : Env → Stmt → List Map
  maps_of env (Stmt.Map iface kind proto left arrow right pass span) =
      map_of_tree ifaces env declared.tables iface kind proto left arrow right pass ∷ []
  maps_of env _ = []

  -- what statements behind these definitions give, one behind the other
  abbrev pub gathered : {A : Type 0} → (Env → Stmt → List A) → List Definition → List Stmt → List A
  gathered give older [] = []
  gathered give older (stmt ∷ stmts) = give (env_of ifaces older) stmt ++ gathered give (behind older stmt) stmts

-- all faults of a tree
abbrev pub tree_faults : Tree → List Iface → List ConfFault
tree_faults tree ifaces = stmts_faults ifaces (declared_in tree.stmts) [] 0 tree.stmts

-- the model of a tree, which is what it means where it has no fault
abbrev pub model_of : Tree → List Iface → Model
model_of tree ifaces =
    let declared = declared_in tree.stmts in
    record {
      groups = gathered ifaces declared (named_group ifaces declared) [] tree.stmts
          ++ gathered ifaces declared (default_group ifaces declared) [] tree.stmts;
      tables = flat_map tables_of tree.stmts;
      maps = gathered ifaces declared (maps_of ifaces declared) [] tree.stmts;
      procedures = flat_map procedures_of tree.stmts;
      settings = settings_of tree.stmts;
      alg_icmp = asks_icmp tree.stmts;
    }

-- the tree has no fault, and means this model
pub record Elaborates (tree : Tree) (ifaces : List Iface) (model : Model) : Type 0 where
  pub clean : tree_faults tree ifaces ≡ []
  pub meant : model ≡ model_of tree ifaces

-- why a tree is refused: its first fault; want of memory says nothing of it
abbrev pub RefusesTree : Tree → List Iface → Refused → Type 0
RefusesTree tree ifaces (Refused.Fault fault) = IsFirstFaultOf (tree_faults tree ifaces) fault
RefusesTree tree ifaces Refused.NoMemory = Unit {0}
