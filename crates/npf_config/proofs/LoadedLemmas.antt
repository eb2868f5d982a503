-- What is loaded can be changed: it has few tables, and each of its rulesets gives the number 1 next.
use Rattle.std.proofs.Common.{◌≡◌, ◌≤◌, ℕ, Option, List, [], ◌∷◌, ◌++◌, All, get_or, length, map, refl, sym, ap, subst, ◌∙◌, arith}
use Rattle.std.{specs.{Global.{Global, Vec}, List.flat_map, Arc.arc_value, declared.sync.Arc.Arc}, proofs.lemmas.List.{length-append, length-map}}
use Rattle.std.proofs.lemmas.List.Elements.{All-append, All-cons, All-map, All-nil, All-weaker}
use Rattle.npf_types.specs.declared.limits.TheConstants.{MAX_TABLES, MAX_TABLE_ENTRIES}
use Rattle.npf_syntax.specs.declared.group.GroupHead.TheVariants as Head
use Rattle.npf_syntax.specs.declared.{group.ItemTree.ItemTree as WrittenItem, stmt.{Stmt.Stmt, Tree.Tree}}
use Rattle.npf_syntax.specs.declared.group.ItemTree.TheVariants as ItemIs
use Rattle.npf_model.specs.declared.{group.{Group.Group, Item.{Item, TheVariants.{One, Dynamic}}}, iface.Iface.Iface, model.Model.Model}
use Rattle.npf_model.specs.declared.table.TableDecl.{TableDecl}
use Rattle.npf_expand_values.specs.{Atom.Env, Declarations.{Declared, declared_in, table_name, table_names}, Variable.{Definition, env_of}}
use Rattle.npf_expand.specs.{Elaborates.{behind, default_group, gathered, model_of, named_group}, Group.{group_of_tree, item_of_tree}, Table.tables_of}
use Rattle.npf_ruleset.specs.{declared.config.Config.Config, Refusal.HasTables, Tables.entries}
use Rattle.npf_table.specs.{declared.table.Table.Table, Table.kind_of}
use Rattle.npf_outside.specs.Files.{Tree as FileTree}
use Rattle.npf_config.specs.{Loaded.{HasNextIds, IsLoaded, IsNextWithin}, Tables.{AreFirstTables, HaveKinds, entry_count}, Text.Means}
use Rattle.npf_config.proofs.BuildableLemmas.{few_tables, limits_kept}

abbrev GroupWithin : ℕ → Group → Type 0
GroupWithin most group = All (IsNextWithin most) group.items

module _ (ifaces : List Iface) (declared : Declared) where
  abbrev HaveFirstIds : List Group → Type 0
  HaveFirstIds groups = All (GroupWithin 1) groups

  item_first : (env : Env) (item : WrittenItem) → IsNextWithin 1 (item_of_tree ifaces env declared item)
  item_first env (ItemIs.Rule rule span) = tt
  item_first env (ItemIs.Ruleset name dir on span) = omega arith

  items_first : (env : Env) (items : List WrittenItem) → All (IsNextWithin 1) (map (item_of_tree ifaces env declared) items)
  items_first env items = All-map (IsNextWithin 1) (item_of_tree ifaces env declared) items (λ k d below. item_first env (get_or items k d))

  named_first : (env : Env) (stmt : Stmt) → HaveFirstIds (named_group ifaces declared env stmt)
  named_first env (Stmt.Group (Head.Named name dir layer on head) items span) =
      All-cons (GroupWithin 1) (group_of_tree ifaces env declared (Head.Named name dir layer on head) items) [] (items_first env items) (All-nil (GroupWithin 1))
  named_first env (Stmt.Group (Head.Default layer head) items span) = All-nil (GroupWithin 1)
  named_first env (Stmt.Define var values span) = All-nil (GroupWithin 1)
  named_first env (Stmt.Set name value span) = All-nil (GroupWithin 1)
  named_first env (Stmt.Alg name span) = All-nil (GroupWithin 1)
  named_first env (Stmt.MapRuleset iface span) = All-nil (GroupWithin 1)
  named_first env (Stmt.Table name kind file span) = All-nil (GroupWithin 1)
  named_first env (Stmt.Map iface kind proto left arrow right pass span) = All-nil (GroupWithin 1)
  named_first env (Stmt.Procedure name calls span) = All-nil (GroupWithin 1)

  default_first : (env : Env) (stmt : Stmt) → HaveFirstIds (default_group ifaces declared env stmt)
  default_first env (Stmt.Group (Head.Default layer head) items span) =
      All-cons (GroupWithin 1) (group_of_tree ifaces env declared (Head.Default layer head) items) [] (items_first env items) (All-nil (GroupWithin 1))
  default_first env (Stmt.Group (Head.Named name dir layer on head) items span) = All-nil (GroupWithin 1)
  default_first env (Stmt.Define var values span) = All-nil (GroupWithin 1)
  default_first env (Stmt.Set name value span) = All-nil (GroupWithin 1)
  default_first env (Stmt.Alg name span) = All-nil (GroupWithin 1)
  default_first env (Stmt.MapRuleset iface span) = All-nil (GroupWithin 1)
  default_first env (Stmt.Table name kind file span) = All-nil (GroupWithin 1)
  default_first env (Stmt.Map iface kind proto left arrow right pass span) = All-nil (GroupWithin 1)
  default_first env (Stmt.Procedure name calls span) = All-nil (GroupWithin 1)

  gathered_first : (give : Env → Stmt → List Group) → ((env : Env) (stmt : Stmt) → HaveFirstIds (give env stmt)) → (older : List Definition) (stmts : List Stmt)
      → HaveFirstIds (gathered ifaces declared give older stmts)
  gathered_first give each older [] = All-nil (GroupWithin 1)
  gathered_first give each older (stmt ∷ stmts) =
      All-append (GroupWithin 1) (give (env_of ifaces older) stmt) (gathered ifaces declared give (behind older stmt) stmts)
      (each (env_of ifaces older) stmt) (gathered_first give each (behind older stmt) stmts)

one_declared : (stmt : Stmt) → length (tables_of stmt) ≡ length (table_name stmt)
one_declared (Stmt.Table name kind file span) = refl
one_declared (Stmt.Group head items span) = refl
one_declared (Stmt.Define var values span) = refl
one_declared (Stmt.Set name value span) = refl
one_declared (Stmt.Alg name span) = refl
one_declared (Stmt.MapRuleset iface span) = refl
one_declared (Stmt.Map iface kind proto left arrow right pass span) = refl
one_declared (Stmt.Procedure name calls span) = refl

all_declared : (stmts : List Stmt) → length (flat_map tables_of stmts) ≡ length (table_names stmts)
all_declared [] = refl
all_declared (stmt ∷ stmts) =
    let here = one_declared stmt in
    let rest = all_declared stmts in
    let tables = length-append (tables_of stmt) (flat_map tables_of stmts) in
    let names = length-append (table_name stmt) (table_names stmts) in
    omega (arith, here, rest, tables, names)

-- each ruleset of a text gives the number 1 next
pub first_ids : (ifaces : List Iface) (text : List ℕ) (tree : Tree) (model : Model) → Means ifaces text tree model → HasNextIds 1 model
first_ids ifaces text tree model means =
    let declared = declared_in tree.stmts in
    let named = gathered ifaces declared (named_group ifaces declared) [] tree.stmts in
    let default = gathered ifaces declared (default_group ifaces declared) [] tree.stmts in
    subst (HasNextIds 1) (sym means.elaborated.meant)
    (All-append (GroupWithin 1) named default (gathered_first ifaces declared (named_group ifaces declared) (named_first ifaces declared) [] tree.stmts)
    (gathered_first ifaces declared (default_group ifaces declared) (default_first ifaces declared) [] tree.stmts))

-- where the next numbers are at most one number they are at most a greater one
pub more_ids : (one most : ℕ) → one ≤ most → (model : Model) → HasNextIds one model → HasNextIds most model
more_ids one most less model within =
    All-weaker (GroupWithin one) (GroupWithin most) (λ (group : Group) items. All-weaker (IsNextWithin one) (IsNextWithin most) next_within group.items items) model.groups within
  where
    next_within : (item : Item) → IsNextWithin one item → IsNextWithin most item
    next_within (One rule) next = tt
    next_within (Dynamic name dir on next_id rules) next = omega (arith, next)

few_declared : (ifaces : List Iface) (text : List ℕ) (tree : Tree) (model : Model) → Means ifaces text tree model → length model.tables ≤ MAX_TABLES
few_declared ifaces text tree model means =
    let few = few_tables tree (limits_kept tree model means.checked) in
    let all = all_declared tree.stmts in
    subst (λ (m : Model). length m.tables ≤ MAX_TABLES) (sym means.elaborated.meant) (omega arith)

-- there are as many tables as a text declares, and few
pub has_tables : (ifaces : List Iface) (text : List ℕ) (tree : Tree) (model : Model) → Means ifaces text tree model → {Z : Type 0} (decls : List TableDecl) → decls ≡ model.tables
    → (tables : List (Arc Table Z)) → HaveKinds decls tables → HasTables model tables
has_tables ifaces text tree model means decls are tables kinds = record {
  declared = sym (length-map (map arc_value tables) kind_of ∙ length-map tables arc_value) ∙ ap length kinds ∙ length-map decls (λ (decl : TableDecl). decl.kind) ∙ ap length are;
  few = few_declared ifaces text tree model means;
}

module _ (ifaces : List Iface) (text : List ℕ) (contents : Option FileTree) (tree : Tree) (model : Model) (means : Means ifaces text tree model)
    (decls : List TableDecl) (are : decls ≡ model.tables) (tables : Vec (Arc Table Global))
    (first : AreFirstTables contents decls (entries tables.items)) (kinds : HaveKinds decls tables.items) where
  pub is_loaded : (config : Config) → config.model ≡ model → config.tables ≡ tables → IsLoaded config
  is_loaded config of_model with_tables = record {
    kinds = subst (HaveKinds config.model.tables) (ap (λ (v : Vec (Arc Table Global)). v.items) (sym with_tables))
        (subst (λ (all : List TableDecl). HaveKinds all tables.items) (are ∙ ap (λ (m : Model). m.tables) (sym of_model)) kinds);
    few = subst (λ (v : Vec (Arc Table Global)). entry_count (entries v.items) ≤ MAX_TABLE_ENTRIES) (sym with_tables) first.few;
  }
