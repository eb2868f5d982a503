-- The model of a tree without faults is one that can be compiled.
use Rattle.std.{proofs.Common.{◌≡◌, ◌≤◌, ◌<◌, ◌+◌, ℕ, Bool, Option, Some, None, List, [], ◌∷◌, ◌++◌, All, length, map, refl, arith}, specs.List.flat_map}
use Rattle.std.proofs.lemmas.{Grind.flat_map-append, List.Elements.{All-append, All-cons, All-nil}}
use Rattle.npf_types.specs.declared.{limits.TheConstants.MAX_LIST_ELEMENTS, span.Span.Span}
use Rattle.npf_syntax.specs.declared.{filter.Filter.Filter, group.{GroupHead.GroupHead, ItemTree.ItemTree as WrittenItem}, stmt.Stmt.Stmt}
use Rattle.npf_syntax.specs.declared.group.GroupHead.TheVariants as Head
use Rattle.npf_syntax.specs.declared.group.ItemTree.TheVariants as ItemIs
use Rattle.npf_model.specs.{declared.{group.Group.Group, iface.Iface.Iface}, Verdict.{PlacedRule, all_rules, rules_at, rules_of}}
use Rattle.npf_expand_values.specs.{Atom.Env, Declarations.{declared_in, table_names}, Variable.{Definition, env_of}}
use Rattle.npf_expand.specs.Elaborates.{behind, default_group, filter_elements, gathered, named_group, stmt_elements, stmt_faults, stmts_faults}
use Rattle.npf_expand.specs.{Group.{head_faults, item_elements, item_faults, item_of_tree, items_elements, items_faults}, Map.map_faults}
use Rattle.npf_expand.{specs.Rule.{filter_count, passing_faults, rule_faults, rule_of_tree}, proofs.CountedLemmas.within_limit}
use Rattle.npf_check.specs.Undefined.{is_table_in, tables_of_item, tables_of_stmt, tables_of_where}
use Rattle.npf_ruleset.specs.Refusal.{IsCompilable}
use Rattle.npf_config.proofs.{ElementLemmas.rule_short, NoneLemmas.{back, front}}
use Rattle.npf_config.proofs.TableNameLemmas.{AreDefined, NamesDefined, env_defined, given_is_named, rule_numbers}

-- `all` are the statements of the whole text, `stmts` those that are left
module _ (all : List Stmt) (few : length (table_names all) ≤ 64) (ifaces : List Iface) where
  abbrev is_defined : List ℕ → Bool
  is_defined = is_table_in all

  module _ (env : Env) (names : NamesDefined (table_names all) (is_table_in all) (given_is_named all) few env) where
    item_compilable : (counted : ℕ) (item : WrittenItem) → counted ≤ MAX_LIST_ELEMENTS → item_faults ifaces env (declared_in all) counted item ≡ [] → tables_of_item is_defined item ≡ []
        → All IsCompilable (rules_at (item_of_tree ifaces env (declared_in all) item))
    item_compilable counted (ItemIs.Rule rule span) within none tables =
        let count = filter_count ifaces env rule.filter in
        let passes : counted + count ≤ MAX_LIST_ELEMENTS = within_limit counted count rule.span (back (rule_faults ifaces env rule) (passing_faults counted count rule.span) none) within in
        let placed : PlacedRule = record { within_dir = None; within_on = None; rule = rule_of_tree ifaces env (declared_in all) rule } in
        All-cons IsCompilable placed []
        (record {
          lists = rule_short ifaces env (declared_in all) rule (omega arith);
          tables = rule_numbers (table_names all) (is_table_in all) (given_is_named all) few ifaces env names (declared_in all) refl rule tables;
        })
        (All-nil IsCompilable)
    item_compilable counted (ItemIs.Ruleset name dir on span) within none tables = All-nil IsCompilable

    item_within : (counted : ℕ) (item : WrittenItem) → counted ≤ MAX_LIST_ELEMENTS → item_faults ifaces env (declared_in all) counted item ≡ []
        → counted + item_elements ifaces env (declared_in all) item ≤ MAX_LIST_ELEMENTS
    item_within counted (ItemIs.Rule rule span) within none =
        let count = filter_count ifaces env rule.filter in
        within_limit counted count rule.span (back (rule_faults ifaces env rule) (passing_faults counted count rule.span) none) within
    item_within counted (ItemIs.Ruleset name dir on span) within none = omega arith

    pub items_compilable : (counted : ℕ) (items : List WrittenItem) → counted ≤ MAX_LIST_ELEMENTS →
        items_faults ifaces env (declared_in all) counted items ≡ [] → flat_map (tables_of_item is_defined) items ≡ []
        → All IsCompilable (flat_map rules_at (map (item_of_tree ifaces env (declared_in all)) items))
    items_compilable counted [] within none tables = All-nil IsCompilable
    items_compilable counted (item ∷ items) within none tables =
        let here = item_faults ifaces env (declared_in all) counted item in
        let elements = item_elements ifaces env (declared_in all) item in
        let rest = items_faults ifaces env (declared_in all) (counted + elements) items in
        let here_tables = tables_of_item is_defined item in
        let rest_tables = flat_map (tables_of_item is_defined) items in
        All-append IsCompilable (rules_at (item_of_tree ifaces env (declared_in all) item)) (flat_map rules_at (map (item_of_tree ifaces env (declared_in all)) items))
        (item_compilable counted item within (front here rest none) (front here_tables rest_tables tables))
        (items_compilable (counted + elements) items (item_within counted item within (front here rest none)) (back here rest none) (back here_tables rest_tables tables))

    pub items_within : (counted : ℕ) (items : List WrittenItem) → counted ≤ MAX_LIST_ELEMENTS → items_faults ifaces env (declared_in all) counted items ≡ []
        → counted + items_elements ifaces env (declared_in all) items ≤ MAX_LIST_ELEMENTS
    items_within counted [] within none = omega arith
    items_within counted (item ∷ items) within none =
        let here = item_faults ifaces env (declared_in all) counted item in
        let elements = item_elements ifaces env (declared_in all) item in
        let rest = items_faults ifaces env (declared_in all) (counted + elements) items in
        let after = items_within (counted + elements) items (item_within counted item within (front here rest none)) (back here rest none) in
        omega arith

    pass_within : (counted : ℕ) (pass : Option Filter) (span : Span) → counted ≤ MAX_LIST_ELEMENTS → passing_faults counted (filter_elements ifaces (declared_in all) env pass) span ≡ []
        → counted + filter_elements ifaces (declared_in all) env pass ≤ MAX_LIST_ELEMENTS
    pass_within counted pass span within none = within_limit counted (filter_elements ifaces (declared_in all) env pass) span none within

    pub stmt_within : (counted : ℕ) (stmt : Stmt) → counted ≤ MAX_LIST_ELEMENTS → stmt_faults ifaces (declared_in all) env counted stmt ≡ []
        → counted + stmt_elements ifaces (declared_in all) env stmt ≤ MAX_LIST_ELEMENTS
    stmt_within counted (Stmt.Group head items span) within none =
        items_within counted items within (back (head_faults ifaces env (declared_in all) head) (items_faults ifaces env (declared_in all) counted items) none)
    stmt_within counted (Stmt.Map iface kind proto left arrow right pass span) within none =
        pass_within counted pass span within (back (map_faults ifaces env iface proto left right pass) (passing_faults counted (filter_elements ifaces (declared_in all) env pass) span) none)
    stmt_within counted (Stmt.Define var values span) within none = omega arith
    stmt_within counted (Stmt.Set name value span) within none = omega arith
    stmt_within counted (Stmt.Alg name span) within none = omega arith
    stmt_within counted (Stmt.MapRuleset iface span) within none = omega arith
    stmt_within counted (Stmt.Table name kind file span) within none = omega arith
    stmt_within counted (Stmt.Procedure name calls span) within none = omega arith

    -- what a statement gives where its group's rules do
    abbrev pub GivesCompilable : (Env → Stmt → List Group) → Type 0
    GivesCompilable give = (counted : ℕ) (stmt : Stmt) → counted ≤ MAX_LIST_ELEMENTS → stmt_faults ifaces (declared_in all) env counted stmt ≡ [] → tables_of_stmt is_defined stmt ≡ []
        → All IsCompilable (all_rules (give env stmt))

    group_compilable : (counted : ℕ) (head : GroupHead) (items : List WrittenItem) → counted ≤ MAX_LIST_ELEMENTS
        → head_faults ifaces env (declared_in all) head ++ items_faults ifaces env (declared_in all) counted items ≡ [] → flat_map (tables_of_item is_defined) items ≡ []
        → All IsCompilable (flat_map rules_at (map (item_of_tree ifaces env (declared_in all)) items) ++ [])
    group_compilable counted head items within none tables =
        All-append IsCompilable (flat_map rules_at (map (item_of_tree ifaces env (declared_in all)) items)) []
        (items_compilable counted items within (back (head_faults ifaces env (declared_in all) head) (items_faults ifaces env (declared_in all) counted items) none) tables)
        (All-nil IsCompilable)

    pub named_compilable : GivesCompilable (named_group ifaces (declared_in all))
    named_compilable counted (Stmt.Group (Head.Named name dir layer on head) items span) within none tables = group_compilable counted (Head.Named name dir layer on head) items within none tables
    named_compilable counted (Stmt.Group (Head.Default layer head) items span) within none tables = All-nil IsCompilable
    named_compilable counted (Stmt.Define var values span) within none tables = All-nil IsCompilable
    named_compilable counted (Stmt.Set name value span) within none tables = All-nil IsCompilable
    named_compilable counted (Stmt.Alg name span) within none tables = All-nil IsCompilable
    named_compilable counted (Stmt.MapRuleset iface span) within none tables = All-nil IsCompilable
    named_compilable counted (Stmt.Table name kind file span) within none tables = All-nil IsCompilable
    named_compilable counted (Stmt.Map iface kind proto left arrow right pass span) within none tables = All-nil IsCompilable
    named_compilable counted (Stmt.Procedure name calls span) within none tables = All-nil IsCompilable

    pub default_compilable : GivesCompilable (default_group ifaces (declared_in all))
    default_compilable counted (Stmt.Group (Head.Named name dir layer on head) items span) within none tables = All-nil IsCompilable
    default_compilable counted (Stmt.Group (Head.Default layer head) items span) within none tables = group_compilable counted (Head.Default layer head) items within none tables
    default_compilable counted (Stmt.Define var values span) within none tables = All-nil IsCompilable
    default_compilable counted (Stmt.Set name value span) within none tables = All-nil IsCompilable
    default_compilable counted (Stmt.Alg name span) within none tables = All-nil IsCompilable
    default_compilable counted (Stmt.MapRuleset iface span) within none tables = All-nil IsCompilable
    default_compilable counted (Stmt.Table name kind file span) within none tables = All-nil IsCompilable
    default_compilable counted (Stmt.Map iface kind proto left arrow right pass span) within none tables = All-nil IsCompilable
    default_compilable counted (Stmt.Procedure name calls span) within none tables = All-nil IsCompilable

  behind_defined : (older : List Definition) (stmt : Stmt) → AreDefined (table_names all) (is_table_in all) (given_is_named all) few ifaces older →
      tables_of_stmt is_defined stmt ≡ [] → AreDefined (table_names all) (is_table_in all) (given_is_named all) few ifaces (behind older stmt)
  behind_defined older (Stmt.Define var values span) are none = (none, are)
  behind_defined older (Stmt.Group head items span) are none = are
  behind_defined older (Stmt.Set name value span) are none = are
  behind_defined older (Stmt.Alg name span) are none = are
  behind_defined older (Stmt.MapRuleset iface span) are none = are
  behind_defined older (Stmt.Table name kind file span) are none = are
  behind_defined older (Stmt.Map iface kind proto left arrow right pass span) are none = are
  behind_defined older (Stmt.Procedure name calls span) are none = are

  gathered_compilable : (give : Env → Stmt → List Group) → ((env : Env) (names : NamesDefined (table_names all) (is_table_in all) (given_is_named all) few env) → GivesCompilable env names give)
      → (older : List Definition) (counted : ℕ) (stmts : List Stmt) → AreDefined (table_names all) (is_table_in all) (given_is_named all) few ifaces older → counted ≤ MAX_LIST_ELEMENTS
      → stmts_faults ifaces (declared_in all) older counted stmts ≡ [] → flat_map (tables_of_stmt is_defined) stmts ≡ []
      → All IsCompilable (all_rules (gathered ifaces (declared_in all) give older stmts))
  gathered_compilable give gives older counted [] are within none tables = All-nil IsCompilable
  gathered_compilable give gives older counted (stmt ∷ stmts) are within none tables =
      let env = env_of ifaces older in
      let names = env_defined (table_names all) (is_table_in all) (given_is_named all) few ifaces older are in
      let here = stmt_faults ifaces (declared_in all) env counted stmt in
      let elements = stmt_elements ifaces (declared_in all) env stmt in
      let rest = stmts_faults ifaces (declared_in all) (behind older stmt) (counted + elements) stmts in
      let here_tables = tables_of_stmt is_defined stmt in
      let rest_tables = flat_map (tables_of_stmt is_defined) stmts in
      let more = gathered ifaces (declared_in all) give (behind older stmt) stmts in
      rw (flat_map-append rules_of (give env stmt) more)
      (All-append IsCompilable (all_rules (give env stmt)) (all_rules more)
      (gives env names counted stmt within (front here rest none) (front here_tables rest_tables tables))
      (gathered_compilable give gives (behind older stmt) (counted + elements) stmts
      (behind_defined older stmt are (front here_tables rest_tables tables))
      (stmt_within env names counted stmt within (front here rest none)) (back here rest none) (back here_tables rest_tables tables)))

  pub groups_compilable : stmts_faults ifaces (declared_in all) [] 0 all ≡ [] → flat_map (tables_of_stmt is_defined) all ≡ []
      → All IsCompilable (all_rules (gathered ifaces (declared_in all) (named_group ifaces (declared_in all)) [] all
      ++ gathered ifaces (declared_in all) (default_group ifaces (declared_in all)) [] all))
  groups_compilable none tables =
      let named = gathered ifaces (declared_in all) (named_group ifaces (declared_in all)) [] all in
      let default = gathered ifaces (declared_in all) (default_group ifaces (declared_in all)) [] all in
      rw (flat_map-append rules_of named default)
      (All-append IsCompilable (all_rules named) (all_rules default)
      (gathered_compilable (named_group ifaces (declared_in all)) named_compilable [] 0 all tt (omega arith) none tables)
      (gathered_compilable (default_group ifaces (declared_in all)) default_compilable [] 0 all tt (omega arith) none tables))
