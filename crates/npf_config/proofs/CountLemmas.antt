-- How many rules, maps and tables a tree's model has, and where its rules stand.
use Rattle.std.{proofs.Common.{◌≡◌, ◌≤◌, ◌+◌, ℕ, Option, List, [], ◌∷◌, ◌++◌, length, map, refl, ap, ◌∙◌, append-nil, arith}, specs.List.flat_map}
use Rattle.std.proofs.lemmas.{Grind.flat_map-append, List.length-append, Option.slice_get_cases}
use Rattle.npf_types.specs.declared.span.Span.{Span}
use Rattle.npf_faults.specs.declared.fault.Excess.{Excess}
use Rattle.npf_faults.specs.declared.fault.Excess.TheVariants as Of
use Rattle.npf_syntax.specs.declared.group.GroupHead.TheVariants as Head
use Rattle.npf_syntax.specs.declared.{group.ItemTree.ItemTree as WrittenItem, stmt.Stmt.Stmt}
use Rattle.npf_syntax.specs.declared.group.ItemTree.TheVariants as ItemIs
use Rattle.npf_model.specs.{declared.{group.Group.Group, iface.Iface.Iface}, Verdict.{all_rules, rules_at, rules_of}}
use Rattle.npf_expand_values.specs.{Atom.Env, Declarations.{Declared, table_name, table_names}, Variable.{Definition, env_of}}
use Rattle.npf_expand.specs.{Elaborates.{behind, default_group, gathered, maps_of, named_group, procedures_of}, Group.item_of_tree}
use Rattle.npf_check.{specs.Limit.{limited_places, past_faults, rule_place}, proofs.LimitLemmas.within_by}
use Rattle.npf_config.specs.RulePlaces.{default_rule_places, inspected_places, named_rule_places}

module _ (ifaces : List Iface) (declared : Declared) where
  items_placed : (env : Env) (items : List WrittenItem) → length (flat_map rules_at (map (item_of_tree ifaces env declared) items)) ≡ length (flat_map rule_place items)
  items_placed env [] = refl
  items_placed env (ItemIs.Rule rule span ∷ items) = let rest = items_placed env items in omega arith
  items_placed env (ItemIs.Ruleset name dir on span ∷ items) = items_placed env items

  group_placed : (env : Env) (items : List WrittenItem) → length (flat_map rules_at (map (item_of_tree ifaces env declared) items) ++ []) ≡ length (flat_map rule_place items)
  group_placed env items = ap length (append-nil (flat_map rules_at (map (item_of_tree ifaces env declared) items))) ∙ items_placed env items

  named_placed : (env : Env) (stmt : Stmt) → length (all_rules (named_group ifaces declared env stmt)) ≡ length (named_rule_places stmt)
  named_placed env (Stmt.Group (Head.Named name dir layer on head) items span) = group_placed env items
  named_placed env (Stmt.Group (Head.Default layer head) items span) = refl
  named_placed env (Stmt.Define var values span) = refl
  named_placed env (Stmt.Set name value span) = refl
  named_placed env (Stmt.Alg name span) = refl
  named_placed env (Stmt.MapRuleset iface span) = refl
  named_placed env (Stmt.Table name kind file span) = refl
  named_placed env (Stmt.Map iface kind proto left arrow right pass span) = refl
  named_placed env (Stmt.Procedure name calls span) = refl

  default_placed : (env : Env) (stmt : Stmt) → length (all_rules (default_group ifaces declared env stmt)) ≡ length (default_rule_places stmt)
  default_placed env (Stmt.Group (Head.Named name dir layer on head) items span) = refl
  default_placed env (Stmt.Group (Head.Default layer head) items span) = group_placed env items
  default_placed env (Stmt.Define var values span) = refl
  default_placed env (Stmt.Set name value span) = refl
  default_placed env (Stmt.Alg name span) = refl
  default_placed env (Stmt.MapRuleset iface span) = refl
  default_placed env (Stmt.Table name kind file span) = refl
  default_placed env (Stmt.Map iface kind proto left arrow right pass span) = refl
  default_placed env (Stmt.Procedure name calls span) = refl

  gathered_placed : (give : Env → Stmt → List Group) (places : Stmt → List Span) → ((env : Env) (stmt : Stmt) → length (all_rules (give env stmt)) ≡ length (places stmt))
      → (older : List Definition) (stmts : List Stmt) → length (all_rules (gathered ifaces declared give older stmts)) ≡ length (flat_map places stmts)
  gathered_placed give places each older [] = refl
  gathered_placed give places each older (stmt ∷ stmts) =
      let env = env_of ifaces older in
      let more = gathered ifaces declared give (behind older stmt) stmts in
      let here = each env stmt in
      let rest = gathered_placed give places each (behind older stmt) stmts in
      let rules = ap length (flat_map-append rules_of (give env stmt) more) ∙ length-append (all_rules (give env stmt)) (all_rules more) in
      let spans = length-append (places stmt) (flat_map places stmts) in
      omega (arith, rules, spans, here, rest)

  -- each rule of the model has a place, in the order of inspection
  pub rules_placed : (stmts : List Stmt) → length (inspected_places stmts)
      ≡ length (all_rules (gathered ifaces declared (named_group ifaces declared) [] stmts ++ gathered ifaces declared (default_group ifaces declared) [] stmts))
  rules_placed stmts =
      let named = gathered ifaces declared (named_group ifaces declared) [] stmts in
      let default = gathered ifaces declared (default_group ifaces declared) [] stmts in
      let of_named = gathered_placed (named_group ifaces declared) named_rule_places named_placed [] stmts in
      let of_default = gathered_placed (default_group ifaces declared) default_rule_places default_placed [] stmts in
      let rules = ap length (flat_map-append rules_of named default) ∙ length-append (all_rules named) (all_rules default) in
      let spans = length-append (flat_map named_rule_places stmts) (flat_map default_rule_places stmts) in
      omega (arith, rules, spans, of_named, of_default)

  one_map : (env : Env) (stmt : Stmt) → length (maps_of ifaces declared env stmt) ≡ length (limited_places Of.Maps stmt)
  one_map env (Stmt.Map iface kind proto left arrow right pass span) = refl
  one_map env (Stmt.Group head items span) = refl
  one_map env (Stmt.Define var values span) = refl
  one_map env (Stmt.Set name value span) = refl
  one_map env (Stmt.Alg name span) = refl
  one_map env (Stmt.MapRuleset iface span) = refl
  one_map env (Stmt.Table name kind file span) = refl
  one_map env (Stmt.Procedure name calls span) = refl

  pub maps_placed : (older : List Definition) (stmts : List Stmt) → length (gathered ifaces declared (maps_of ifaces declared) older stmts) ≡ length (flat_map (limited_places Of.Maps) stmts)
  maps_placed older [] = refl
  maps_placed older (stmt ∷ stmts) =
      let env = env_of ifaces older in
      let here = one_map env stmt in
      let rest = maps_placed (behind older stmt) stmts in
      let maps = length-append (maps_of ifaces declared env stmt) (gathered ifaces declared (maps_of ifaces declared) (behind older stmt) stmts) in
      let spans = length-append (limited_places Of.Maps stmt) (flat_map (limited_places Of.Maps) stmts) in
      omega (arith, here, rest, maps, spans)

-- a statement's rules are inspected with its group
stmt_places : (stmt : Stmt) → length (named_rule_places stmt) + length (default_rule_places stmt) ≡ length (limited_places Of.Rules stmt)
stmt_places (Stmt.Group (Head.Named name dir layer on head) items span) = omega arith
stmt_places (Stmt.Group (Head.Default layer head) items span) = omega arith
stmt_places (Stmt.Define var values span) = refl
stmt_places (Stmt.Set name value span) = refl
stmt_places (Stmt.Alg name span) = refl
stmt_places (Stmt.MapRuleset iface span) = refl
stmt_places (Stmt.Table name kind file span) = refl
stmt_places (Stmt.Map iface kind proto left arrow right pass span) = refl
stmt_places (Stmt.Procedure name calls span) = refl

both_places : (stmts : List Stmt) → length (flat_map named_rule_places stmts) + length (flat_map default_rule_places stmts) ≡ length (flat_map (limited_places Of.Rules) stmts)
both_places [] = refl
both_places (stmt ∷ stmts) =
    let here = stmt_places stmt in
    let rest = both_places stmts in
    let named = length-append (named_rule_places stmt) (flat_map named_rule_places stmts) in
    let default = length-append (default_rule_places stmt) (flat_map default_rule_places stmts) in
    let limited = length-append (limited_places Of.Rules stmt) (flat_map (limited_places Of.Rules) stmts) in
    omega (arith, here, rest, named, default, limited)

pub inspected_limited : (stmts : List Stmt) → length (inspected_places stmts) ≡ length (flat_map (limited_places Of.Rules) stmts)
inspected_limited stmts = length-append (flat_map named_rule_places stmts) (flat_map default_rule_places stmts) ∙ both_places stmts

one_table : (stmt : Stmt) → length (table_name stmt) ≡ length (limited_places Of.Tables stmt)
one_table (Stmt.Table name kind file span) = refl
one_table (Stmt.Group head items span) = refl
one_table (Stmt.Define var values span) = refl
one_table (Stmt.Set name value span) = refl
one_table (Stmt.Alg name span) = refl
one_table (Stmt.MapRuleset iface span) = refl
one_table (Stmt.Map iface kind proto left arrow right pass span) = refl
one_table (Stmt.Procedure name calls span) = refl

pub tables_limited : (stmts : List Stmt) → length (table_names stmts) ≡ length (flat_map (limited_places Of.Tables) stmts)
tables_limited [] = refl
tables_limited (stmt ∷ stmts) =
    let here = one_table stmt in
    let rest = tables_limited stmts in
    let names = length-append (table_name stmt) (table_names stmts) in
    let spans = length-append (limited_places Of.Tables stmt) (flat_map (limited_places Of.Tables) stmts) in
    omega (arith, here, rest, names, spans)

one_procedure : (stmt : Stmt) → length (procedures_of stmt) ≡ length (limited_places Of.Procedures stmt)
one_procedure (Stmt.Procedure name calls span) = refl
one_procedure (Stmt.Table name kind file span) = refl
one_procedure (Stmt.Group head items span) = refl
one_procedure (Stmt.Define var values span) = refl
one_procedure (Stmt.Set name value span) = refl
one_procedure (Stmt.Alg name span) = refl
one_procedure (Stmt.MapRuleset iface span) = refl
one_procedure (Stmt.Map iface kind proto left arrow right pass span) = refl

pub procedures_limited : (stmts : List Stmt) → length (flat_map procedures_of stmts) ≡ length (flat_map (limited_places Of.Procedures) stmts)
procedures_limited [] = refl
procedures_limited (stmt ∷ stmts) =
    let here = one_procedure stmt in
    let rest = procedures_limited stmts in
    let procedures = length-append (procedures_of stmt) (flat_map procedures_of stmts) in
    let spans = length-append (limited_places Of.Procedures stmt) (flat_map (limited_places Of.Procedures) stmts) in
    omega (arith, here, rest, procedures, spans)

-- a kind of which none is past the limit has no more than it
pub within_places : (quantity : Excess) (most : ℕ) (stmts : List Stmt) → past_faults quantity most stmts ≡ [] → length (flat_map (limited_places quantity) stmts) ≤ most
within_places quantity most stmts none =
    let spans = flat_map (limited_places quantity) stmts in
    within_by quantity most spans none (slice_get_cases spans most).1
