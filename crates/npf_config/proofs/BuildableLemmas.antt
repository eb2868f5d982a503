-- What a text means can be built: it has few rules, maps, tables and procedures, and each rule can be compiled.
use Rattle.std.{proofs.Common.{◌≡◌, ◌≤◌, ℕ, List, [], ◌++◌, All, length, refl, sym, ap, subst, ◌∙◌, arith}, specs.List.flat_map}
use Rattle.npf_types.specs.declared.limits.TheConstants.{MAX_MAPS, MAX_PROCEDURES, MAX_RULES, MAX_TABLES}
use Rattle.npf_faults.specs.declared.fault.ConfFault.{ConfFault}
use Rattle.npf_faults.specs.declared.fault.Excess.TheVariants as Of
use Rattle.npf_syntax.specs.declared.stmt.{Stmt.Stmt, Tree.Tree}
use Rattle.npf_model.specs.{declared.{iface.Iface.Iface, model.Model.Model}, Verdict.all_rules}
use Rattle.npf_expand_values.specs.Declarations.{declared_in, table_names}
use Rattle.npf_expand.specs.{Elaborates.model_of, Table.tables_of}
use Rattle.npf_check.specs.{Default.default_faults, Duplicate.duplicate_faults, Fault.check_faults, Limit.{limit_faults, past_faults}, Map.bad_map_faults}
use Rattle.npf_check.specs.{Unbuilt.unbuilt_faults, Undefined.{undefined_procedure_faults, undefined_table_faults}, WrittenRule.faults_of_rules}
use Rattle.npf_ruleset.specs.Refusal.{IsBuildable}
use Rattle.npf_config.specs.{RulePlaces.inspected_places, Tables.HasTextName, Text.Means}
use Rattle.npf_config.proofs.CountLemmas.{inspected_limited, maps_placed, procedures_limited, rules_placed, tables_limited, within_places}
use Rattle.npf_config.proofs.{ModelLemmas.groups_compilable, NoneLemmas.{back, front}, TextNameLemmas.tree_text}

module _ (tree : Tree) (model : Model) (none : check_faults tree model ≡ []) where
  -- the faults in front of the last kinds, one kind after another
  abbrev to_tables : List ConfFault
  to_tables = default_faults tree ++ undefined_table_faults tree

  abbrev to_procedures : List ConfFault
  to_procedures = to_tables ++ undefined_procedure_faults tree

  abbrev to_rules : List ConfFault
  to_rules = to_procedures ++ faults_of_rules tree model

  abbrev to_duplicates : List ConfFault
  to_duplicates = to_rules ++ duplicate_faults tree

  abbrev to_maps : List ConfFault
  to_maps = to_duplicates ++ bad_map_faults tree model

  abbrev to_unbuilt : List ConfFault
  to_unbuilt = to_maps ++ unbuilt_faults tree

  pub limits_kept : limit_faults tree ≡ []
  limits_kept = back to_unbuilt (limit_faults tree) none

  pub tables_defined : undefined_table_faults tree ≡ []
  tables_defined = back (default_faults tree) (undefined_table_faults tree)
      (front to_tables (undefined_procedure_faults tree) (front to_procedures (faults_of_rules tree model) (front to_rules (duplicate_faults tree)
      (front to_duplicates (bad_map_faults tree model) (front to_maps (unbuilt_faults tree) (front to_unbuilt (limit_faults tree) none))))))

module _ (tree : Tree) (none : limit_faults tree ≡ []) where
  abbrev past_rules : List ConfFault
  past_rules = past_faults Of.Rules MAX_RULES tree.stmts

  abbrev past_tables : List ConfFault
  past_tables = past_faults Of.Tables MAX_TABLES tree.stmts

  abbrev past_maps : List ConfFault
  past_maps = past_faults Of.Maps MAX_MAPS tree.stmts

  abbrev past_procedures : List ConfFault
  past_procedures = past_faults Of.Procedures MAX_PROCEDURES tree.stmts

  but_procedures : past_rules ++ past_tables ++ past_maps ≡ []
  but_procedures = front (past_rules ++ past_tables ++ past_maps) past_procedures none

  pub few_rules : length (inspected_places tree.stmts) ≤ MAX_RULES
  few_rules =
      let few = within_places Of.Rules MAX_RULES tree.stmts (front past_rules past_tables (front (past_rules ++ past_tables) past_maps but_procedures)) in
      let same = inspected_limited tree.stmts in
      omega arith

  pub few_tables : length (table_names tree.stmts) ≤ MAX_TABLES
  few_tables =
      let few = within_places Of.Tables MAX_TABLES tree.stmts (back past_rules past_tables (front (past_rules ++ past_tables) past_maps but_procedures)) in
      let same = tables_limited tree.stmts in
      omega arith

  pub few_maps : (ifaces : List Iface) → length ((model_of tree ifaces).maps) ≤ MAX_MAPS
  few_maps ifaces =
      let few = within_places Of.Maps MAX_MAPS tree.stmts (back (past_rules ++ past_tables) past_maps but_procedures) in
      let same = maps_placed ifaces (declared_in tree.stmts) [] tree.stmts in
      omega arith

  pub few_procedures : (ifaces : List Iface) → length ((model_of tree ifaces).procedures) ≤ MAX_PROCEDURES
  few_procedures ifaces =
      let few = within_places Of.Procedures MAX_PROCEDURES tree.stmts (back (past_rules ++ past_tables ++ past_maps) past_procedures none) in
      let same = procedures_limited tree.stmts in
      omega arith

module _ (ifaces : List Iface) (text : List ℕ) (tree : Tree) (model : Model) (means : Means ifaces text tree model) where
  -- each rule of the model has a place in the text
  pub places : length (inspected_places tree.stmts) ≡ length (all_rules model.groups)
  places = rules_placed ifaces (declared_in tree.stmts) tree.stmts ∙ ap (λ (m : Model). length (all_rules m.groups)) (sym means.elaborated.meant)

  meant_buildable : IsBuildable (model_of tree ifaces)
  meant_buildable =
      let kept = limits_kept tree model means.checked in
      let rules = rules_placed ifaces (declared_in tree.stmts) tree.stmts in
      let few = few_rules tree kept in
      record {
        rules = omega arith;
        maps = few_maps tree kept ifaces;
        compilable = groups_compilable tree.stmts (few_tables tree kept) ifaces means.elaborated.clean (tables_defined tree model means.checked);
      }

  pub buildable : IsBuildable model
  buildable = subst IsBuildable (sym means.elaborated.meant) meant_buildable

  -- the files of the model's tables are named by text
  pub text_names : All HasTextName model.tables
  text_names = subst (λ (m : Model). All HasTextName m.tables) (sym means.elaborated.meant) (tree_text tree means.written.parsed)

  pub procedures_few : length model.procedures ≤ MAX_PROCEDURES
  procedures_few = subst (λ (m : Model). length m.procedures ≤ MAX_PROCEDURES) (sym means.elaborated.meant) (few_procedures tree (limits_kept tree model means.checked) ifaces)
