use Rattle.std.proofs.Common.{◌++◌}
use Rattle.npf_check.specs.{Default.default_faults, Duplicate.duplicate_faults, Limit.limit_faults, Map.bad_map_faults, Unbuilt.unbuilt_faults}
use Rattle.npf_check.{specs.{Undefined.{undefined_table_faults, undefined_procedure_faults}, WrittenRule.faults_of_rules}, proofs.FaultLemmas.joined}
use Rattle.npf_check.proofs.fault.check_fault.Goals as goal

pub returns : goal.returns
returns c =
    let tree = c.args.tree.now in
    let model = c.args.model.now in
    let to_tables = default_faults tree ++ undefined_table_faults tree in
    let to_procedures = to_tables ++ undefined_procedure_faults tree in
    let to_rules = to_procedures ++ faults_of_rules tree model in
    let to_names = to_rules ++ duplicate_faults tree in
    let to_maps = to_names ++ bad_map_faults tree model in
    let to_unbuilt = to_maps ++ unbuilt_faults tree in
    let tables = joined (default_faults tree) (undefined_table_faults tree) _ _ _ c.default_fault-default.ensures c.in_ok-table.ensures c.earlier.ensures in
    let procedures = joined to_tables (undefined_procedure_faults tree) _ _ _ tables c.in_ok-procedure.ensures c.earlier-undefined.ensures in
    let rules = joined to_procedures (faults_of_rules tree model) _ _ _ procedures c.rules_fault-rule.ensures c.earlier-2.ensures in
    let names = joined to_rules (duplicate_faults tree) _ _ _ rules c.in_ok-duplicate.ensures c.earlier-named.ensures in
    let maps = joined to_names (bad_map_faults tree model) _ _ _ names c.in_ok-map.ensures c.earlier-3.ensures in
    let unbuilt = joined to_maps (unbuilt_faults tree) _ _ _ maps c.unbuilt_fault-unbuilt.ensures c.earlier-4.ensures in
    joined to_unbuilt (limit_faults tree) _ _ _ unbuilt c.limit_fault-limit.ensures c.earlier-5.ensures
