use Rattle.std.proofs.Common.{◌++◌}
use Rattle.npf_check.{specs.{LoneRule.{unknown_applied, unknown_in_where}, Unbuilt.unbuilt_in_rule, WrittenRule.faults_of_rule}, proofs.FaultLemmas.joined}
use Rattle.npf_check.proofs.lone_rule.lone_fault.Goals as goal

pub returns : goal.returns
returns c =
    let tree = c.args.tree.now in
    let rule = c.args.rule.now in
    let of_tables = unknown_in_where tree.filter.ends rule in
    let of_procedure = unknown_applied tree.apply rule.procedure in
    let unknown = joined of_tables of_procedure _ _ _ c.unknown_in_where-table.ensures c.unknown_applied-procedure.ensures c.earlier-unknown.ensures in
    let known = joined (of_tables ++ of_procedure) (faults_of_rule tree.span rule) _ _ _ unknown c.rule_fault.ensures c.earlier-known.ensures in
    joined (of_tables ++ of_procedure ++ faults_of_rule tree.span rule) (unbuilt_in_rule tree) _ _ _ known c.unbuilt_in_rule.ensures c.earlier.ensures
