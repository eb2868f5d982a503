use Rattle.std.proofs.Common.{◌++◌, [], ap, ap₂, ◌∙◌}
use Rattle.npf_ctl_lint.specs.RuleLine.{rule_counts_line, finding_lines}
use Rattle.npf_ctl_lint.specs.GroupLine.{dead_group_lines}
use Rattle.npf_ctl_lint.specs.TableLine.{idle_table_lines}
use Rattle.npf_ctl_lint.specs.ProcedureLine.{unused_procedure_lines}
use Rattle.npf_ctl_lint.proofs.TextLemmas.{then_rest}
use Rattle.npf_ctl_lint.proofs.text.findings_text.Goals as goal

pub returns : goal.returns
returns c =
    let model = c.args.model.now in
    let findings = c.args.findings.now in
    let rules = finding_lines 0 findings.rules.items in
    let groups = dead_group_lines model.groups findings.groups.items in
    let tables = idle_table_lines model.tables findings.tables.items in
    let procedures = unused_procedure_lines model.procedures findings.procedures.items in
    let counts = rule_counts_line findings.rules.items in
    then_rest [] rules (groups ++ (tables ++ (procedures ++ counts)))
    (c.in_ok-write_rules.ensures ∙ ap₂ (λ text all. text ++ finding_lines 0 all) c.new-text.ensures.items c.as_slice.ensures.value)
    (then_rest _ groups (tables ++ (procedures ++ counts))
    (c.in_ok-write_groups.ensures ∙ ap₂ (λ all found. c.write_rules.new.into.items ++ dead_group_lines all found) c.as_slice-2.ensures c.as_slice-3.ensures.value)
    (then_rest _ tables (procedures ++ counts)
    (c.in_ok-write_tables.ensures ∙ ap₂ (λ all found. c.write_groups.new.into.items ++ idle_table_lines all found) c.as_slice-4.ensures c.as_slice-5.ensures.value)
    (then_rest _ procedures counts
    (c.in_ok-write_procedures.ensures
    ∙ ap₂ (λ all used. c.write_tables.new.into.items ++ unused_procedure_lines all used) c.as_slice-6.ensures c.as_slice-7.ensures.value)
    (c.in_ok-write_counts.ensures ∙ ap (λ all. c.write_procedures.new.into.items ++ rule_counts_line all) c.as_slice-8.ensures.value))))
