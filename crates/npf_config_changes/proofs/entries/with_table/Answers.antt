use Rattle.std.{proofs.{Common.{length, map, set, sym, ap, ◌∙◌}, lemmas.{List.{length-map, length-set, map-set}, Result.IfOk-weaker}}, specs.Arc.arc_value}
use Rattle.npf_config_changes.proofs.entries.with_table.Goals as goal

pub returns-clause-tables : goal.returns-clause-tables
returns-clause-tables c =
    let old = map arc_value c.args.config.now.tables.items in
    IfOk-weaker c.with_tables.result _ _ (λ next is.
    ap (λ tables. map arc_value tables.items) is ∙ map-set arc_value c.in_ok-tables.tables.items c.args.at c.in_ok-tables-2.field-0
    ∙ ap (λ all. set all c.args.at (arc_value c.in_ok-tables-2.field-0)) (c.in_ok-tables.ensures ∙ ap (map arc_value) c.tables.ensures)
    ∙ ap (set old c.args.at) c.in_ok-tables-2.ensures.ok) c.with_tables.ensures.tables

pub with_tables-requires : goal.with_tables-requires
with_tables-requires c =
    let old = c.in_ok-tables.tables.items in
    length-set old c.args.at c.in_ok-tables-2.field-0 ∙ sym (length-map old arc_value) ∙ ap length (c.in_ok-tables.ensures ∙ ap (map arc_value) c.tables.ensures)
    ∙ length-map c.args.config.now.tables.items arc_value
