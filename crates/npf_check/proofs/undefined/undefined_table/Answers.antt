use Rattle.std.{proofs.Common.{ap, ◌∙◌}, specs.List.flat_map}
use mathlib.Core.Path.{fun_ext}
use Rattle.npf_faults.specs.First.{first_fault}
use Rattle.npf_check.specs.declared.name.NameKind.TheVariants as Names
use Rattle.npf_check.specs.{Name.is_given, Undefined.tables_of_stmt}
use Rattle.npf_check.proofs.undefined.undefined_table.Goals as goal

pub returns : goal.returns
returns c =
    c.table_in_stmts.ensures
    ∙ ap (λ known. first_fault (flat_map (tables_of_stmt known) c.as_slice-stmts.result.now)) (fun_ext c.in_ok-tables.ensures)
    ∙ ap (λ stmts. first_fault (flat_map (tables_of_stmt (is_given Names.Table stmts)) stmts)) c.as_slice-stmts.ensures
