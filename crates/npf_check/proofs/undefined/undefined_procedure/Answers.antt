use Rattle.std.{proofs.Common.{ap, ◌∙◌}, specs.List.flat_map}
use mathlib.Core.Path.{fun_ext}
use Rattle.npf_faults.specs.First.{first_fault}
use Rattle.npf_check.specs.declared.name.NameKind.TheVariants as Names
use Rattle.npf_check.specs.{Name.is_given, Undefined.procedures_of_stmt}
use Rattle.npf_check.proofs.undefined.undefined_procedure.Goals as goal

pub returns : goal.returns
returns c =
    c.procedure_in_stmts.ensures
    ∙ ap (λ known. first_fault (flat_map (procedures_of_stmt known) c.as_slice-stmts.result.now)) (fun_ext c.in_ok-procedures.ensures)
    ∙ ap (λ stmts. first_fault (flat_map (procedures_of_stmt (is_given Names.Procedure stmts)) stmts)) c.as_slice-stmts.ensures
