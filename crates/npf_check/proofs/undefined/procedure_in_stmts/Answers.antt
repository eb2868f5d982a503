use Rattle.std.proofs.Common.{ap, sym, ◌∙◌}
use Rattle.npf_faults.{specs.First.{earlier, first_fault}, proofs.FirstLemmas.{each_step, each_end}}
use Rattle.npf_check.specs.{Name.holds, Undefined.procedures_of_stmt}
use Rattle.npf_check.proofs.undefined.procedure_in_stmts.Goals as goal

pub loop-stmt-preserved : goal.loop-stmt-preserved
loop-stmt-preserved c =
    let f = (procedures_of_stmt (holds c.args.procedures.now)) in
    each_step f _ c.loop-stmt.first _ c.args.stmts.now c.loop-stmt.stmt-index c.stmt-item.result c.loop-stmt-test.true c.loop-stmt.invariant
    (c.earlier-first.ensures ∙ ap (earlier c.loop-stmt.first) (c.procedure_in_stmt.ensures ∙ ap (λ x. first_fault (f x)) c.stmt-item.is))

pub returns : goal.returns
returns c = sym (each_end (procedures_of_stmt (holds c.args.procedures.now)) _ c.loop-stmt.first c.args.stmts.now c.loop-stmt.stmt-index c.loop-stmt-test.false c.loop-stmt.invariant)
