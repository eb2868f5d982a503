use Rattle.std.proofs.Common.{ap, sym, ◌∙◌}
use Rattle.npf_faults.{specs.First.{earlier, first_fault}, proofs.FirstLemmas.{each_step, each_end}}
use Rattle.npf_check.specs.Unbuilt.{unbuilt}
use Rattle.npf_check.proofs.unbuilt.unbuilt_in_stmts.Goals as goal

pub loop-stmt-preserved : goal.loop-stmt-preserved
loop-stmt-preserved c =
    each_step unbuilt _ c.loop-stmt.first _ c.args.stmts.now c.loop-stmt.stmt-index c.stmt-item.result c.loop-stmt-test.true c.loop-stmt.invariant
    (c.earlier-first.ensures ∙ ap (earlier c.loop-stmt.first) (c.unbuilt_stmt.ensures ∙ ap (λ stmt. first_fault (unbuilt stmt)) c.stmt-item.is))

pub returns : goal.returns
returns c =
    sym (each_end unbuilt _ c.loop-stmt.first c.args.stmts.now c.loop-stmt.stmt-index c.loop-stmt-test.false c.loop-stmt.invariant)
