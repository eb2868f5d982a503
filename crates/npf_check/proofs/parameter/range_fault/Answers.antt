use Rattle.std.proofs.Common.{ap, sym, ◌∙◌}
use Rattle.npf_faults.specs.First.{earlier, first_fault}
use Rattle.npf_check.{specs.Parameter.{range_fault, set_by}, proofs.ParameterLemmas.{ranges_step, ranges_end}}
use Rattle.npf_check.proofs.parameter.range_fault.Goals as goal

pub loop-stmt-preserved : goal.loop-stmt-preserved
loop-stmt-preserved c =
    ranges_step _ c.loop-stmt.first _ c.loop-stmt.settings _ c.args.stmts.now c.loop-stmt.stmt-index c.stmt-item.result c.loop-stmt-test.true c.loop-stmt.invariant
    (c.set_by-settings.ensures ∙ ap (λ stmt. set_by stmt c.loop-stmt.settings) c.stmt-item.is)
    (c.earlier-first.ensures ∙ ap (earlier c.loop-stmt.first) (c.range_fault_at.ensures ∙ ap (λ stmt. first_fault (range_fault c.set_by-settings.result stmt)) c.stmt-item.is))

pub returns : goal.returns
returns c =
    sym (ranges_end _ c.loop-stmt.first c.loop-stmt.settings c.args.stmts.now c.loop-stmt.stmt-index c.loop-stmt-test.false c.loop-stmt.invariant)
