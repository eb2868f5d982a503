use Rattle.std.proofs.Common.{ap, sym, ◌∙◌}
use Rattle.npf_faults.{specs.First.{earlier, first_fault}, proofs.FirstLemmas.{each_step, each_end}}
use Rattle.npf_check.specs.Unbuilt.{unbuilt_call}
use Rattle.npf_check.proofs.unbuilt.unbuilt_in_calls.Goals as goal

pub loop-call-preserved : goal.loop-call-preserved
loop-call-preserved c =
    each_step unbuilt_call _ c.loop-call.first _ c.args.calls.now c.loop-call.call-index c.call-item.result c.loop-call-test.true c.loop-call.invariant
    (c.earlier-first.ensures ∙ ap (earlier c.loop-call.first) (c.unbuilt_call.ensures ∙ ap (λ x. first_fault (unbuilt_call x)) c.call-item.is))

pub returns : goal.returns
returns c = sym (each_end unbuilt_call _ c.loop-call.first c.args.calls.now c.loop-call.call-index c.loop-call-test.false c.loop-call.invariant)
