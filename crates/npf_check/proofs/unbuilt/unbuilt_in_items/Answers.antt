use Rattle.std.proofs.Common.{ap, sym, ◌∙◌}
use Rattle.npf_faults.{specs.First.{earlier, first_fault}, proofs.FirstLemmas.{each_step, each_end}}
use Rattle.npf_check.specs.Unbuilt.{unbuilt_item}
use Rattle.npf_check.proofs.unbuilt.unbuilt_in_items.Goals as goal

pub loop-item-preserved : goal.loop-item-preserved
loop-item-preserved c =
    each_step unbuilt_item _ c.loop-item.first _ c.args.items.now c.loop-item.item-index c.item-item.result c.loop-item-test.true c.loop-item.invariant
    (c.earlier-first.ensures ∙ ap (earlier c.loop-item.first) (c.unbuilt_item.ensures ∙ ap (λ x. first_fault (unbuilt_item x)) c.item-item.is))

pub returns : goal.returns
returns c = sym (each_end unbuilt_item _ c.loop-item.first c.args.items.now c.loop-item.item-index c.loop-item-test.false c.loop-item.invariant)
