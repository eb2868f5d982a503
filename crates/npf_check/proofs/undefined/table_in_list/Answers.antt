use Rattle.std.proofs.Common.{ap, sym, ◌∙◌}
use Rattle.npf_faults.{specs.First.{earlier, first_fault}, proofs.FirstLemmas.{each_step, each_end}}
use Rattle.npf_check.specs.{Name.holds, Undefined.table_faults}
use Rattle.npf_check.proofs.undefined.table_in_list.Goals as goal

pub loop-value-preserved : goal.loop-value-preserved
loop-value-preserved c =
    let f = (table_faults (holds c.args.tables.now)) in
    each_step f _ c.loop-value.first _ c.args.values.now c.loop-value.value-index c.value-item.result c.loop-value-test.true c.loop-value.invariant
    (c.earlier-first.ensures ∙ ap (earlier c.loop-value.first) (c.table_in_value.ensures ∙ ap (λ x. first_fault (f x)) c.value-item.is))

pub returns : goal.returns
returns c = sym (each_end (table_faults (holds c.args.tables.now)) _ c.loop-value.first c.args.values.now c.loop-value.value-index c.loop-value-test.false c.loop-value.invariant)
