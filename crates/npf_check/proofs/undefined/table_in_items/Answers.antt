use Rattle.std.proofs.Common.{ap, sym, ◌∙◌}
use Rattle.npf_faults.{specs.First.{earlier, first_fault}, proofs.FirstLemmas.{each_step, each_end}}
use Rattle.npf_check.specs.{Name.holds, Undefined.tables_of_item}
use Rattle.npf_check.proofs.undefined.table_in_items.Goals as goal

pub loop-item-preserved : goal.loop-item-preserved
loop-item-preserved c =
    let f = (tables_of_item (holds c.args.tables.now)) in
    each_step f _ c.loop-item.first _ c.args.items.now c.loop-item.item-index c.item-item.result c.loop-item-test.true c.loop-item.invariant
    (c.earlier-first.ensures ∙ ap (earlier c.loop-item.first) (c.table_in_item.ensures ∙ ap (λ x. first_fault (f x)) c.item-item.is))

pub returns : goal.returns
returns c = sym (each_end (tables_of_item (holds c.args.tables.now)) _ c.loop-item.first c.args.items.now c.loop-item.item-index c.loop-item-test.false c.loop-item.invariant)
