use Rattle.std.proofs.{Common.{ap, arith}, lemmas.List.Sums.sum_by_more_le}
use Rattle.npf_config_changes.specs.Elements.{elements_in_item}
use Rattle.npf_config_changes.proofs.limit.items_elements.Goals as goal

pub elements_in_item-total-requires : goal.elements_in_item-total-requires
elements_in_item-total-requires c =
    let more = sum_by_more_le elements_in_item c.args.items.now c.loop-item.item-index c.item-item.result c.loop-item-test.true in
    let is = ap elements_in_item c.item-item.is in
    let few = c.requires in
    omega arith

pub overflow_add-total : goal.overflow_add-total
overflow_add-total c =
    let more = sum_by_more_le elements_in_item c.args.items.now c.loop-item.item-index c.item-item.result c.loop-item-test.true in
    let is = ap elements_in_item c.item-item.is in
    let value = c.elements_in_item-total.ensures in
    let so_far = c.loop-item.invariant in
    let few = c.requires in
    omega arith
