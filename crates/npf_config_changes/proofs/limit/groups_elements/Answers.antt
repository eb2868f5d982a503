use Rattle.std.{proofs.{Common.{ap, arith}, lemmas.List.Sums.sum_by_more_le}, specs.List.sum_by}
use Rattle.npf_config_changes.specs.Elements.{group_elements, elements_in_item}
use Rattle.npf_config_changes.proofs.limit.groups_elements.Goals as goal

pub items_elements-total-requires : goal.items_elements-total-requires
items_elements-total-requires c =
    let here = c.group-item.result in
    let more = sum_by_more_le group_elements c.args.groups.now c.loop-group.group-index here c.loop-group-test.true in
    let is = ap group_elements c.group-item.is in
    let items = ap (sum_by elements_in_item) c.as_slice.ensures in
    let few = c.requires in
    omega arith

pub overflow_add-total : goal.overflow_add-total
overflow_add-total c =
    let here = c.group-item.result in
    let more = sum_by_more_le group_elements c.args.groups.now c.loop-group.group-index here c.loop-group-test.true in
    let is = ap group_elements c.group-item.is in
    let items = ap (sum_by elements_in_item) c.as_slice.ensures in
    let value = c.items_elements-total.ensures in
    let so_far = c.loop-group.invariant in
    let few = c.requires in
    omega arith
