use Rattle.std.proofs.{Common.{ℕ, ap, arith}, lemmas.List.Sums.sum_by_more_le}
use Rattle.npf_model.specs.{declared.rule.Rule.Rule, Count.elements_of}
use Rattle.npf_config_changes.proofs.limit.numbered_elements.Goals as goal

pub overflow_add-total : goal.overflow_add-total
overflow_add-total c =
    let count : ℕ × Rule → ℕ = λ numbered. elements_of numbered.1 in
    let more = sum_by_more_le count c.args.rules.now c.loop-numbered.numbered-index c.numbered-item.result c.loop-numbered-test.true in
    let is = ap count c.numbered-item.is in
    let value = c.rule_elements-total.ensures.value in
    let so_far = c.loop-numbered.invariant in
    let few = c.requires in
    omega arith
