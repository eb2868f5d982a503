use Rattle.std.{proofs.Common.{◌≡◌, ◌≤◌, ◌*◌, take}, specs.List.sum_by}
use Rattle.npf_bpfgen.specs.RuleWeight.{item_weight}
use Rattle.npf_bpfgen.proofs.rule_weight.weight_of_items.Given as goal

abbrev pub invariant-loop-item : goal.invariant-loop-item
invariant-loop-item l = record {
  value : l.sum ≡ sum_by item_weight (take l.item-index l.items);
  bound : l.sum ≤ 16 * l.item-index;
}
