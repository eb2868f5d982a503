use Rattle.std.{proofs.Common.{◌≡◌, ◌+◌, drop, length, slice_get}, specs.List.flat_map}
use Rattle.npf_check.specs.Limit.{rule_place}
use Rattle.npf_check.proofs.limit.find_rule.Given as goal

abbrev pub invariant-loop-item : goal.invariant-loop-item
invariant-loop-item l = record {
  found : slice_get (flat_map rule_place l.items) l.place ≡ slice_get (flat_map rule_place (drop l.item-index l.items)) l.left;
  counted : l.place + length (flat_map rule_place (drop l.item-index l.items)) ≡ length (flat_map rule_place l.items) + l.left;
}
