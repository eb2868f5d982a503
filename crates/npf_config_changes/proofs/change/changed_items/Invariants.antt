use Rattle.std.proofs.Common.{◌≡◌, map, take}
use Rattle.npf_config_changes.specs.{Kept.ruleset_change, Rulesets.item_with_ruleset}
use Rattle.npf_config_changes.proofs.change.changed_items.Given as goal

abbrev pub invariant-loop-item : goal.invariant-loop-item
invariant-loop-item l = l.next.items ≡ map (item_with_ruleset l.name (ruleset_change l.change)) (take l.item-index l.items)
