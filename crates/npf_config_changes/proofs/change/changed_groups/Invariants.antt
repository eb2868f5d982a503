use Rattle.std.proofs.Common.{◌≡◌, map, take}
use Rattle.npf_config_changes.specs.{Kept.ruleset_change, Rulesets.group_with_ruleset}
use Rattle.npf_config_changes.proofs.change.changed_groups.Given as goal

abbrev pub invariant-loop-group : goal.invariant-loop-group
invariant-loop-group l = l.next.items ≡ map (group_with_ruleset l.name (ruleset_change l.change)) (take l.group-index l.groups)
