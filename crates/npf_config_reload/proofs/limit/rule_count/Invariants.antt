use Rattle.std.proofs.Common.{◌≡◌, flat_map, length, take}
use Rattle.npf_model.specs.Verdict.{rules_of}
use Rattle.npf_config_changes.specs.Told.{told_count}
use Rattle.npf_config_reload.proofs.limit.rule_count.Given as goal

abbrev pub invariant-loop-group : goal.invariant-loop-group
invariant-loop-group l = l.count ≡ told_count (length (flat_map rules_of (take l.group-index l.groups)))
