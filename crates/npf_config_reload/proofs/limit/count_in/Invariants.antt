use Rattle.std.proofs.Common.{◌≡◌, flat_map, length, take}
use Rattle.npf_model.specs.Verdict.{rules_at}
use Rattle.npf_config_changes.specs.Told.{told_count}
use Rattle.npf_config_reload.proofs.limit.count_in.Given as goal

abbrev pub invariant-loop-item : goal.invariant-loop-item
invariant-loop-item l = l.count ≡ told_count (length (flat_map rules_at (take l.item-index l.group.items)))
