use Rattle.std.proofs.Common.{◌≡◌, map, take}
use Rattle.npf_config_reload.specs.{Before.{again_of, found_by}, Taken.group_taken}
use Rattle.npf_config_reload.proofs.model.groups_taken.Given as goal

abbrev pub invariant-loop-group : goal.invariant-loop-group
invariant-loop-group l = l.taken.items ≡ map (group_taken (again_of l.before.places) (found_by l.before.rulesets)) (take l.group-index l.groups)
