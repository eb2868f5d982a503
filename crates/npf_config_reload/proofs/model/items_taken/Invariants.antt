use Rattle.std.proofs.Common.{◌≡◌, map, take}
use Rattle.npf_config_reload.specs.{Before.{again_of, found_by}, Taken.item_taken}
use Rattle.npf_config_reload.proofs.model.items_taken.Given as goal

abbrev pub invariant-loop-item : goal.invariant-loop-item
invariant-loop-item l = l.taken.items ≡ map (item_taken (again_of l.before.places) (found_by l.before.rulesets)) (take l.item-index l.items)
