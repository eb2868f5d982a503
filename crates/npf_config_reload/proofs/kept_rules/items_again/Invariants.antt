use Rattle.std.proofs.Common.{◌≡◌, map, take}
use Rattle.npf_config_reload.specs.{Before.again_of, Taken.item_again}
use Rattle.npf_config_reload.proofs.kept_rules.items_again.Given as goal

abbrev pub invariant-loop-item : goal.invariant-loop-item
invariant-loop-item l = l.again.items ≡ map (item_again (again_of l.places)) (take l.item-index l.items)
