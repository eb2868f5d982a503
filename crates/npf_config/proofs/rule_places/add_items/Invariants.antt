use Rattle.std.{proofs.Common.{◌≡◌, ◌++◌, take}, specs.List.flat_map}
use Rattle.npf_check.specs.Limit.{rule_place}
use Rattle.npf_config.proofs.rule_places.add_items.Given as goal

abbrev pub invariant-loop-item : goal.invariant-loop-item
invariant-loop-item l = record { so_far : l.places.items ≡ l.initial.places.items ++ flat_map rule_place (take l.item-index l.fn.items) }
