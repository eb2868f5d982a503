use Rattle.std.{proofs.Common.{◌≡◌, take}, specs.List.sum_by}
use Rattle.npf_config_changes.specs.Elements.{elements_in_item}
use Rattle.npf_config_changes.proofs.limit.items_elements.Given as goal

abbrev pub invariant-loop-item : goal.invariant-loop-item
invariant-loop-item l = l.total ≡ sum_by elements_in_item (take l.item-index l.items)
