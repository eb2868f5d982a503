use Rattle.std.{proofs.Common.{◌≡◌, ◌++◌, take}, specs.List.flat_map}
use Rattle.npf_interfaces.specs.Names.{item_names}
use Rattle.npf_interfaces.proofs.names.push_items.Given as goal

abbrev pub invariant-loop-item : goal.invariant-loop-item
invariant-loop-item l = l.names.items ≡ l.initial.names.items ++ flat_map item_names (take l.item-index l.items)
