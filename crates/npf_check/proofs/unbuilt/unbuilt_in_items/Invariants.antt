use Rattle.std.{proofs.Common.{◌≡◌, drop}, specs.List.flat_map}
use Rattle.npf_faults.specs.First.{earlier, first_fault}
use Rattle.npf_check.specs.Unbuilt.{unbuilt_item}
use Rattle.npf_check.proofs.unbuilt.unbuilt_in_items.Given as goal

abbrev pub invariant-loop-item : goal.invariant-loop-item
invariant-loop-item l = first_fault (flat_map unbuilt_item l.items) ≡ earlier l.first (first_fault (flat_map unbuilt_item (drop l.item-index l.items)))
