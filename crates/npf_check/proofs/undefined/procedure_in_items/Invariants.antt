use Rattle.std.{proofs.Common.{◌≡◌, drop}, specs.List.flat_map}
use Rattle.npf_faults.specs.First.{earlier, first_fault}
use Rattle.npf_check.specs.{Name.holds, Undefined.procedures_of_item}
use Rattle.npf_check.proofs.undefined.procedure_in_items.Given as goal

abbrev pub invariant-loop-item : goal.invariant-loop-item
invariant-loop-item l = first_fault (flat_map (procedures_of_item (holds l.procedures)) l.items) ≡ earlier l.first
    (first_fault (flat_map (procedures_of_item (holds l.procedures)) (drop l.item-index l.items)))
