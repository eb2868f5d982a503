use Rattle.std.{proofs.Common.{◌≡◌, drop, length, zip}, specs.List.flat_map}
use Rattle.npf_faults.specs.First.{earlier, first_fault}
use Rattle.npf_check.specs.WrittenRule.{faults_of_item}
use Rattle.npf_check.proofs.written_rule.items_fault.Given as goal

abbrev pub invariant-loop-item : goal.invariant-loop-item
invariant-loop-item l = record {
  can : (goal.iterator-loop-item).can_next l.item-iterator;
  finite : (goal.iterator-loop-item).is_finite l.item-iterator;
  so_far : first_fault (flat_map faults_of_item (zip l.items l.meant))
      ≡ earlier l.first (first_fault (flat_map faults_of_item (drop (length l.yielded) (zip l.items l.meant))));
}
