use Rattle.std.{proofs.Common.{◌≡◌, drop}, specs.List.flat_map}
use Rattle.npf_faults.specs.First.{earlier, first_fault}
use Rattle.npf_check.specs.{Name.holds, Undefined.table_faults}
use Rattle.npf_check.proofs.undefined.table_in_list.Given as goal

abbrev pub invariant-loop-value : goal.invariant-loop-value
invariant-loop-value l = first_fault (flat_map (table_faults (holds l.tables)) l.values) ≡ earlier l.first (first_fault (flat_map (table_faults (holds l.tables)) (drop l.value-index l.values)))
