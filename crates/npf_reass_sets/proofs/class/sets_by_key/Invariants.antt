use Rattle.std.{proofs.Common.{◌-◌, ◌≤◌, List, length, map}, specs.Prelude.All}
use Rattle.npf_pieces.specs.{declared.arrived.Arrived.Arrived, Judged.reached, Sets.{StandsIn, set_at}}
use Rattle.npf_reass_sets.specs.{Found.HasFound, Order.SortsByKey}
use Rattle.npf_reass_sets.proofs.class.sets_by_key.Given as goal

abbrev pub invariant-loop-from : goal.invariant-loop-from
invariant-loop-from l = record {
  within : l.from ≤ length l.arrived;
  reached : reached l.finder ≤ l.from;
  places : All (StandsIn (length l.arrived)) l.sets.items;
  found : (old : List Arrived) → SortsByKey old l.arrived → HasFound old l.arrived l.from (map (set_at l.arrived) l.sets.items);
}

abbrev pub decreases-loop-from : goal.decreases-loop-from
decreases-loop-from l = length l.arrived - l.from
