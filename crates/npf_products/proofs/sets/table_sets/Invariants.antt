use Rattle.std.proofs.Common.{◌≡◌, ◌<◌, ℕ, [], get_or}
use Rattle.npf_products.specs.Sets.{AreBelow, IsSet}
use Rattle.npf_products.proofs.sets.table_sets.Given as goal

abbrev pub invariant-loop-table : goal.invariant-loop-table
invariant-loop-table l = record {
  below : AreBelow l.sets.ranges.items l.sets.count;
  count : l.sets.count ≡ l.table-index;
  sets_are : (table : ℕ) → table < l.table-index → IsSet l.sets.ranges.items l.sets.count table (get_or l.tables table []);
}
