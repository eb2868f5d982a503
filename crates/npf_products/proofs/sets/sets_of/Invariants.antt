use Rattle.std.proofs.Common.{◌≡◌, ◌<◌, ℕ, [], get_or, length}
use Rattle.npf_products.specs.Sets.{AreBelow, AreConditionSets, AreTableSets}
use Rattle.npf_products.proofs.sets.sets_of.Given as goal

abbrev pub invariant-loop-conditions : goal.invariant-loop-conditions
invariant-loop-conditions l = record {
  below : AreBelow l.sets.ranges.items l.sets.count;
  tables_are : AreTableSets l.dimension l.sets.ranges.items l.sets.count l.tables;
  len : length l.numbers.items ≡ l.conditions-index;
  lens : (list : ℕ) → list < l.conditions-index → length (get_or l.numbers.items list []) ≡ length (get_or l.lists list []);
  lists_are : (list : ℕ) → list < l.conditions-index
      → AreConditionSets l.dimension l.sets.ranges.items l.sets.count (get_or l.lists list []) (get_or l.numbers.items list []);
}
