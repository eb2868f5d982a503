use Rattle.std.proofs.Common.{◌≡◌, ◌<◌, ℕ, get_or, length}
use Rattle.npf_products.specs.declared.condition.Condition.{Condition}
use Rattle.npf_products.specs.Sets.{AreBelow, SetsGrow, IsSet}
use Rattle.npf_products.proofs.sets.add_conditions.Given as goal

abbrev pub invariant-loop-condition : goal.invariant-loop-condition
invariant-loop-condition l = record {
  below : AreBelow l.sets.ranges.items l.sets.count;
  grows : SetsGrow l.fn.sets.ranges.items l.fn.sets.count l.sets.ranges.items l.sets.count;
  len : length l.numbers.items ≡ l.condition-index;
  sets_are : (at : ℕ) (none : Condition) → at < l.condition-index → (get_or l.conditions at none).dimension ≡ l.dimension
      → IsSet l.sets.ranges.items l.sets.count (get_or l.numbers.items at 0) (get_or l.conditions at none).ranges.items;
}
