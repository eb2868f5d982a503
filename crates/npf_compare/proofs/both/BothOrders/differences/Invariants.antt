use Rattle.std.proofs.Common.{◌≡◌, ◌<◌, ◌≤◌, ℕ, slice_index}
use Rattle.std.specs.List.{Contains}
use Rattle.npf_compare.specs.Told.{AreToldBefore, IsToldOrAlike, asked_of}
use Rattle.npf_compare.proofs.both.BothOrders.differences.Given as goal

abbrev pub invariant-loop-place : goal.invariant-loop-place
invariant-loop-place l = record {
  told : AreToldBefore l.self.old l.self.new l.place l.differences.items;
  settled : (place other : ℕ) → place < l.place → Contains (asked_of l.asked (slice_index l.self.old.at.now place)) other
      → IsToldOrAlike l.self.old l.self.new l.differences.items place other;
  most : l.steps.most ≡ l.initial.steps.most;
  rises : l.initial.steps.taken ≤ l.steps.taken;
}
