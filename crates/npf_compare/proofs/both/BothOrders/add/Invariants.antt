use Rattle.std.proofs.Common.{◌≡◌, ◌≤◌}
use Rattle.npf_compare.specs.Told.{AreToldUpto}
use Rattle.npf_compare.proofs.both.BothOrders.add.Given as goal

abbrev pub invariant-loop-other : goal.invariant-loop-other
invariant-loop-other l = record {
  told : AreToldUpto l.self.old l.self.new l.place l.others l.other-index l.initial.differences.items l.differences.items;
  most : l.steps.most ≡ l.initial.steps.most;
  rises : l.initial.steps.taken ≤ l.steps.taken;
}
