use Rattle.std.proofs.Common.{◌≡◌, ◌≤◌}
use Rattle.npf_lint.specs.Order.{AreNamedOnce, AreOthers}
use Rattle.npf_lint.proofs.order.RuleOrder.others.Given as goal

abbrev pub invariant-loop-before : goal.invariant-loop-before
invariant-loop-before l = record {
  others : AreOthers l.self.packets.tables.now l.self.order.now l.at l.before l.others.items;
  once : AreNamedOnce l.self.order.now l.before l.others.items;
  most : l.steps.most ≡ l.initial.steps.most;
  rises : l.initial.steps.taken ≤ l.steps.taken;
}
