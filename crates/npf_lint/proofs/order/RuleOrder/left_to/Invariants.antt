use Rattle.std.proofs.Common.{◌≡◌, ◌≤◌, ◌+◌}
use Rattle.npf_lint.specs.Order.{AreNamedOnce, AreSuccessors}
use Rattle.npf_lint.proofs.order.RuleOrder.left_to.Given as goal

abbrev pub invariant-loop-next : goal.invariant-loop-next
invariant-loop-next l = record {
  left : AreSuccessors l.self.packets.tables.now l.self.order.now l.at l.next l.others.items;
  once : AreNamedOnce l.self.order.now (l.at + 1 + l.next) l.others.items;
  most : l.steps.most ≡ l.initial.steps.most;
  rises : l.initial.steps.taken ≤ l.steps.taken;
}
