use Rattle.std.proofs.Common.{◌≡◌, ◌≤◌}
use Rattle.npf_lint.specs.Order.{AreLeftAlike}
use Rattle.npf_lint.proofs.order.RuleOrder.otherwise.Given as goal

abbrev pub invariant-loop-next : goal.invariant-loop-next
invariant-loop-next l = record {
  alike : AreLeftAlike l.self.model.now l.self.packets.tables.now l.self.order.now l.at l.next;
  most : l.steps.most ≡ l.initial.steps.most;
  rises : l.initial.steps.taken ≤ l.steps.taken;
}
