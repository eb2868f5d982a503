use Rattle.std.proofs.Common.{◌≡◌, ◌≤◌, ◌<◌, ℕ, length}
use Rattle.npf_lint.specs.Order.{HasFindingOf}
use Rattle.npf_lint.proofs.order.RuleOrder.findings.Given as goal

abbrev pub invariant-loop-at : goal.invariant-loop-at
invariant-loop-at l = record {
  count : length l.findings.items ≡ length l.self.order.now;
  each : (k : ℕ) → k < l.at → HasFindingOf l.self.model.now l.self.packets.tables.now l.self.order.now l.findings.items k;
  most : l.steps.most ≡ l.initial.steps.most;
  rises : l.initial.steps.taken ≤ l.steps.taken;
}
