use Rattle.std.proofs.Common.{◌≡◌, ◌≤◌, ℕ, IfSome, length, slice_get, take}
use Rattle.npf_precedence.specs.Precedence.{in_order}
use Rattle.npf_dead_groups.specs.Comes.{IsGroupFinding}
use Rattle.npf_dead_groups.proofs.order.GroupOrder.reached.Given as goal

-- what was found of the groups so far, and how many rules they have
abbrev pub invariant-loop-place : goal.invariant-loop-place
invariant-loop-place l = record {
  count : length l.found.items ≡ l.place;
  each : (k : ℕ) → IfSome (slice_get l.found.items k) (IsGroupFinding l.self.packets.tables.now l.self.rules.groups.now k);
  front : l.front ≡ length (in_order (take l.place l.self.rules.groups.now));
  few : l.front ≤ length l.self.rules.entries.now;
  most : l.steps.most ≡ l.initial.steps.most;
  rises : l.initial.steps.taken ≤ l.steps.taken;
}
