use Rattle.std.proofs.Common.{◌≡◌, ◌≤◌, ◌<◌, ◌+◌, ℕ}
use Rattle.npf_boxes.specs.Cell.{box_at}
use Rattle.npf_products.specs.Space.{IsNarrowed}
use Rattle.npf_products.proofs.space.Space.boxes.Given as goal

abbrev pub invariant-loop-list : goal.invariant-loop-list
invariant-loop-list l = record {
  shape_is : l.boxes.shape ≡ l.self.shape;
  count : l.boxes.count ≡ l.list;
  each : (k : ℕ) → k < l.list → IsNarrowed l.self k l.whole.items (box_at l.boxes k);
  most : l.steps.most ≡ l.fn.steps.most;
  counted : l.fn.steps.taken + l.list ≤ l.steps.taken;
  rises : l.fn.steps.taken ≤ l.steps.taken;
}
