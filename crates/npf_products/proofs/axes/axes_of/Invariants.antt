use Rattle.std.proofs.Common.{◌≡◌, ◌≤◌, ◌<◌, ℕ, get_or, length}
use Rattle.npf_products.specs.declared.axis.Axis.{Axis}
use Rattle.npf_products.specs.Axis.{IsAxis}
use Rattle.npf_products.specs.Number.{tops_of}
use Rattle.npf_products.proofs.axes.axes_of.Given as goal

abbrev pub invariant-loop-dimension : goal.invariant-loop-dimension
invariant-loop-dimension l = record {
  len : length l.axes.items ≡ l.dimension;
  axes_are : (d : ℕ) (none : Axis) → d < l.dimension → IsAxis (get_or (tops_of l.fn.kind) d 0) d l.tables l.lists (get_or l.axes.items d none);
  most : l.steps.most ≡ l.fn.steps.most;
  rises : l.fn.steps.taken ≤ l.steps.taken;
}
