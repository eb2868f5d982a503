use Rattle.std.proofs.Common.{◌≡◌, ◌<◌, ℕ, get_or, length}
use Rattle.npf_cut.specs.Dimension.{class_count}
use Rattle.npf_products.specs.declared.axis.Axis.{Axis}
use Rattle.npf_products.proofs.axes.shape_of.Given as goal

abbrev pub invariant-loop-dimension : goal.invariant-loop-dimension
invariant-loop-dimension l = record {
  len : length l.counts ≡ 6;
  counts_are : (d : ℕ) (none : Axis) → d < l.dimension → get_or l.counts d 0 ≡ class_count (get_or l.axes d none).dimension;
}
