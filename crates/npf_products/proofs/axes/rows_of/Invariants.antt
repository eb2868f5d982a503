use Rattle.std.proofs.Common.{◌≡◌, ◌≤◌, ◌<◌, ℕ, get_or, length}
use Rattle.npf_cut.specs.declared.set_bits.SetBits.{SetBits}
use Rattle.npf_products.specs.declared.axis.Axis.{Axis}
use Rattle.npf_products.specs.Axis.{AreAxisRows}
use Rattle.npf_products.proofs.axes.rows_of.Given as goal

abbrev pub invariant-loop-axis : goal.invariant-loop-axis
invariant-loop-axis l = record {
  len : length l.rows.items ≡ l.axis-index;
  rows_are : (d : ℕ) (none : Axis) (no_bits : SetBits) → d < l.axis-index → AreAxisRows (get_or l.axes d none) (get_or l.rows.items d no_bits);
  most : l.steps.most ≡ l.fn.steps.most;
  rises : l.fn.steps.taken ≤ l.steps.taken;
}
