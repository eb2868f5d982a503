use Rattle.std.proofs.Common.{◌≡◌, ◌<◌, ℕ, get_or, length}
use Rattle.npf_cut.specs.Dimension.{member_of}
use Rattle.npf_products.specs.declared.axis.Axis.{Axis}
use Rattle.npf_products.proofs.space.Space.packet_of.Given as goal

abbrev pub invariant-loop-dimension : goal.invariant-loop-dimension
invariant-loop-dimension l = record {
  len : length l.numbers ≡ 6;
  members : (d : ℕ) (none : Axis) → d < l.dimension → get_or l.numbers d 0 ≡ member_of (get_or l.self.axes.items d none).dimension (get_or l.cell d 0);
}
