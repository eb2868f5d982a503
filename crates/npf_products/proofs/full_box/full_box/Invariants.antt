use Rattle.std.proofs.Common.{◌≡◌, ◌<◌, ℕ, get_or, length}
use Rattle.std.specs.Prelude.{nat_lt}
use Rattle.npf_bits.specs.Bits.{has}
use Rattle.npf_boxes.specs.Cell.{section, words_of}
use Rattle.npf_cut.specs.Dimension.{class_count}
use Rattle.npf_products.specs.declared.axis.Axis.{Axis}
use Rattle.npf_products.proofs.full_box.full_box.Given as goal

abbrev pub invariant-loop-dimension : goal.invariant-loop-dimension
invariant-loop-dimension l = record {
  whole : length l.words.items ≡ words_of l.shape;
  filled : (d n : ℕ) (none : Axis) → d < l.dimension → has (section l.shape d l.words.items) n ≡ nat_lt n (class_count (get_or l.axes d none).dimension);
}
