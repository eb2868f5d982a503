use Rattle.std.proofs.Common.{◌≡◌, ◌≤◌, ◌*◌, ◌^◌, take}
use Rattle.npf_products.specs.Axis.{row_words}
use Rattle.npf_products.proofs.axes.row_words.Given as goal

abbrev pub invariant-loop-axis : goal.invariant-loop-axis
invariant-loop-axis l = record {
  sum_is : l.words ≡ row_words (take l.axis-index l.axes);
  small : l.words ≤ l.axis-index * 2 ^ 124;
}
