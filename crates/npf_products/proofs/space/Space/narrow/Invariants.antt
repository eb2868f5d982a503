use Rattle.std.proofs.Common.{◌≡◌, ◌&&◌, ℕ, true, List, length, take}
use Rattle.npf_boxes.specs.Cell.{in_box, words_of}
use Rattle.npf_products.specs.Axis.{cell_of_numbers}
use Rattle.npf_products.specs.Condition.{all_fit}
use Rattle.npf_products.specs.Number.{AreNumbers}
use Rattle.npf_products.proofs.space.Space.narrow.Given as goal

abbrev pub invariant-loop-at : goal.invariant-loop-at
invariant-loop-at l = record {
  whole : length l.words ≡ words_of l.self.shape;
  met : (numbers : List ℕ) → AreNumbers l.self.kind numbers
      → in_box l.self.shape l.words (cell_of_numbers l.self.axes.items numbers)
      ≡ (in_box l.self.shape l.fn.words (cell_of_numbers l.self.axes.items numbers) && all_fit l.self.tables.items numbers (take l.at l.conditions));
  within : (cell : List ℕ) → in_box l.self.shape l.words cell ≡ true → in_box l.self.shape l.fn.words cell ≡ true;
}
