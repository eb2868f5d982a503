use Rattle.std.proofs.Common.{◌≡◌, ◌≢◌, ℕ, ◌<◌, ◌≤◌}
use Rattle.npf_boxes.specs.Fit.{IsWithinAt}
use Rattle.npf_boxes.proofs.fit.fit_of.Given as goal

abbrev pub invariant-loop-dimension : goal.invariant-loop-dimension
invariant-loop-dimension l = record {
  counted : l.open ≤ l.dimension;
  none : l.open ≡ 0 → (d : ℕ) → d < l.dimension → IsWithinAt l.shape l.words l.other d;
  one : l.open ≡ 1 → (d : ℕ) → d < l.dimension → d ≢ l.last → IsWithinAt l.shape l.words l.other d;
  last : l.last < 6;
}
