use Rattle.std.proofs.Common.{◌≡◌, ◌≤◌, ◌<◌, ◌+◌, ℕ, length, slice_index}
use Rattle.std.specs.List.{All}
use Rattle.npf_judge.specs.Place.{IsRulePlace}
use Rattle.npf_compare.proofs.places.order_places.Given as goal

abbrev pub invariant-loop-at : goal.invariant-loop-at
invariant-loop-at l = record {
  count : length l.places.items ≡ length l.order + 1;
  within : All (λ k. k ≤ length l.order) l.places.items;
  last : slice_index l.places.items (length l.order) ≡ length l.order;
  rules : (k place : ℕ) → k < l.at → IsRulePlace l.order k place → slice_index l.places.items place ≡ k;
}
