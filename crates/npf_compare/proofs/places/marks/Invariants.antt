use Rattle.std.proofs.Common.{◌≡◌, ℕ, true, false, length, slice_index_or, take}
use Rattle.std.specs.List.{Contains}
use Rattle.npf_compare.proofs.places.marks.Given as goal

abbrev pub invariant-loop-place : goal.invariant-loop-place
invariant-loop-place l = record {
  count : length l.marks.items ≡ l.count;
  marked : (k : ℕ) → slice_index_or l.marks.items k false ≡ true → Contains (take l.place-index l.places) k;
}
