use Rattle.std.proofs.Common.{◌≡◌, ◌<◌, ◌⊎◌, ℕ, true, false, slice_index, slice_index_or}
use Rattle.std.specs.List.{All, AllPairs, Contains}
use Rattle.npf_compare.proofs.places.unmarked.Given as goal

abbrev pub invariant-loop-place : goal.invariant-loop-place
invariant-loop-place l = record {
  within : All (λ place. place < l.place) l.places.items;
  rising : AllPairs (λ one next. one < next) l.places.items;
  whole : (k : ℕ) → k < l.place → (slice_index_or l.marks (slice_index l.at k) false ≡ true) ⊎ Contains l.places.items k;
}
