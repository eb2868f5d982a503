-- Places in lists that rise by a number of their elements.
use Rattle.std.specs.Prelude.{◌≤◌, ◌<◌, ℕ, List, length, slice_index_or}

-- the number of the first `count` elements is below the limit
pub record IsLowCut {X : Type 0} (n : X → ℕ) (limit : ℕ) (xs : List X) (count : ℕ) : Type 0 where
  pub most : count ≤ length xs
  pub before : (k : ℕ) (d : X) → k < count → n (slice_index_or xs k d) < limit

-- the number of the first `count` elements, and of no others, is below the limit
pub record IsCut {X : Type 0} (n : X → ℕ) (limit : ℕ) (xs : List X) (count : ℕ) : Type 0 where
  pub most : count ≤ length xs
  pub before : (k : ℕ) (d : X) → k < count → n (slice_index_or xs k d) < limit
  pub behind : (k : ℕ) (d : X) → count ≤ k → k < length xs → limit ≤ n (slice_index_or xs k d)

-- the numbers pass this one between the two places
pub record LiesBetween (xs : List ℕ) (x low high : ℕ) : Type 0 where
  pub order : low ≤ high
  pub most : high ≤ length xs
  pub before : (k : ℕ) (d : ℕ) → k < low → slice_index_or xs k d ≤ x
  pub behind : (k : ℕ) (d : ℕ) → high ≤ k → k < length xs → x < slice_index_or xs k d
