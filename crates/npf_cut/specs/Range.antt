-- Sets of numbers by ranges.
use Rattle.std.specs.Prelude.{◌≡◌, ◌≤◌, ℕ, List, Contains}
use Rattle.npf_cut.specs.declared.range.Range.{Range}

-- the number lies in some range of the set
pub record IsInRanges (ranges : List Range) (set number : ℕ) : Type 0 where
  pub range : Range
  pub among : Contains ranges range
  pub of : range.set ≡ set
  pub low : range.low ≤ number
  pub high : number ≤ range.high
