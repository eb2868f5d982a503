-- Sets as intervals.
use Rattle.std.specs.Prelude.{◌-◌, ◌≡◌, ◌≤◌, ◌<◌, ℕ, List, Contains, length, slice_index, slice_index_or}
use Rattle.std.specs.List.{sum_by}
use Rattle.npf_cut.specs.declared.range.Range.{Range}
use Rattle.npf_cut.specs.declared.span.SetSpan.{SetSpan}

-- the interval lies in some span
pub record IsSpanned (spans : List SetSpan) (interval : ℕ) : Type 0 where
  pub span : SetSpan
  pub among : Contains spans span
  pub from : span.from ≤ interval
  pub to : interval < span.to

-- the interval lies in some span of the set
pub record IsIntervalOf (spans : List SetSpan) (set interval : ℕ) : Type 0 where
  pub span : SetSpan
  pub among : Contains spans span
  pub of : span.set ≡ set
  pub from : span.from ≤ interval
  pub to : interval < span.to

-- how many intervals the sets have, each set's counted by itself
abbrev pub interval_count : List SetSpan → ℕ
interval_count spans = sum_by (λ span. span.to - span.from) spans

-- the span has its places in order, and no more of them than there are intervals
pub record IsSpanWithin (count : ℕ) (span : SetSpan) : Type 0 where
  pub order : span.from ≤ span.to
  pub most : span.to ≤ count

-- the span has exactly the intervals that start within the range
pub record IsSpanOf (starts : List ℕ) (range : Range) (span : SetSpan) : Type 0 where
  pub of : span.set ≡ range.set
  pub within : IsSpanWithin (length starts) span
  pub inside : (k : ℕ) → span.from ≤ k → k < span.to → (range.low ≤ slice_index starts k) × (slice_index starts k ≤ range.high)
  pub whole : (k : ℕ) → k < length starts → range.low ≤ slice_index starts k → slice_index starts k ≤ range.high
      → (span.from ≤ k) × (k < span.to)

-- the spans from a place to another are of one set
pub record IsRunOfSet (spans : List SetSpan) (from to : ℕ) : Type 0 where
  pub rises : from < to
  pub within : to ≤ length spans
  pub same : (k : ℕ) (d : SetSpan) → from ≤ k → k < to → (slice_index_or spans k d).set ≡ (slice_index_or spans from d).set
