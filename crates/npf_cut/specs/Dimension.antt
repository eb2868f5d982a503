-- The numbers from 0 to a top in classes.
use Rattle.std.specs.Prelude.{◌≡◌, ◌≤◌, ◌<◌, ◌↔◌, ℕ, List, length, slice_index}
use Rattle.npf_cut.specs.declared.dimension.Dimension.{Dimension}
use Rattle.npf_cut.specs.declared.range.Range.{Range}
use Rattle.npf_cut.specs.declared.span.SetSpan.{SetSpan}
use Rattle.npf_cut.specs.Range.{IsInRanges}
use Rattle.npf_cut.specs.Span.{IsIntervalOf}
use Rattle.npf_cut.specs.Start.{interval_of}

-- how many classes there are
abbrev pub class_count : Dimension → ℕ
class_count dimension = length dimension.firsts.items

-- the class of a number
abbrev pub class_at : Dimension → ℕ → ℕ
class_at dimension number = slice_index dimension.classes.items (interval_of dimension.starts.items number)

-- the least number of a class
abbrev pub member_of : Dimension → ℕ → ℕ
member_of dimension class = slice_index dimension.starts.items (slice_index dimension.firsts.items class)

-- an interval of the set is of the class
pub record IsClassOf (classes : List ℕ) (spans : List SetSpan) (set class : ℕ) : Type 0 where
  pub interval : ℕ
  pub of_set : IsIntervalOf spans set interval
  pub of_class : slice_index classes interval ≡ class

-- the set has the class
abbrev pub HasClass : Dimension → ℕ → ℕ → Type 0
HasClass dimension set class = IsClassOf dimension.classes.items dimension.spans.items set class

-- the numbers up to the top are in classes, each of which has a least one; and a set has the class of a number exactly where it has the number
pub record IsCutBy (ranges : List Range) (top : ℕ) (dimension : Dimension) : Type 0 where
  pub told : (set number : ℕ) → number ≤ top → HasClass dimension set (class_at dimension number) ↔ IsInRanges ranges set number
  pub below : (number : ℕ) → number ≤ top → class_at dimension number < class_count dimension
  pub least : (number : ℕ) → number ≤ top → member_of dimension (class_at dimension number) ≤ number
  pub member : (class : ℕ) → class < class_count dimension → (member_of dimension class ≤ top) × (class_at dimension (member_of dimension class) ≡ class)
