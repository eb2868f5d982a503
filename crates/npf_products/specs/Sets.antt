-- The sets that cut a dimension, and their numbers.
use Rattle.std.specs.Prelude.{◌≡◌, ◌≤◌, ◌<◌, ◌↔◌, ℕ, true, List, [], length, slice_index, slice_index_or}
use Rattle.std.specs.List.{All}
use Rattle.npf_cut.specs.declared.range.Range.{Range}
use Rattle.npf_cut.specs.Range.{IsInRanges}
use Rattle.npf_products.specs.declared.condition.Condition.{Condition}
use Rattle.npf_products.specs.Condition.{Ranges, has_number, tables_in}

-- the set of this number has the numbers of these ranges, and is one of so many
pub record IsSet (ranges : List Range) (count set : ℕ) (own : Ranges) : Type 0 where
  pub known : set < count
  pub same : (number : ℕ) → IsInRanges ranges set number ↔ (has_number own number ≡ true)

-- each condition of the list that is on the dimension has a set
abbrev pub AreConditionSets : ℕ → List Range → ℕ → List Condition → List ℕ → Type 0
AreConditionSets dimension ranges count conditions numbers =
    (at : ℕ) (none : Condition) → at < length conditions → (slice_index_or conditions at none).dimension ≡ dimension
    → IsSet ranges count (slice_index numbers at) (slice_index_or conditions at none).ranges.items

-- the tables' sets have the tables' numbers, in a dimension that has addresses
abbrev pub AreTableSets : ℕ → List Range → ℕ → List Ranges → Type 0
AreTableSets dimension ranges count tables =
    (table : ℕ) → table < length (tables_in dimension tables) → IsSet ranges count table (slice_index_or (tables_in dimension tables) table [])

-- the sets of a dimension: those of the tables, and those of each list's conditions
pub record AreSets (dimension : ℕ) (tables : List Ranges) (lists : List (List Condition)) (ranges : List Range) (count : ℕ) (numbers : List (List ℕ)) : Type 0 where
  pub same_count : length numbers ≡ length lists
  pub same_len : (list : ℕ) → list < length lists → length (slice_index_or numbers list []) ≡ length (slice_index_or lists list [])
  pub of_tables : AreTableSets dimension ranges count tables
  pub of_lists : (list : ℕ) → list < length lists
      → AreConditionSets dimension ranges count (slice_index_or lists list []) (slice_index_or numbers list [])

-- no range is of a set past the count
abbrev pub AreBelow : List Range → ℕ → Type 0
AreBelow ranges count = All (λ range. range.set < count) ranges

-- sets are added, and those that were there stay
pub record SetsGrow (old : List Range) (old_count : ℕ) (new : List Range) (new_count : ℕ) : Type 0 where
  pub count : old_count ≤ new_count
  pub same : (set number : ℕ) → set < old_count → IsInRanges new set number ↔ IsInRanges old set number
