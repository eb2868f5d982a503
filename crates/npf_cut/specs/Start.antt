-- The intervals between which no set changes, by their starts.
use Rattle.std.specs.Prelude.{◌≤◌, ◌<◌, ◌+◌, ◌-◌, ℕ, List, Contains, nat_le}
use Rattle.std.specs.List.{All, AllPairs, prefix_len}
use Rattle.npf_cut.specs.declared.range.Range.{Range}

-- the interval of a number: the last that starts at or below it, where the starts rise from 0
abbrev pub interval_of : List ℕ → ℕ → ℕ
interval_of starts number = prefix_len (λ start. nat_le start number) starts - 1

-- among the starts are 0, each number at which a range begins, and each behind the end of one; all are at most the top
pub record HasStarts (top : ℕ) (ranges : List Range) (starts : List ℕ) : Type 0 where
  pub zero : Contains starts 0
  pub below : All (λ start. start ≤ top) starts
  pub begins : (range : Range) → Contains ranges range → range.low ≤ top → Contains starts range.low
  pub ends : (range : Range) → Contains ranges range → range.high < top → Contains starts (range.high + 1)

-- these in order, each once
pub record AreStarts (top : ℕ) (ranges : List Range) (starts : List ℕ) : Type 0 where
  pub rises : AllPairs (λ a b. a < b) starts
  pub has : HasStarts top ranges starts
