-- The index of a large table.
use Rattle.std.specs.Prelude.{◌<◌, ◌-◌, ◌/◌, ◌^◌, ℕ, List, length, min, slice_index}
use Rattle.npf_lpm.specs.declared.index.Index.{Index}
use Rattle.npf_lpm.specs.Cut.{IsCut}
use Rattle.npf_lpm.specs.Rows.{AreRows}

-- which of the 65,536 buckets an address lies in: each has 2 ^ shift addresses, and the last all that are higher
abbrev pub bucket : ℕ → ℕ → ℕ → ℕ
bucket base shift addr = min ((addr - base) / 2 ^ shift) 65535

-- each count is how many of the first addresses lie below its bucket
pub record IsIndex (firsts : List ℕ) (base shift : ℕ) (counts : List ℕ) : Type 0 where
  pub narrow : shift < 128
  pub counted : (b : ℕ) → b < length counts → IsCut (bucket base shift) b firsts (slice_index counts b)

-- the rows of a table, and their index
pub record AreIndexed (firsts lengths outermost : List ℕ) (index : Index) : Type 0 where
  pub rows : AreRows firsts lengths outermost
  pub counts : IsIndex firsts index.base index.shift index.counts.items
