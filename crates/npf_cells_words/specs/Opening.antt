-- The words of a new table.
use Rattle.std.specs.Prelude.{ℕ, ◌+◌, ◌-◌, ◌/◌, ◌%◌, ◌^◌, ◌==◌, List, slice_set, replicate, if◌then◌else◌}
use Rattle.npf_cells_words.specs.declared.layout.Layout.{Layout}
use Rattle.npf_cells_words.specs.declared.layout.Pool.TheVariants.{Slots, Nodes}
use Rattle.npf_cells_words.specs.Layout.{pool_at, word_count}

-- the bits past the last of so many places are set, where their words begin there
abbrev pub with_past : ℕ → ℕ → List ℕ → List ℕ
with_past at places words = if places % 64 == 0 then words else slice_set words (at + places / 64) (2 ^ 64 - 2 ^ (places % 64))

-- the first epoch is 2, the readers are idle, no place is taken
abbrev pub opening_words : Layout → List ℕ
opening_words layout =
    with_past (pool_at layout Nodes) layout.nodes (with_past (pool_at layout Slots) layout.slots (slice_set (replicate (word_count layout) 0) 0 2))
