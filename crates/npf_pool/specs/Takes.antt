-- What a pass that takes a place changes of its view, and what it found where there was none.
use Rattle.std.specs.Prelude.{◌≡◌, ℕ, ◌+◌, ◌-◌, ◌^◌, ◌≤◌, [], ◌∷◌, min}
use Rattle.atomic_table.specs.Table.{Me}
use Rattle.npf_types.specs.declared.key.Key.{Key}
use Rattle.npf_core.specs.Meaning.{Meaning}
use Rattle.npf_connections.specs.Adding.{Adds}
use Rattle.npf_connections.specs.Pass.{IsPass}
use Rattle.npf_cells_words.specs.declared.layout.Layout.{Layout}
use Rattle.npf_cells_words.specs.declared.layout.Pool.TheVariants.{Nodes}
use Rattle.npf_cells_words.specs.Layout.{pool_at}
use Rattle.npf_cells_lives.specs.declared.pools.PoolSide.{PoolSide}
use Rattle.npf_cells_rule.specs.declared.view.CellView.{CellView}
use Rattle.npf_cells_rule.specs.Passes.{cell_pass}
use Rattle.npf_cells_rule.specs.Stood.{StoodSo}
use Rattle.npf_cells_takes.specs.SlotKinds.{seeing_slots}

-- loads of the nodes' words that completed no row
abbrev pub searching : PoolSide → PoolSide → PoolSide
searching old now = record old { found = now.found; row = now.row }

-- loads of the nodes' words, and then a claim that won
abbrev pub taking : ℕ → PoolSide → PoolSide → PoolSide
taking node old now = record old { found = now.found; row = now.row; nodes = node ∷ old.nodes }

-- loads of the nodes' words, the last of which may have completed a row
abbrev pub having_swept : PoolSide → PoolSide → PoolSide
having_swept old now = record old { found = now.found; row = now.row; sweeps = now.sweeps }

-- where the nodes have so many words, the row has them all and counts as one sweep
pub record CountsSweep (count : ℕ) (old now : PoolSide) : Type 0 where
  pub row : 1 ≤ count → now.row ≡ count
  pub sweeps : now.sweeps ≡ old.sweeps + min count 1

-- the word of the nodes was full in a state of the table in which nothing was new to the pass but what it loaded of the pool; it had then
-- found those before it full, in a row
pub record StoodFull {S A R : Type 0} (m : Meaning S A R) (digest : Key → ℕ) (layout : Layout) (view : CellView S A R) (word : ℕ) : Type 0 where
  pub side : PoolSide
  pub row : 1 ≤ word → side.row ≡ word
  pub stood : StoodSo m digest layout (record view { pools = searching view.pools side }) (pool_at layout Nodes + word) (2 ^ 64 - 1)

-- loads of the slots' words and claims that lost: the pass has seen more of the history, and added nothing to it
pub record HasSeenMore {S A R F : Type 0} (m : Meaning S A R) (old now : Me F (CellView S A R)) : Type 0 where
  pub adds : Adds (cell_pass old.0) now.0.seats.history []
  pub legal : IsPass m (cell_pass old.0) → IsPass m (cell_pass now.0)
  pub is : now ≡ (seeing_slots old.0 now.0.pools.found now.0.seats.history, old.1)
