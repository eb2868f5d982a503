-- Nodes that a pass takes for the levels between two keys that met.
use Rattle.std.specs.Prelude.{◌≡◌, ◌⊎◌, ℕ, ◌+◌, ◌<◌, min, Some, List, [], length, reverse, Contains}
use Rattle.atomic_table.specs.Table.{Me}
use Rattle.npf_types.specs.declared.key.Key.{Key}
use Rattle.npf_paths.specs.Digits.{PartsAt}
use Rattle.npf_paths.specs.LevelLaw.{AreApart}
use Rattle.npf_cells_words.specs.declared.layout.Layout.{Layout}
use Rattle.npf_cells_rule.specs.declared.view.CellView.{CellView}
use Rattle.npf_cells_leaves.specs.declared.trie.Meeting.{Meeting}
use Rattle.npf_cells_lives.specs.declared.pools.PoolSide.{PoolSide}
use Rattle.npf_cells_rule.specs.Views.{with_pools}
use Rattle.npf_cells_holds.specs.PublishKinds.{nodes_but}

-- a pass whose key met another needs as many nodes as there are levels below the meeting, down to and with the one at which the two part
pub record NeedsNodes {S A R : Type 0} (digest : Key → ℕ) (v : CellView S A R) (count : ℕ) : Type 0 where
  pub meeting : Meeting
  pub met : v.trie.meets ≡ Some meeting
  pub parting : ℕ
  pub parts : PartsAt (digest meeting.key) meeting.key (digest meeting.other) meeting.other parting
  pub levels : meeting.level + count ≡ parting

-- so many nodes of the table were taken, none of them twice, and are all that the pass owns, the last first
pub record TakesNodes {S A R F : Type 0} (layout : Layout) (count : ℕ) (nodes : List ℕ) (old now : Me F (CellView S A R)) : Type 0 where
  pub counted : length nodes ≡ count
  pub within : (node : ℕ) → Contains nodes node → node < layout.nodes
  pub apart : AreApart nodes
  pub owned : (node : ℕ) → Contains nodes node → Contains now.0.pools.nodes node
  pub all : nodes_but nodes now.0.pools.nodes ≡ []
  pub is : now ≡ with_pools old (record old.0.pools { found = now.0.pools.found; row = now.0.pools.row; nodes = reverse nodes })

-- nodes were given back, so that these are left; what was stored may be forgotten
abbrev pub left_with : List ℕ → PoolSide → PoolSide → PoolSide
left_with nodes old now = record old { found = now.found; nodes = nodes; stored = now.stored }

-- too few were left: the pass owns none, has swept all nodes once, if there are any, and may have forgotten what it stored
pub record FindsTooFew {S A R F : Type 0} (layout : Layout) (old now : Me F (CellView S A R)) : Type 0 where
  pub is : now ≡ with_pools old (record old.0.pools { found = now.0.pools.found; row = now.0.pools.row; sweeps = now.0.pools.sweeps; stored = now.0.pools.stored })
  pub swept : now.0.pools.sweeps ≡ old.0.pools.sweeps + min layout.nodes 1
  pub stored : (now.0.pools.stored ≡ []) ⊎ (now.0.pools.stored ≡ old.0.pools.stored)
