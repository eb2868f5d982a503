-- Connections that a pass has just begun to build.
use Rattle.std.specs.Prelude.{◌≡◌, ◌<◌, Contains}
use Rattle.npf_types.specs.declared.key.Way.{Way}
use Rattle.npf_core.specs.declared.conn_id.ConnId.{ConnId}
use Rattle.npf_core.specs.Meaning.{Meaning}
use Rattle.npf_connections.specs.Pass.{IsPass}
use Rattle.npf_cells_words.specs.declared.layout.Layout.{Layout}
use Rattle.npf_cells_rule.specs.declared.view.CellView.{CellView}
use Rattle.npf_cells_rule.specs.Passes.{cell_pass}
use Rattle.npf_cells_rule.specs.Views.{dead_hand}
use Rattle.npf_cells_holds.specs.HoldKinds.{MayHoldSo}

-- the pass, which is as a pass is, is building the connection, has stored its incarnation, and may hold a key of each way for it
pub record HasBegun {S A R : Type 0} (m : Meaning S A R) (layout : Layout) (v : CellView S A R) (id : ConnId) : Type 0 where
  pub exists : id.slot < layout.slots
  pub may : (way : Way) → MayHoldSo m v id way
  pub stored : ¬ Contains v.pools.unstored id.slot
  pub legal : IsPass m (cell_pass v)

-- the pass is in its stay still, and has the nodes, the dead connections, the locks, the turn and the sight of the trie that it had; it may have been
-- answered more
pub record KeepsStay {S A R : Type 0} (old now : CellView S A R) : Type 0 where
  pub epochs : now.epochs ≡ old.epochs
  pub nodes : now.pools.nodes ≡ old.pools.nodes
  pub dead : dead_hand now.pools ≡ dead_hand old.pools
  pub trie : now.trie ≡ record old.trie { answered = now.trie.answered }
  pub turn : now.turn ≡ old.turn
