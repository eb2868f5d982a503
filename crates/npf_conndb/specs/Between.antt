-- Passes between two calls.
use Rattle.std.specs.Prelude.{◌≡◌, true, None, [], Contains}
use Rattle.npf_core.specs.declared.conn_id.ConnId.{ConnId}
use Rattle.npf_core.specs.Meaning.{Meaning}
use Rattle.npf_connections.specs.Pass.{IsPass}
use Rattle.npf_connections.specs.Stay.{GoesOn}
use Rattle.npf_cells_rule.specs.declared.view.CellView.{CellView}
use Rattle.npf_cells_rule.specs.Passes.{IsProtected, cell_pass, is_pinned}
use Rattle.npf_cells_turns.specs.EndKinds.{HasBareNotes}

-- a pass between two calls: in a stay it is protected; it has neither a lock, a turn nor a node, and freed each node that it got back; it owes no incarnation and no note of what it is
-- building; and it has let go what it killed, and freed what it reclaimed
pub record IsBetweenCalls {S A R : Type 0} (m : Meaning S A R) (v : CellView S A R) : Type 0 where
  pub protected : is_pinned v.epochs.pin ≡ true → IsProtected v.epochs.pin
  pub unlocked : v.trie.locks ≡ []
  pub turnless : v.turn ≡ None
  pub nodeless : v.pools.nodes ≡ []
  pub stored : v.pools.unstored ≡ []
  pub noted : (id : ConnId) → Contains v.pools.builds id → HasBareNotes m v id
  pub let_go : v.pools.kills ≡ []
  pub given_up : v.pools.gave_up ≡ []
  pub reclaimed : v.pools.reclaims ≡ []
  pub freed : v.pools.cleared ≡ []
  pub returned : v.pools.unfreed ≡ []

-- what a pass shows went on, and it is between calls as it was, in the stay in which it was, if in any
pub record StaysBetween {S A R : Type 0} (m : Meaning S A R) (old now : CellView S A R) : Type 0 where
  pub goes : GoesOn (cell_pass old) (cell_pass now)
  pub between : IsBetweenCalls m now
  pub legal : IsPass m (cell_pass now)
  pub pin : now.epochs.pin ≡ old.epochs.pin
