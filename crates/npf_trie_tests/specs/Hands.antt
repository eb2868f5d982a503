-- Passes before a call that holds a key.
use Rattle.std.specs.Prelude.{◌≡◌, None, []}
use Rattle.npf_cells_rule.specs.declared.view.CellView.{CellView}
use Rattle.npf_cells_pins.specs.declared.pin.Pin.TheVariants.{Idle}
use Rattle.npf_cells_rule.specs.Passes.{IsProtected}

-- a pass that rests: it is in no stay, and has neither a node, also none that it got back, nor a lock nor a turn
pub record RestsEmptyHanded {S A R : Type 0} (v : CellView S A R) : Type 0 where
  pub out : v.epochs.pin ≡ Idle
  pub nodes : v.pools.nodes ≡ []
  pub unfreed : v.pools.unfreed ≡ []
  pub locks : v.trie.locks ≡ []
  pub turn : v.turn ≡ None

-- a pass in a stay that has neither a node, also none that it got back, nor a lock nor a turn
pub record IsEmptyHanded {S A R : Type 0} (v : CellView S A R) : Type 0 where
  pub protected : IsProtected v.epochs.pin
  pub nodes : v.pools.nodes ≡ []
  pub unfreed : v.pools.unfreed ≡ []
  pub locks : v.trie.locks ≡ []
  pub turn : v.turn ≡ None

-- a pass that killed and reclaimed nothing, and has neither a lock nor a turn
pub record HasFreeHands {S A R : Type 0} (v : CellView S A R) : Type 0 where
  pub kills : v.pools.kills ≡ []
  pub gave_up : v.pools.gave_up ≡ []
  pub reclaims : v.pools.reclaims ≡ []
  pub cleared : v.pools.cleared ≡ []
  pub locks : v.trie.locks ≡ []
  pub turn : v.turn ≡ None
