-- Passes before and in a stay.
use Rattle.std.specs.Prelude.{◌≡◌, []}
use Rattle.npf_cells_rule.specs.declared.view.CellView.{CellView}
use Rattle.npf_cells_pins.specs.declared.pin.Pin.TheVariants.{Idle}

-- a pass between two stays that has neither a node nor a lock
pub record HasNothing {S A R : Type 0} (v : CellView S A R) : Type 0 where
  pub out : v.epochs.pin ≡ Idle
  pub nodes : v.pools.nodes ≡ []
  pub locks : v.trie.locks ≡ []
