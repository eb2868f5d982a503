-- What a pass knows of the epoch once it has entered.
use Rattle.std.specs.Prelude.{◌≡◌, ℕ, ◌≤◌}
use Rattle.npf_cells_pins.specs.declared.pin.EpochSide.{EpochSide}
use Rattle.npf_cells_pins.specs.Pinning.{loading, pinning, protecting}
use Rattle.npf_connections.specs.Worn.{last_epoch}

-- the pass pinned an epoch that it had loaded, and is protected by one that it loaded after the pin
pub record HasEntered (old now : EpochSide) : Type 0 where
  pub pinned : ℕ
  pub protecting_epoch : ℕ
  pub is : now ≡ protecting (pinning (loading old pinned) pinned) protecting_epoch
  pub known : old.known ≤ pinned
  pub order : pinned ≤ protecting_epoch
  pub most : protecting_epoch ≤ last_epoch
