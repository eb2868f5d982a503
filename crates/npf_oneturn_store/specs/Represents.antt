-- How a store represents a state of the machine of connections: it agrees in each slot and each key, and forgets the seats.
use Rattle.std.specs.Prelude.{◌≡◌, ℕ}
use Rattle.npf_types.specs.declared.key.Key.{Key}
use Rattle.npf_core.specs.declared.slot.Slot.{Slot}
use Rattle.npf_core.specs.declared.stage.Stage.{Stage}
use Rattle.npf_core.specs.declared.stage.Stage.TheVariants as stage
use Rattle.npf_core.specs.Machine.{Machine}
use Rattle.npf_oneturn_store.specs.declared.connection.Connection.{Connection}
use Rattle.npf_oneturn_store.specs.declared.phase.SlotPhase.{SlotPhase}
use Rattle.npf_oneturn_store.specs.declared.phase.SlotPhase.TheVariants.{Vacant, Building, Live, Dead}
use Rattle.npf_oneturn_store.specs.declared.store.Store.{Store}
use Rattle.npf_oneturn_store.specs.Store.{slots_of, slot_of, holder_of}

-- the phase of a stage: the same, but that no seat is told
abbrev pub phase_in : {S : Type 0} → Stage S → SlotPhase S
phase_in stage.Vacant = Vacant
phase_in (stage.Building seat) = Building
phase_in (stage.Live flow steps) = Live flow steps
phase_in stage.Dead = Dead

-- the last connection of a slot of the machine
abbrev pub connection_at : {S : Type 0} → Slot S → Connection S
connection_at slot = record { inc = slot.inc; phase = phase_in slot.stage }

-- the store of so many slots is in the machine's state
pub record Represents {S : Type 0} (slots : ℕ) (store : Store S) (k : Machine S) : Type 0 where
  pub sized : slots_of store ≡ slots
  pub placed : (s : ℕ) → slot_of store s ≡ connection_at (k.slot s)
  pub held : (key : Key) → holder_of store key ≡ k.holder key
