-- Connections by the numbers of their slots.
use Rattle.std.specs.Prelude.{◌≡◌, ◌≢◌, ℕ, ◌-◌, ◌^◌, ◌<◌, ◌==◌, if◌then◌else◌, List, Option, Some, slice_get, unwrap_or}
use Rattle.npf_types.specs.declared.key.Key.{Key}
use Rattle.npf_core.specs.declared.conn_id.ConnId.{ConnId}
use Rattle.npf_core.specs.declared.found.Found.{Found}
use Rattle.npf_core.specs.declared.hold.Holding.{Holding}
use Rattle.npf_oneturn_store.specs.declared.connection.Connection.{Connection}
use Rattle.npf_oneturn_store.specs.declared.phase.SlotPhase.{SlotPhase}
use Rattle.npf_oneturn_store.specs.declared.phase.SlotPhase.TheVariants.{Vacant}
use Rattle.npf_oneturn_store.specs.Places.{holder_among}

-- what stands in the slot of this number. In one that the list lacks no connection was claimed yet
abbrev pub connection_in : {S : Type 0} → List (Connection S) → ℕ → Connection S
connection_in connections s = unwrap_or (slice_get connections s) (record { inc = 0; phase = Vacant })

-- the phase of the incarnation of this number: only the last one of a slot is kept
abbrev pub phase_at : {S : Type 0} → Connection S → ℕ → SlotPhase S
phase_at connection inc = if connection.inc == inc then connection.phase else Vacant

-- the phase of an identity
abbrev pub phase_among : {S : Type 0} → List (Connection S) → ConnId → SlotPhase S
phase_among connections id = phase_at (connection_in connections id.slot) id.inc

-- each slot below the first one that may be unclaimed is claimed, and the next incarnation of each that isn't is a number of 64 bits
pub record AreFit {S : Type 0} (first : ℕ) (connections : List (Connection S)) : Type 0 where
  pub claimed : (s : ℕ) → s < first → (connection_in connections s).phase ≢ Vacant
  pub further : (s : ℕ) → (connection_in connections s).phase ≡ Vacant → (connection_in connections s).inc < 2 ^ 64 - 1

-- each key's holder is claimed
abbrev pub HoldersStand : {S : Type 0} → List (Connection S) → List (Option Holding) → Type 0
HoldersStand connections holdings = (key : Key) (found : Found) → holder_among holdings key ≡ Some found → phase_among connections found.id ≢ Vacant
