-- Slots as a list.
use Rattle.std.specs.Prelude.{◌≡◌, ℕ, ◌<◌, ◌-◌, ◌^◌, List, slice_get, unwrap_or}
use Rattle.npf_core.specs.declared.slot.Slot.{Slot}
use Rattle.npf_core.specs.declared.stage.Stage.TheVariants.{Vacant}

-- the slots by number: one that the list lacks was never claimed
abbrev pub slot_in : {S : Type 0} → List (Slot S) → ℕ → Slot S
slot_in slots s = unwrap_or (slice_get slots s) (record { inc = 0; stage = Vacant })

-- the next incarnation of each slot that isn't claimed is a number of 64 bits
abbrev pub NextIncarnationsFit : {S : Type 0} → List (Slot S) → Type 0
NextIncarnationsFit slots = (s : ℕ) → (slot_in slots s).stage ≡ Vacant → (slot_in slots s).inc < 2 ^ 64 - 1
