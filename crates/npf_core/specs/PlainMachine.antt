-- The state that a plain machine is in.
use Rattle.std.specs.Prelude.{◌≡◌, ℕ, ◌<◌, ◌-◌, ◌^◌, ◌==◌, length, if◌then◌else◌}
use Rattle.npf_types.specs.declared.key.Key.{Key}
use Rattle.npf_core.specs.declared.conn_id.ConnId.{ConnId}
use Rattle.npf_core.specs.declared.found.Found.{Found}
use Rattle.npf_core.specs.declared.plain_machine.PlainMachine.{PlainMachine}
use Rattle.npf_core.specs.declared.stage.Stage.{Stage}
use Rattle.npf_core.specs.Allowed.{MayClaim}
use Rattle.npf_core.specs.Hold.{holder_in}
use Rattle.npf_core.specs.Machine.{Machine, is_key}
use Rattle.npf_core.specs.NextState.{holder_or, given_up}
use Rattle.npf_core.specs.Slot.{slot_in}

-- the machine's state
abbrev pub state_in : {S : Type 0} → PlainMachine S → Machine S
state_in machine = record { slot = slot_in machine.slots.items; holder = holder_in machine.holdings.items }

-- how many slots it has
abbrev pub slots_in : {S : Type 0} → PlainMachine S → ℕ
slots_in machine = length machine.slots.items

-- the state with the identity's slot at its incarnation and this stage
abbrev pub at_stage : {S : Type 0} → Machine S → ConnId → Stage S → Machine S
at_stage k id stage = record {
  slot = λ s. if id.slot == s then record { inc = id.inc; stage = stage } else k.slot s;
  holder = k.holder;
}

-- the state with a key given, if it had no holder
abbrev pub given : {S : Type 0} → Machine S → Key → Found → Machine S
given k key found = record {
  slot = k.slot;
  holder = λ other. if is_key key other then holder_or (k.holder other) found else k.holder other;
}

-- the state without what is held so
abbrev pub taken_back : {S : Type 0} → Machine S → Found → Machine S
taken_back k found = record { slot = k.slot; holder = λ key. given_up (k.holder key) found }

-- the slot may be claimed, this is its last incarnation, and there is a next one
pub record MayClaimNext {S : Type 0} (slots : ℕ) (k : Machine S) (slot inc : ℕ) : Type 0 where
  pub may : MayClaim slots k slot
  pub last : (k.slot slot).inc ≡ inc
  pub next : inc < 2 ^ 64 - 1
