-- When a connection can't be begun, and what one that was begun holds.
use Rattle.std.specs.Prelude.{ℕ, ◌<◌, List, Option, Some, None}
use Rattle.npf_types.specs.declared.key.Way.{Way}
use Rattle.npf_core.specs.declared.conn_id.ConnId.{ConnId}
use Rattle.npf_core.specs.declared.entry.Entry.{Entry}
use Rattle.npf_core.specs.History.{state_of, IsPrefix}
use Rattle.npf_core.specs.Machine.{Machine, IsClaimed, HoldsNone}
use Rattle.npf_core.specs.Meaning.{Meaning}
use Rattle.npf_connections.specs.Pass.{Pass}

-- at some point of a call, before which all stands that the pass had seen, the slot is claimed
pub record IsClaimedBetween {S A R : Type 0} (m : Meaning S A R) (old new : List (Entry S A R)) (slot : ℕ) : Type 0 where
  pub point : List (Entry S A R)
  pub begins : IsPrefix old point
  pub goes_on : IsPrefix point new
  pub claimed : IsClaimed ((state_of m point).slot slot).stage

-- so it is with each slot
abbrev pub IsFullBetween : {S A R : Type 0} → Meaning S A R → Pass (Entry S A R) → List (Entry S A R) → Type 0
IsFullBetween m old new = (slot : ℕ) → slot < old.slots → IsClaimedBetween m old.history new slot

-- so it is where there is no new connection
abbrev pub IsFullIfNone : {S A R : Type 0} → Meaning S A R → Pass (Entry S A R) → List (Entry S A R) → Option ConnId → Type 0
IsFullIfNone m old new None = IsFullBetween m old new
IsFullIfNone m old new (Some id) = Unit {0}

-- a new connection holds no key
abbrev pub HoldsNoneIfSome : {S : Type 0} → Machine S → Option ConnId → Type 0
HoldsNoneIfSome k None = Unit {0}
HoldsNoneIfSome k (Some id) = (way : Way) → HoldsNone k id way
