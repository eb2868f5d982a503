-- The state of the machine of connections: what each slot is at, and who holds each key.
use Rattle.std.specs.Prelude.{◌≡◌, ℕ, Bool, ◌==◌, if◌then◌else◌, Option, Some, None, nat_eq}
use Rattle.std.specs.Cmp.Lexicographic.{pointwise}
use Rattle.npf_types.specs.declared.key.Key.{Key}
use Rattle.npf_types.specs.declared.key.Way.{Way}
use Rattle.npf_core.specs.declared.conn_id.ConnId.{ConnId}
use Rattle.npf_core.specs.declared.found.Found.{Found}
use Rattle.npf_core.specs.declared.slot.Slot.{Slot}
use Rattle.npf_core.specs.declared.stage.Stage.{Stage}
use Rattle.npf_core.specs.declared.stage.Stage.TheVariants.{Vacant, Building, Live, Dead}

-- the machine: a slot for each number, and the holder of each key
pub record Machine (S : Type 0) : Type 0 where
  pub slot : ℕ → Slot S
  pub holder : Key → Option Found

-- in the opening state nothing is claimed and no key is held
abbrev pub opening : {S : Type 0} → Machine S
opening = record { slot = λ _. record { inc = 0; stage = Vacant }; holder = λ _. None }

-- the stage of the incarnation of this number at a slot: only the last one is ever claimed
abbrev pub stage_at : {S : Type 0} → Slot S → ℕ → Stage S
stage_at slot inc = if slot.inc == inc then slot.stage else Vacant

-- the stage of an identity
abbrev pub stage_of : {S : Type 0} → Machine S → ConnId → Stage S
stage_of k id = stage_at (k.slot id.slot) id.inc

-- claimed and not freed: Building, Live or Dead
abbrev pub IsClaimed : {S : Type 0} → Stage S → Type 0
IsClaimed Vacant = ⊥
IsClaimed (Building _) = Unit {0}
IsClaimed (Live _ _) = Unit {0}
IsClaimed Dead = Unit {0}

-- Building or Live
abbrev pub IsAlive : {S : Type 0} → Stage S → Type 0
IsAlive Vacant = ⊥
IsAlive (Building _) = Unit {0}
IsAlive (Live _ _) = Unit {0}
IsAlive Dead = ⊥

-- Live
abbrev pub IsLive : {S : Type 0} → Stage S → Type 0
IsLive Vacant = ⊥
IsLive (Building _) = ⊥
IsLive (Live _ _) = Unit {0}
IsLive Dead = ⊥

-- the connection holds this key, and that way
abbrev pub Holds : {S : Type 0} → Machine S → ConnId → Way → Key → Type 0
Holds k id way key = k.holder key ≡ Some (record { id = id; way = way })

-- the connection holds no key of that way
abbrev pub HoldsNone : {S : Type 0} → Machine S → ConnId → Way → Type 0
HoldsNone k id way = (key : Key) → ¬ Holds k id way key

-- the connection holds a key of that way
abbrev pub HoldsSome : {S : Type 0} → Machine S → ConnId → Way → Type 0
HoldsSome k id way = (key : Key) × Holds k id way key

-- no Live connection holds the key
abbrev pub HasNoLive : {S : Type 0} → Machine S → Key → Type 0
HasNoLive k key = (found : Found) → k.holder key ≡ Some found → ¬ IsLive (stage_of k found.id)

-- two keys are one: their five numbers agree
abbrev pub is_key : Key → Key → Bool
is_key key other = pointwise nat_eq key.0 other.0
