-- The calls of a store are the acts of the machine: where the store represents a state, it is answered as the machine is, and
-- represents the state that the act leaves.
use Rattle.std.specs.Prelude.{◌≡◌, ℕ, ◌<◌, ◌↔◌, Option, Some}
use Rattle.npf_types.specs.declared.key.Key.{Key}
use Rattle.npf_types.specs.declared.key.Way.{Way}
use Rattle.npf_core.specs.declared.act.Act.TheVariants.{Claim, Look, Hold, Start, Step, Kill, Unhold, Free}
use Rattle.npf_core.specs.declared.act.Why.{Why}
use Rattle.npf_core.specs.declared.conn_id.ConnId.{ConnId}
use Rattle.npf_core.specs.declared.held.Held.{Held}
use Rattle.npf_core.specs.declared.kept.Kept.{Kept}
use Rattle.npf_core.specs.declared.stage.Stage.TheVariants.{Building, Dead}
use Rattle.npf_core.specs.declared.stepped.Stepped.{Stepped}
use Rattle.npf_core.specs.Allowed.{MayClaim, IsDue}
use Rattle.npf_core.specs.Copying.{Copies}
use Rattle.npf_core.specs.Machine.{Machine, opening, stage_of, IsClaimed, IsAlive, Holds, HoldsNone}
use Rattle.npf_core.specs.Meaning.{Meaning}
use Rattle.npf_core.specs.NextState.{after_act}
use Rattle.npf_core.specs.Replies.{claimed_id, held_by, step_answer}
use Rattle.npf_oneturn_store.specs.declared.phase.SlotPhase.{SlotPhase}
use Rattle.npf_oneturn_store.specs.declared.store.Store.{Store}
use Rattle.npf_oneturn_store.specs.Represents.{Represents, phase_in}
use Rattle.npf_oneturn_store.specs.Store as calls
use Rattle.npf_oneturn_store.specs.Store.{holder_of, phase_of, IsNew, IsSame, Claims, IsFull, AnswersHold, Starts, AnswersStep, Kills, Unholds, Frees, HoldsNoKey, TellsKey, TellsKept, IsDuePhase}

-- a new store is in the opening state
abbrev pub NewIsOpening : (S : Type 0) → Type 0
NewIsOpening S = (slots : ℕ) (store : Store S) → IsNew slots store → Represents slots store opening

-- a store as it was represents what it did
abbrev pub StaysSame : (S : Type 0) → Type 0
StaysSame S = (slots : ℕ) (old new : Store S) (k : Machine S) → Represents slots old k → IsSame old new → Represents slots new k

-- a store shows the phase of each identity
abbrev pub ShowsPhases : (S : Type 0) → Type 0
ShowsPhases S = (slots : ℕ) (store : Store S) (k : Machine S) (id : ConnId) → Represents slots store k → phase_of store id ≡ phase_in (stage_of k id)

-- so a connection that is Building may be started, whichever seat builds it
abbrev pub ShowsBuilding : (S : Type 0) → Type 0
ShowsBuilding S =
    (slots : ℕ) (store : Store S) (k : Machine S) (id : ConnId) (seat : ℕ) → Represents slots store k →
    stage_of k id ≡ Building seat → phase_of store id ≡ SlotPhase.Building

-- and one that is Building or Live may be killed
abbrev pub ShowsAlive : (S : Type 0) → Type 0
ShowsAlive S =
    (slots : ℕ) (store : Store S) (k : Machine S) (id : ConnId) → Represents slots store k →
    IsAlive (stage_of k id) → calls.IsAlivePhase (phase_of store id)

-- a look-up finds the key's holder, and leaves the state
pub record LooksUp {S A R : Type 0} (m : Meaning S A R) (slots : ℕ) (store : Store S) (k : Machine S) (key : Key) : Type 0 where
  pub found : holder_of store key ≡ k.holder key
  pub goes_on : (seat packet : ℕ) → Represents slots store (after_act m k seat (Look packet key))

-- so it is with each look-up
abbrev pub LookIsAct : {S A R : Type 0} → Meaning S A R → Type 0
LookIsAct {S} m = (slots : ℕ) (store : Store S) (k : Machine S) (key : Key) → Represents slots store k → LooksUp m slots store k key

-- a claim is allowed, and gives the machine's identity in the lowest slot that may be claimed
pub record IsClaimAct {S A R : Type 0} (m : Meaning S A R) (slots : ℕ) (k : Machine S) (id : ConnId) (new : Store S) : Type 0 where
  pub may : MayClaim slots k id.slot
  pub identity : id ≡ claimed_id k id.slot
  pub lowest : (s : ℕ) → s < id.slot → IsClaimed (k.slot s).stage
  pub goes_on : (seat packet : ℕ) → Represents slots new (after_act m k seat (Claim packet id.slot))

-- so it is with each claim
abbrev pub ClaimIsAct : {S A R : Type 0} → Meaning S A R → Type 0
ClaimIsAct {S} m = (slots : ℕ) (old new : Store S) (k : Machine S) (id : ConnId) → Represents slots old k → Claims old new id → IsClaimAct m slots k id new

-- where a store is full, each slot of the machine is claimed
abbrev pub FullIsClaimed : (S : Type 0) → Type 0
FullIsClaimed S = (slots : ℕ) (store : Store S) (k : Machine S) → Represents slots store k → IsFull store → (s : ℕ) → s < slots → IsClaimed (k.slot s).stage

-- a hold is answered by the key's holder
pub record IsHoldAct {S A R : Type 0} (m : Meaning S A R) (slots : ℕ) (k : Machine S) (id : ConnId) (key : Key) (way : Way) (held : Held) (new : Store S) : Type 0 where
  pub replied : held ≡ held_by (k.holder key)
  pub goes_on : (seat : ℕ) → Represents slots new (after_act m k seat (Hold id key way))

-- so it is with each hold
abbrev pub HoldIsAct : {S A R : Type 0} → Meaning S A R → Type 0
HoldIsAct {S} m =
    (slots : ℕ) (old new : Store S) (k : Machine S) (id : ConnId) (key : Key) (way : Way) (held : Held) →
    Represents slots old k → AnswersHold old new key (record { id = id; way = way }) held → IsHoldAct m slots k id key way held new

-- a start of a connection that is Building under the seat goes on as the machine does
abbrev pub StartIsAct : {S A R : Type 0} → Meaning S A R → Type 0
StartIsAct {S} m =
    (slots : ℕ) (old new : Store S) (k : Machine S) (id : ConnId) (init : S) (seat : ℕ) → Represents slots old k →
    stage_of k id ≡ Building seat → Starts old new id init → (packet : ℕ) → Represents slots new (after_act m k seat (Start id packet init))

-- a step is answered by the law where the connection is Live, and NotLive where it isn't
pub record IsStepAct {S A R : Type 0} (m : Meaning S A R) (slots : ℕ) (k : Machine S) (id : ConnId) (way : Way) (arg : A) (reply : Stepped R) (new : Store S) : Type 0 where
  pub replied : reply ≡ step_answer m way arg (stage_of k id)
  pub goes_on : (seat packet : ℕ) → Represents slots new (after_act m k seat (Step packet id way arg))

-- so it is with each step of a claimed connection
abbrev pub StepIsAct : {S A R : Type 0} → Meaning S A R → Type 0
StepIsAct {S} {A} {R} m =
    (slots : ℕ) (old new : Store S) (k : Machine S) (id : ConnId) (way : Way) (arg : A) (reply : Stepped R) →
    Represents slots old k → IsClaimed (stage_of k id) → AnswersStep m old new id way arg reply → IsStepAct m slots k id way arg reply new

-- a kill of a connection that is Building or Live does so, whatever the cause
abbrev pub KillIsAct : {S A R : Type 0} → Meaning S A R → Type 0
KillIsAct {S} m =
    (slots : ℕ) (old new : Store S) (k : Machine S) (id : ConnId) → Represents slots old k → IsAlive (stage_of k id) →
    Kills old new id → (seat : ℕ) (why : Why) → Represents slots new (after_act m k seat (Kill id why))

-- an unhold does so, whatever the connection holds that way
abbrev pub UnholdIsAct : {S A R : Type 0} → Meaning S A R → Type 0
UnholdIsAct {S} m =
    (slots : ℕ) (old new : Store S) (k : Machine S) (id : ConnId) (way : Way) → Represents slots old k →
    Unholds old new (record { id = id; way = way }) → (seat : ℕ) → Represents slots new (after_act m k seat (Unhold id way))

-- a free of a Dead connection does so
abbrev pub FreeIsAct : {S A R : Type 0} → Meaning S A R → Type 0
FreeIsAct {S} m =
    (slots : ℕ) (old new : Store S) (k : Machine S) (id : ConnId) → Represents slots old k → stage_of k id ≡ Dead →
    Frees old new id → (seat : ℕ) → Represents slots new (after_act m k seat (Free id))

-- a connection that holds no key of a way in the state holds none in the store, and the other way about
abbrev pub ShowsBare : (S : Type 0) → Type 0
ShowsBare S =
    (slots : ℕ) (store : Store S) (k : Machine S) (id : ConnId) (way : Way) → Represents slots store k →
    HoldsNone k id way ↔ HoldsNoKey store id way

-- what the store tells of a connection's key the connection holds
abbrev pub ShowsKeys : (S : Type 0) → Type 0
ShowsKeys S =
    (slots : ℕ) (store : Store S) (k : Machine S) (id : ConnId) (way : Way) (key : Key) → Represents slots store k →
    TellsKey store id way (Some key) → Holds k id way key

-- what the store tells of a slot is a copy of the connection there
abbrev pub ShowsKept : (S : Type 0) → Type 0
ShowsKept S =
    (slots : ℕ) (store : Store S) (k : Machine S) (slot : ℕ) (kept : Option (Kept S)) → Represents slots store k →
    TellsKept store slot kept → Copies k slot kept

-- a connection is Dead in the state where it is in the store
abbrev pub ShowsDead : (S : Type 0) → Type 0
ShowsDead S =
    (slots : ℕ) (store : Store S) (k : Machine S) (id : ConnId) → Represents slots store k →
    (stage_of k id ≡ Dead) ↔ (phase_of store id ≡ SlotPhase.Dead)

-- a connection is due in the state where it is in the store
abbrev pub ShowsDue : {S A R : Type 0} → Meaning S A R → Type 0
ShowsDue {S} m =
    (slots : ℕ) (store : Store S) (k : Machine S) (id : ConnId) (now : ℕ) → Represents slots store k →
    IsDue m now (stage_of k id) ↔ IsDuePhase m now (phase_of store id)
