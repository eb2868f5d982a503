-- What can be asked of a store, and what each call makes of it. A store knows no seats: which one builds a connection is told by
-- no call.
use Rattle.std.specs.Prelude.{◌≡◌, ◌≢◌, ℕ, ◌+◌, ◌-◌, ◌^◌, ◌<◌, min, Option, Some, None, IsTrue}
use Rattle.npf_types.specs.declared.key.Key.{Key}
use Rattle.npf_types.specs.declared.key.Way.{Way}
use Rattle.npf_types.specs.declared.key.Way.TheVariants.{Forward, Backward, Port}
use Rattle.npf_core.specs.declared.conn_id.ConnId.{ConnId}
use Rattle.npf_core.specs.declared.found.Found.{Found}
use Rattle.npf_core.specs.declared.held.Held.{Held}
use Rattle.npf_core.specs.declared.kept.Kept.{Kept}
use Rattle.npf_core.specs.declared.stepped.Stepped.{Stepped}
use Rattle.npf_core.specs.Meaning.{Meaning}
use Rattle.npf_core.specs.NextState.{given_up}
use Rattle.npf_oneturn_store.specs.declared.connection.Connection.{Connection}
use Rattle.npf_oneturn_store.specs.declared.held_keys.HeldKeys.{HeldKeys}
use Rattle.npf_oneturn_store.specs.declared.phase.SlotPhase.{SlotPhase}
use Rattle.npf_oneturn_store.specs.declared.phase.SlotPhase.TheVariants.{Vacant, Building, Live, Dead}
use Rattle.npf_oneturn_store.specs.declared.store.Store.{Store}
use Rattle.npf_oneturn_store.specs.Connection.{connection_in, phase_at}
use Rattle.npf_oneturn_store.specs.Keys.{keeper_of}

-- how many slots a store has
abbrev pub slots_of : {S : Type 0} → Store S → ℕ
slots_of store = store.slots

-- the last connection of a slot: its incarnation and its phase
abbrev pub slot_of : {S : Type 0} → Store S → ℕ → Connection S
slot_of store s = connection_in store.connections.items s

-- the holder of a key
abbrev pub holder_of : {S : Type 0} → Store S → Key → Option Found
holder_of store key = keeper_of store.keys key

-- the phase of an identity
abbrev pub phase_of : {S : Type 0} → Store S → ConnId → SlotPhase S
phase_of store id = phase_at (slot_of store id.slot) id.inc

-- the connection holds no key of that way
abbrev pub HoldsNoKey : {S : Type 0} → Store S → ConnId → Way → Type 0
HoldsNoKey store id way = (key : Key) → holder_of store key ≢ Some (record { id = id; way = way })

-- the key that the connection holds that way, or none where it holds none
abbrev pub TellsKey : {S : Type 0} → Store S → ConnId → Way → Option Key → Type 0
TellsKey store id way None = HoldsNoKey store id way
TellsKey store id way (Some key) = holder_of store key ≡ Some (record { id = id; way = way })

-- each of the connection's keys
pub record TellsKeys {S : Type 0} (store : Store S) (id : ConnId) (keys : HeldKeys) : Type 0 where
  pub forward : TellsKey store id Forward keys.forward
  pub backward : TellsKey store id Backward keys.backward
  pub port : TellsKey store id Port keys.port

-- Building or Live
abbrev pub IsAlivePhase : {S : Type 0} → SlotPhase S → Type 0
IsAlivePhase Vacant = ⊥
IsAlivePhase Building = Unit {0}
IsAlivePhase (Live _ _) = Unit {0}
IsAlivePhase Dead = ⊥

-- Live
abbrev pub IsLivePhase : {S : Type 0} → SlotPhase S → Type 0
IsLivePhase Vacant = ⊥
IsLivePhase Building = ⊥
IsLivePhase (Live _ _) = Unit {0}
IsLivePhase Dead = ⊥

-- Live, and due at that time
abbrev pub IsDuePhase : {S A R : Type 0} → Meaning S A R → ℕ → SlotPhase S → Type 0
IsDuePhase m now Vacant = ⊥
IsDuePhase m now Building = ⊥
IsDuePhase m now (Live flow _) = IsTrue (m.is_due flow now)
IsDuePhase m now Dead = ⊥

-- the slot's connection if it is due at that time, or none where it isn't
abbrev pub TellsDue : {S A R : Type 0} → Meaning S A R → Store S → ℕ → ℕ → Option ConnId → Type 0
TellsDue m store slot now None = ¬ IsDuePhase m now (slot_of store slot).phase
TellsDue m store slot now (Some id) = (id.slot ≡ slot) × IsDuePhase m now (phase_of store id)

-- the slot's connection is this one, Live with this flow, and holds these keys
pub record HasKept {S : Type 0} (store : Store S) (slot : ℕ) (kept : Kept S) : Type 0 where
  pub there : kept.id.slot ≡ slot
  pub live : (steps : ℕ) × (phase_of store kept.id ≡ Live kept.state steps)
  pub forward : TellsKey store kept.id Forward kept.forward
  pub port : TellsKey store kept.id Port kept.port
  pub backward : TellsKey store kept.id Backward kept.backward

-- a copy of the slot's connection if it is Live, or none where it isn't
abbrev pub TellsKept : {S : Type 0} → Store S → ℕ → Option (Kept S) → Type 0
TellsKept store slot None = ¬ IsLivePhase (slot_of store slot).phase
TellsKept store slot (Some kept) = HasKept store slot kept

-- the slot's connection if it is Dead, or none where it isn't
abbrev pub TellsDead : {S : Type 0} → Store S → ℕ → Option ConnId → Type 0
TellsDead store slot None = (slot_of store slot).phase ≢ Dead
TellsDead store slot (Some id) = (id.slot ≡ slot) × (phase_of store id ≡ Dead)

-- a store of so many slots of which none was ever claimed, without a key
pub record IsNew {S : Type 0} (slots : ℕ) (store : Store S) : Type 0 where
  pub sized : slots_of store ≡ slots
  pub unclaimed : (s : ℕ) → slot_of store s ≡ record { inc = 0; phase = Vacant }
  pub unheld : (key : Key) → holder_of store key ≡ None

-- each slot and each key is as it was
pub record IsSame {S : Type 0} (old new : Store S) : Type 0 where
  pub sized : slots_of new ≡ slots_of old
  pub placed : (s : ℕ) → slot_of new s ≡ slot_of old s
  pub held : (key : Key) → holder_of new key ≡ holder_of old key

-- the slot of the identity has its incarnation at this phase, and all else is as it was
pub record Puts {S : Type 0} (old new : Store S) (id : ConnId) (phase : SlotPhase S) : Type 0 where
  pub sized : slots_of new ≡ slots_of old
  pub put : slot_of new id.slot ≡ record { inc = id.inc; phase = phase }
  pub others : (s : ℕ) → s ≢ id.slot → slot_of new s ≡ slot_of old s
  pub held : (key : Key) → holder_of new key ≡ holder_of old key

-- the key has this holder or none, and all else is as it was
pub record Rekeys {S : Type 0} (old new : Store S) (key : Key) (found : Option Found) : Type 0 where
  pub sized : slots_of new ≡ slots_of old
  pub placed : (s : ℕ) → slot_of new s ≡ slot_of old s
  pub now : holder_of new key ≡ found
  pub others : (other : Key) → other ≢ key → holder_of new other ≡ holder_of old other

-- the slot is the lowest that isn't claimed
pub record IsLowest {S : Type 0} (store : Store S) (slot : ℕ) : Type 0 where
  pub exists : slot < slots_of store
  pub unclaimed : (slot_of store slot).phase ≡ Vacant
  pub lowest : (s : ℕ) → s < slot → (slot_of store s).phase ≢ Vacant

-- a claim: the lowest slot that isn't claimed has its next incarnation, which is Building and holds no key
pub record Claims {S : Type 0} (old new : Store S) (id : ConnId) : Type 0 where
  pub exists : id.slot < slots_of old
  pub unclaimed : (slot_of old id.slot).phase ≡ Vacant
  pub lowest : (s : ℕ) → s < id.slot → (slot_of old s).phase ≢ Vacant
  pub next : id.inc ≡ (slot_of old id.slot).inc + 1
  pub built : Puts old new id Building
  pub bare : (way : Way) → HoldsNoKey new id way

-- each slot is claimed
abbrev pub IsFull : {S : Type 0} → Store S → Type 0
IsFull store = (s : ℕ) → s < slots_of store → (slot_of store s).phase ≢ Vacant

-- the answer to a claim: none exactly where each slot is claimed, and then all is as it was
abbrev pub AnswersClaim : {S : Type 0} → Store S → Store S → Option ConnId → Type 0
AnswersClaim old new None = IsFull old × IsSame old new
AnswersClaim old new (Some id) = Claims old new id

-- a key without a holder is given to this one
pub record GivesKey {S : Type 0} (old new : Store S) (key : Key) (found : Found) : Type 0 where
  pub unheld : holder_of old key ≡ None
  pub given : Rekeys old new key (Some found)

-- a key with this holder stays with it, as all else does
pub record FindsTaken {S : Type 0} (old new : Store S) (key : Key) (holder : Found) : Type 0 where
  pub held : holder_of old key ≡ Some holder
  pub same : IsSame old new

-- the answer to a hold: Taken exactly where the key has a holder, and there is always a node
abbrev pub AnswersHold : {S : Type 0} → Store S → Store S → Key → Found → Held → Type 0
AnswersHold old new key found Held.Done = GivesKey old new key found
AnswersHold old new key found (Held.Taken holder) = FindsTaken old new key holder
AnswersHold old new key found Held.NoNode = ⊥

-- a start: the connection is Live with this flow, and the start counts as its first step
abbrev pub Starts : {S : Type 0} → Store S → Store S → ConnId → S → Type 0
Starts old new id init = Puts old new id (Live init 1)

-- a step of a Live connection of so many steps: the law's answer and its next flow, and one step more, up to the largest number of
-- 64 bits
pub record Steps {S A R : Type 0} (m : Meaning S A R) (old new : Store S) (id : ConnId) (way : Way) (arg : A) (reply : R) (place : ℕ) : Type 0 where
  pub flow : S
  pub live : phase_of old id ≡ Live flow place
  pub answer : reply ≡ m.answer flow way arg
  pub stepped : Puts old new id (Live (m.next flow way arg) (min (place + 1) (2 ^ 64 - 1)))

-- the same step of what stands in a slot
pub record AdvancesFlow {S A R : Type 0} (m : Meaning S A R) (old new : Connection S) (way : Way) (arg : A) (reply : R) (place : ℕ) : Type 0 where
  pub flow : S
  pub live : old.phase ≡ Live flow place
  pub answer : reply ≡ m.answer flow way arg
  pub stepped : new ≡ record { inc = old.inc; phase = Live (m.next flow way arg) (min (place + 1) (2 ^ 64 - 1)) }

-- the connection isn't Live, and all is as it was
pub record IsNotLive {S : Type 0} (old new : Store S) (id : ConnId) : Type 0 where
  pub refused : ¬ IsLivePhase (phase_of old id)
  pub same : IsSame old new

-- the answer to a step: NotLive exactly where the connection isn't Live
abbrev pub AnswersStep : {S A R : Type 0} → Meaning S A R → Store S → Store S → ConnId → Way → A → Stepped R → Type 0
AnswersStep m old new id way arg (Stepped.Done reply place) = Steps m old new id way arg reply place
AnswersStep m old new id way arg Stepped.NotLive = IsNotLive old new id

-- a kill: the connection is Dead, and holds its keys
abbrev pub Kills : {S : Type 0} → Store S → Store S → ConnId → Type 0
Kills old new id = Puts old new id Dead

-- what a hold of that way leaves unheld: each other way that was, and its own where it was refused
pub record StaysBare {S : Type 0} (old new : Store S) (id : ConnId) (way : Way) (held : Held) : Type 0 where
  pub others : (other : Way) → other ≢ way → HoldsNoKey old id other → HoldsNoKey new id other
  pub refused : held ≢ Held.Done → HoldsNoKey new id way

-- an unhold: the key that the connection holds that way, if it holds one, has no holder, and all else is as it was
pub record Unholds {S : Type 0} (old new : Store S) (found : Found) : Type 0 where
  pub sized : slots_of new ≡ slots_of old
  pub placed : (s : ℕ) → slot_of new s ≡ slot_of old s
  pub held : (key : Key) → holder_of new key ≡ given_up (holder_of old key) found

-- a free: the slot isn't claimed, and keeps its incarnation
abbrev pub Frees : {S : Type 0} → Store S → Store S → ConnId → Type 0
Frees old new id = Puts old new id Vacant
