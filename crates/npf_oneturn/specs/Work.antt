-- What is done to the store in a turn, act by act.
use Rattle.std.specs.Prelude.{◌≡◌, ◌≢◌, ◌↔◌, length, ◌<◌, ◌≤◌, ◌-◌, ◌^◌, ℕ, Bool, List, [], ◌∷◌, map, if◌then◌else◌, IsTrue}
use Rattle.npf_types.specs.declared.key.Way.{Way}
use Rattle.npf_core.specs.declared.act.Act.{Act}
use Rattle.npf_core.specs.declared.act.Act.TheVariants.{Unhold, Free}
use Rattle.npf_core.specs.declared.act.Why.{Why}
use Rattle.npf_core.specs.declared.conn_id.ConnId.{ConnId}
use Rattle.npf_core.specs.History.{LegalFrom, state_from, frees}
use Rattle.npf_core.specs.Machine.{Machine, stage_of, HoldsSome, HoldsNone}
use Rattle.npf_core.specs.Meaning.{Meaning}
use Rattle.npf_connections.specs.Ways.{HoldsThese}
use Rattle.npf_oneturn_store.specs.declared.store.Store.{Store}
use Rattle.npf_core.specs.declared.stage.Stage.TheVariants.{Dead}
use Rattle.npf_oneturn_store.specs.declared.phase.SlotPhase.{SlotPhase}
use Rattle.npf_oneturn_store.specs.Store.{phase_of, HoldsNoKey}
use Rattle.npf_oneturn_store.specs.Represents.{Represents}
use Rattle.npf_oneturn.specs.Endings.{entries_from, end_acts, expiry_acts}
use Rattle.npf_oneturn.specs.Rule.{DeadHoldNone}
use Rattle.npf_connections.specs.Expiring.{Killed, IsOneOf}
use Rattle.npf_core.specs.Allowed.{IsDue}

-- the state after acts
abbrev pub worked : {S A R : Type 0} → Meaning S A R → Machine S → ℕ → List (Act S A) → Machine S
worked m k seat acts = state_from m k (entries_from m k seat acts)

-- these acts are allowed, one after the other, and the store is in the state that they leave
pub record Works {S A R : Type 0} (m : Meaning S A R) (slots : ℕ) (k : Machine S) (seat : ℕ) (store : Store S) (acts : List (Act S A)) : Type 0 where
  pub legal : LegalFrom m slots k (entries_from m k seat acts)
  pub represents : Represents slots store (worked m k seat acts)

-- an Unhold, if there is a key
abbrev pub unhold_if : {S A : Type 0} → Bool → ConnId → Way → List (Act S A)
unhold_if held id way = if held then Unhold id way ∷ [] else []

-- a connection gave up what it held of a way
pub record GivesUp {S A R : Type 0} (m : Meaning S A R) (slots : ℕ) (k : Machine S) (seat : ℕ) (id : ConnId) (way : Way) (held : Bool) (store : Store S) : Type 0 where
  pub tells : HoldsSome k id way ↔ IsTrue held
  pub works : Works m slots k seat store (unhold_if held id way)

-- a connection was killed, and gave up all its keys
pub record EndsConnection {S A R : Type 0} (m : Meaning S A R) (slots : ℕ) (k : Machine S) (seat : ℕ) (id : ConnId) (why : Why) (store : Store S) : Type 0 where
  pub held : Way → Bool
  pub holds : HoldsThese k id held
  pub works : Works m slots k seat store (end_acts id why held)

-- connections of one slot were freed, so that none of it is Dead but one of a last incarnation
pub record FreesAt {S A R : Type 0} (m : Meaning S A R) (slots : ℕ) (k : Machine S) (seat : ℕ) (slot : ℕ) (store : Store S) : Type 0 where
  pub ids : List ConnId
  pub works : Works m slots k seat store (map (λ id. Free id) ids)
  pub before : (id : ConnId) → stage_of (worked m k seat (map (λ id. Free id) ids)) id ≡ Dead → stage_of k id ≡ Dead
  pub clean : (id : ConnId) → stage_of (worked m k seat (map (λ id. Free id) ids)) id ≡ Dead → id.slot ≡ slot → 2 ^ 64 - 1 ≤ id.inc

-- the same of each slot below this one
pub record FreesBelow {S A R : Type 0} (m : Meaning S A R) (slots : ℕ) (k : Machine S) (seat : ℕ) (below : ℕ) (store : Store S) : Type 0 where
  pub ids : List ConnId
  pub works : Works m slots k seat store (map (λ id. Free id) ids)
  pub before : (id : ConnId) → stage_of (worked m k seat (map (λ id. Free id) ids)) id ≡ Dead → stage_of k id ≡ Dead
  pub clean : (id : ConnId) → stage_of (worked m k seat (map (λ id. Free id) ids)) id ≡ Dead → id.slot < below → 2 ^ 64 - 1 ≤ id.inc

-- what is Dead in a store holds no key
abbrev pub DeadAreBare : {S : Type 0} → Store S → Type 0
DeadAreBare store = (id : ConnId) → phase_of store id ≡ SlotPhase.Dead → (way : Way) → HoldsNoKey store id way

-- connections were killed as due at the time, and gave up all their keys: so many of those of the slots below this one, and each
-- that was due there
pub record ExpiresBelow {S A R : Type 0} (m : Meaning S A R) (slots : ℕ) (k : Machine S) (seat now below count : ℕ) (store : Store S) : Type 0 where
  pub killed : List Killed
  pub works : Works m slots k seat store (expiry_acts now killed)
  pub counted : count ≡ length killed
  pub bare : DeadHoldNone k → DeadHoldNone (worked m k seat (expiry_acts now killed))
  pub unfreed : (id : ConnId) → frees id (entries_from m k seat (expiry_acts now killed)) ≡ []
  pub gave_up : (id : ConnId) (way : Way) → IsOneOf killed id → HoldsNone (worked m k seat (expiry_acts now killed)) id way
  pub others : (id : ConnId) → below ≤ id.slot → stage_of (worked m k seat (expiry_acts now killed)) id ≡ stage_of k id
  pub due : (id : ConnId) → id.slot < below → IsDue m now (stage_of k id) → IsOneOf killed id

-- the same of one slot
pub record ExpiresAt {S A R : Type 0} (m : Meaning S A R) (slots : ℕ) (k : Machine S) (seat now slot count : ℕ) (store : Store S) : Type 0 where
  pub killed : List Killed
  pub works : Works m slots k seat store (expiry_acts now killed)
  pub counted : count ≡ length killed
  pub bare : DeadHoldNone k → DeadHoldNone (worked m k seat (expiry_acts now killed))
  pub unfreed : (id : ConnId) → frees id (entries_from m k seat (expiry_acts now killed)) ≡ []
  pub gave_up : (id : ConnId) (way : Way) → IsOneOf killed id → HoldsNone (worked m k seat (expiry_acts now killed)) id way
  pub gives_none : (id : ConnId) (way : Way) → HoldsNone k id way → HoldsNone (worked m k seat (expiry_acts now killed)) id way
  pub others : (id : ConnId) → id.slot ≢ slot → stage_of (worked m k seat (expiry_acts now killed)) id ≡ stage_of k id
  pub due : (id : ConnId) → id.slot ≡ slot → IsDue m now (stage_of k id) → IsOneOf killed id
