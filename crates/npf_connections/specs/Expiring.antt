-- Which connections are expired, and which are left.
use Rattle.std.specs.Prelude.{◌≡◌, ℕ, Bool, List, [], ◌∷◌, ◌++◌, map, length, Contains, ◌⊎◌}
use Rattle.npf_types.specs.declared.key.Way.{Way}
use Rattle.npf_core.specs.declared.act.Why.TheVariants.{Expired}
use Rattle.npf_core.specs.declared.conn_id.ConnId.{ConnId}
use Rattle.npf_core.specs.declared.entry.Entry.{Entry}
use Rattle.npf_core.specs.Allowed.{IsDue}
use Rattle.npf_core.specs.History.{state_of, IsPrefix}
use Rattle.npf_core.specs.Machine.{stage_of, IsLive, HoldsNone}
use Rattle.npf_core.specs.Meaning.{Meaning}
use Rattle.npf_connections.specs.Adding.{Adds}
use Rattle.npf_connections.specs.Entries.{end_entries}
use Rattle.npf_connections.specs.Pass.{Pass}

-- a connection that was killed, and the ways of the keys that it gave up
pub record Killed : Type 0 where
  pub id : ConnId
  pub held : Way → Bool

-- the entries that kill these as due at the time, one connection after the other
abbrev pub expiry_entries : {S A R : Type 0} → Pass (Entry S A R) → ℕ → List Killed → List (Entry S A R)
expiry_entries pass now [] = []
expiry_entries pass now (x ∷ xs) = end_entries pass x.id (Expired now) x.held ++ expiry_entries pass now xs

-- the identity is that of one of these
abbrev pub IsOneOf : List Killed → ConnId → Type 0
IsOneOf killed id = Contains (map (λ (x : Killed). x.id) killed) id

-- at some point of a call the connection was not due at the time
pub record WasNotDue {S A R : Type 0} (m : Meaning S A R) (old new : List (Entry S A R)) (id : ConnId) (now : ℕ) : Type 0 where
  pub point : List (Entry S A R)
  pub begins : IsPrefix old point
  pub goes_on : IsPrefix point new
  pub idle : ¬ IsDue m now (stage_of (state_of m point) id)

-- so many were killed, each of them due; each gave up all its keys in the call; and each that was Live before the call is
-- one of them or was not due at some point of it
pub record Expires {S A R : Type 0} (m : Meaning S A R) (old : Pass (Entry S A R)) (new : List (Entry S A R)) (now count : ℕ) : Type 0 where
  pub killed : List Killed
  pub adds : Adds old new (expiry_entries old now killed)
  pub counted : count ≡ length killed
  pub gave_up : (id : ConnId) (way : Way) → IsOneOf killed id → HoldsNone (state_of m new) id way
  pub left : (id : ConnId) → IsLive (stage_of (state_of m old.history) id) → IsOneOf killed id ⊎ WasNotDue m old.history new id now
