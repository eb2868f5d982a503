-- The stale look-up law: after a look-up whose step finds the connection not Live, the key has no Live holder.
use Rattle.std.specs.Prelude.{◌≡◌, ℕ, List, ◌∷◌, ◌++◌, Some}
use Rattle.npf_types.specs.declared.key.Key.{Key}
use Rattle.npf_types.specs.declared.key.Way.{Way}
use Rattle.npf_core.specs.declared.entry.Entry.{Entry}
use Rattle.npf_core.specs.declared.act.Act.TheVariants.{Look, Step}
use Rattle.npf_core.specs.declared.conn_id.ConnId.{ConnId}
use Rattle.npf_core.specs.declared.found.Found.{Found}
use Rattle.npf_core.specs.declared.reply.Reply.TheVariants.{ToLook, ToStep}
use Rattle.npf_core.specs.declared.stepped.Stepped.{Stepped}
use Rattle.npf_core.specs.History.{Legal, state_of}
use Rattle.npf_core.specs.Machine.{HasNoLive}
use Rattle.npf_core.specs.Meaning.{Meaning}

-- the entry is a Look that finds this holder of the key
pub record Finds {S A R : Type 0} (entry : Entry S A R) (key : Key) (found : Found) : Type 0 where
  pub packet : ℕ
  pub act : entry.act ≡ Look packet key
  pub answer : entry.reply ≡ ToLook (Some found)

-- the entry is a Step that finds the connection not Live
pub record FindsNotLive {S A R : Type 0} (entry : Entry S A R) (id : ConnId) : Type 0 where
  pub packet : ℕ
  pub way : Way
  pub arg : A
  pub act : entry.act ≡ Step packet id way arg
  pub answer : entry.reply ≡ ToStep Stepped.NotLive

-- after the look-up, or after one of the entries between it and the step, the key had no Live holder
pub record HadNoLive {S A R : Type 0} (m : Meaning S A R) (before : List (Entry S A R)) (look : Entry S A R) (between : List (Entry S A R)) (key : Key) : Type 0 where
  pub earlier : List (Entry S A R)
  pub later : List (Entry S A R)
  pub split : between ≡ earlier ++ later
  pub none : HasNoLive (state_of m (before ++ look ∷ earlier)) key

-- so it is at each look-up whose holder a later step finds not Live
abbrev pub LooksUpStale : {S A R : Type 0} → Meaning S A R → ℕ → Type 0
LooksUpStale {S} {A} {R} m slots =
    (before between rest : List (Entry S A R)) (look step : Entry S A R) (key : Key) (found : Found) →
    Legal m slots (before ++ look ∷ (between ++ step ∷ rest)) → Finds look key found → FindsNotLive step found.id →
    HadNoLive m before look between key
