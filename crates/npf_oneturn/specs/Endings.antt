-- How a call ends: which acts it adds, and what the pass knows after it.
use Rattle.std.specs.Prelude.{◌≡◌, ◌⊎◌, ℕ, ◌+◌, ◌-◌, ◌^◌, ◌≤◌, Bool, true, false, List, [], ◌∷◌, ◌++◌, length, map, filter}
use Rattle.atomic_table.specs.Table.{Me, Step, rest}
use Rattle.npf_types.specs.declared.key.Way.{Way}
use Rattle.npf_core.specs.declared.act.Act.{Act}
use Rattle.npf_core.specs.declared.act.Act.TheVariants.{Claim, Look, Hold, Start, Step as Steps, Kill, Unhold, Free}
use Rattle.npf_core.specs.declared.act.Why.{Why}
use Rattle.npf_core.specs.declared.act.Why.TheVariants.{Abandoned, Expired}
use Rattle.npf_core.specs.declared.conn_id.ConnId.{ConnId}
use Rattle.npf_core.specs.declared.entry.Entry.{Entry}
use Rattle.npf_core.specs.declared.reply.Reply.{Reply}
use Rattle.npf_core.specs.declared.reply.Reply.TheVariants.{ToClaim, ToLook, ToHold, ToStep}
use Rattle.npf_core.specs.History.{LegalFrom, state_of, state_from, frees}
use Rattle.npf_core.specs.Machine.{Machine, stage_of, HoldsNone}
use Rattle.npf_core.specs.Meaning.{Meaning}
use Rattle.npf_core.specs.NextState.{after_act}
use Rattle.npf_core.specs.Replies.{reply_of}
use Rattle.npf_connections.specs.Answered.{found_ids, taken_ids, without}
use Rattle.npf_core.specs.declared.stage.Stage.TheVariants.{Dead}
use Rattle.npf_core.specs.Allowed.{IsDue}
use Rattle.npf_connections.specs.Expiring.{Killed, IsOneOf}
use Rattle.npf_connections.specs.Ways.{all_ways, HoldsThese}
use Rattle.npf_oneturn_store.specs.Represents.{Represents}
use Rattle.npf_oneturn.specs.declared.contents.Contents.{Contents}
use Rattle.npf_oneturn.specs.declared.view.View.{View}
use Rattle.npf_oneturn.specs.declared.rule.CallEnding.{CallEnding}
use Rattle.npf_oneturn.specs.declared.rule.CallEnding.TheVariants.{Enters, Leaves, Nothing, Asks, Abandons, Expires, Collects}
use Rattle.npf_oneturn.specs.Rule.{DeadHoldNone}
use Rattle.npf_oneturn.specs.Views.{one_if, Stays, IsTidy}

-- the entries of these acts under a seat, from this state on: each with the reply that the machine gives
abbrev pub entries_from : {S A R : Type 0} → Meaning S A R → Machine S → ℕ → List (Act S A) → List (Entry S A R)
entries_from m k seat [] = []
entries_from m k seat (act ∷ acts) =
    record { seat = seat; act = act; reply = reply_of m k act } ∷ entries_from m (after_act m k seat act) seat acts

-- the acts that end a connection which holds keys of these ways
abbrev pub end_acts : {S A : Type 0} → ConnId → Why → (Way → Bool) → List (Act S A)
end_acts id why held = Kill id why ∷ map (λ way. Unhold id way) (filter held all_ways)

-- the acts that kill these as due at the time, one connection after the other
abbrev pub expiry_acts : {S A : Type 0} → ℕ → List Killed → List (Act S A)
expiry_acts now [] = []
expiry_acts now (x ∷ xs) = end_acts x.id (Expired now) x.held ++ expiry_acts now xs

-- what a pass does in its turn, and how its stay goes on
pub record Plan (S A : Type 0) : Type 0 where
  pub acts : List (Act S A)
  pub entered : Bool
  pub answered : List ConnId
  pub builds : List ConnId

-- the entries of a plan
abbrev pub planned_entries : {S A R : Type 0} → Meaning S A R → Plan S A → View S A R → List (Entry S A R)
planned_entries m p v = entries_from m (state_of m v.seats.history) v.seats.number p.acts

-- the pass after it
abbrev pub ended : {S A R : Type 0} → Meaning S A R → Plan S A → View S A R → View S A R
ended m p v = record v {
  seats = record v.seats { history = v.seats.history ++ planned_entries m p v };
  turn = false;
  crowd = 0;
  entered = p.entered;
  answered = p.answered;
  builds = p.builds;
}

-- the identities of a reply
abbrev pub replied_ids : {R : Type 0} → Reply R → List ConnId
replied_ids (ToLook found) = found_ids found
replied_ids (ToClaim id) = id ∷ []
replied_ids (ToHold held) = taken_ids held
replied_ids (ToStep stepped) = []
replied_ids Reply.Nothing = []

-- what was answered in the stay after an act: a Hold begins a new stay
abbrev pub answered_after : {S A R : Type 0} → Act S A → Reply R → List ConnId → List ConnId
answered_after (Hold id key way) reply ids = replied_ids reply
answered_after (Look n key) reply ids = replied_ids reply ++ ids
answered_after (Claim n slot) reply ids = replied_ids reply ++ ids
answered_after (Start id n init) reply ids = ids
answered_after (Steps n id way arg) reply ids = ids
answered_after (Kill id why) reply ids = ids
answered_after (Unhold id way) reply ids = ids
answered_after (Free id) reply ids = ids

-- what is built after an act
abbrev pub builds_after : {S A R : Type 0} → Act S A → Reply R → List ConnId → List ConnId
builds_after (Claim n slot) reply ids = replied_ids reply ++ ids
builds_after (Start id n init) reply ids = without id ids
builds_after (Kill id why) reply ids = without id ids
builds_after (Hold id key way) reply ids = ids
builds_after (Look n key) reply ids = ids
builds_after (Steps n id way arg) reply ids = ids
builds_after (Unhold id way) reply ids = ids
builds_after (Free id) reply ids = ids

-- a call of one act
abbrev pub act_plan : {S A R : Type 0} → Meaning S A R → Act S A → View S A R → Plan S A
act_plan m act v = record {
  acts = act ∷ [];
  entered = v.entered;
  answered = answered_after act (reply_of m (state_of m v.seats.history) act) v.answered;
  builds = builds_after act (reply_of m (state_of m v.seats.history) act) v.builds;
}

-- a connection is abandoned with the keys that it holds
pub record AbandonsBy {S A R : Type 0} (m : Meaning S A R) (id : ConnId) (v : View S A R) (p : Plan S A) : Type 0 where
  pub held : Way → Bool
  pub holds : HoldsThese (state_of m v.seats.history) id held
  pub is : p ≡ record { acts = end_acts id Abandoned held; entered = v.entered; answered = v.answered; builds = without id v.builds }

-- so many connections are killed, with all their keys, and each that was due is one of them
pub record ExpiresBy {S A R : Type 0} (m : Meaning S A R) (now count : ℕ) (v : View S A R) (p : Plan S A) : Type 0 where
  pub killed : List Killed
  pub is : p ≡ record { acts = expiry_acts now killed; entered = v.entered; answered = v.answered; builds = v.builds }
  pub counted : count ≡ length killed
  pub gave_up : (id : ConnId) (way : Way) → IsOneOf killed id → HoldsNone (state_from m (state_of m v.seats.history) (planned_entries m p v)) id way
  pub due : (id : ConnId) → IsDue m now (stage_of (state_of m v.seats.history) id) → IsOneOf killed id

-- connections are freed; where nobody is entered, only one of a last incarnation is Dead then
pub record CollectsBy {S A R : Type 0} (m : Meaning S A R) (v : View S A R) (p : Plan S A) : Type 0 where
  pub ids : List ConnId
  pub is : p ≡ record { acts = map (λ id. Free id) ids; entered = v.entered; answered = v.answered; builds = v.builds }
  pub clean : v.crowd ≡ 0 → (id : ConnId) → stage_of (state_from m (state_of m v.seats.history) (planned_entries m p v)) id ≡ Dead → 2 ^ 64 - 1 ≤ id.inc

-- which plans end a call so
abbrev pub EndsBy : {S A R : Type 0} → Meaning S A R → CallEnding S A → View S A R → Plan S A → Type 0
EndsBy m Enters v p = p ≡ record { acts = []; entered = true; answered = v.answered; builds = v.builds }
EndsBy m Leaves v p = p ≡ record { acts = []; entered = false; answered = []; builds = v.builds }
EndsBy m Nothing v p = p ≡ record { acts = []; entered = v.entered; answered = v.answered; builds = v.builds }
EndsBy m (Asks act) v p = p ≡ act_plan m act v
EndsBy m (Abandons id) v p = AbandonsBy m id v p
EndsBy m (Expires now count) v p = ExpiresBy m now count v p
EndsBy m Collects v p = CollectsBy m v p

-- the pass that has the turn may end it by this plan with this value
pub record MayEnd {S A R : Type 0} (m : Meaning S A R) (p : Plan S A) (v : View S A R) (contents : Contents S) : Type 0 where
  pub legal : LegalFrom m v.seats.about (state_of m v.seats.history) (planned_entries m p v)
  pub represents : Represents v.seats.about contents.store (state_of m (v.seats.history ++ planned_entries m p v))
  pub bare : DeadHoldNone (state_of m (v.seats.history ++ planned_entries m p v))
  pub counted : contents.entered + one_if v.entered ≡ v.crowd + one_if p.entered
  pub tidy : IsTidy (ended m p v)
  pub stays : Stays (state_of m (v.seats.history ++ planned_entries m p v)) (ended m p v)
  -- it frees nothing, or nobody is entered
  pub frees : ((id : ConnId) → frees id (planned_entries m p v) ≡ []) ⊎ (v.crowd ≡ 0)

-- it has the turn, and may end it so
pub record MayEndTurn {S A R : Type 0} (m : Meaning S A R) (ending : CallEnding S A) (me : Me (Contents S) (View S A R)) : Type 0 where
  pub contents : Contents S
  pub has : me.1 ≡ (0, contents) ∷ []
  pub turn : me.0.turn ≡ true
  pub plan : Plan S A
  pub by_plan : EndsBy m ending me.0 plan
  pub may : MayEnd m plan me.0 contents

-- it ended so
pub record HasEnded {S A R : Type 0} (m : Meaning S A R) (ending : CallEnding S A) (me next : Me (Contents S) (View S A R)) : Type 0 where
  pub plan : Plan S A
  pub by_plan : EndsBy m ending me.0 plan
  pub may : (contents : Contents S) × MayEnd m plan me.0 contents
  pub is : next ≡ (ended m plan me.0, rest me.1)

abbrev pub Ends : {S A R : Type 0} → Meaning S A R → CallEnding S A → Step (Contents S) → Me (Contents S) (View S A R) → ℕ → Me (Contents S) (View S A R) → Type 0
Ends m ending step me found next = HasEnded m ending me next
