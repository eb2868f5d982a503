-- Who holds a key is claimed, so an identity that isn't claimed holds none; and a connection holds one key of a way at most.
use Rattle.std.specs.Prelude.{◌≡◌, ℕ, List, Some}
use Rattle.npf_types.specs.declared.key.Key.{Key}
use Rattle.npf_types.specs.declared.key.Way.{Way}
use Rattle.npf_core.specs.declared.entry.Entry.{Entry}
use Rattle.npf_core.specs.declared.conn_id.ConnId.{ConnId}
use Rattle.npf_core.specs.declared.found.Found.{Found}
use Rattle.npf_core.specs.declared.stage.Stage.TheVariants.{Vacant}
use Rattle.npf_core.specs.History.{Legal, state_of}
use Rattle.npf_core.specs.Machine.{Machine, stage_of, IsClaimed, Holds, HoldsNone}
use Rattle.npf_core.specs.Meaning.{Meaning}
use Rattle.npf_core.specs.Replies.{claimed_id}

-- each key's holder is claimed
abbrev pub HoldersAreClaimed : {S : Type 0} → Machine S → Type 0
HoldersAreClaimed k = (key : Key) (found : Found) → k.holder key ≡ Some found → IsClaimed (stage_of k found.id)

-- an identity that isn't claimed holds no key
abbrev pub UnclaimedHoldNone : {S : Type 0} → Machine S → Type 0
UnclaimedHoldNone k = (id : ConnId) (way : Way) → stage_of k id ≡ Vacant → HoldsNone k id way

-- two keys that a connection holds that way are one
abbrev pub HoldsOneAWay : {S : Type 0} → Machine S → Type 0
HoldsOneAWay k = (id : ConnId) (way : Way) (key other : Key) → Holds k id way key → Holds k id way other → key ≡ other

-- a claim of the slot gives an identity that holds no key
abbrev pub ClaimsWithNone : {S : Type 0} → Machine S → Type 0
ClaimsWithNone k = (slot : ℕ) (way : Way) → HoldsNone k (claimed_id k slot) way

-- in the state after each legal history
abbrev pub InEachState : {S A R : Type 0} → Meaning S A R → ℕ → (Machine S → Type 0) → Type 0
InEachState {S} {A} {R} m slots P = (history : List (Entry S A R)) → Legal m slots history → P (state_of m history)
