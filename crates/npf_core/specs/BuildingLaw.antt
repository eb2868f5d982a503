-- A connection that is Building is its seat's alone: the entries of other seats leave it Building and give it no key.
use Rattle.std.specs.Prelude.{◌≡◌, ℕ, List, []}
use Rattle.npf_types.specs.declared.key.Way.{Way}
use Rattle.npf_core.specs.declared.act.Act.TheVariants.{Claim}
use Rattle.npf_core.specs.declared.entry.Entry.{Entry}
use Rattle.npf_core.specs.declared.conn_id.ConnId.{ConnId}
use Rattle.npf_core.specs.declared.stage.Stage.TheVariants.{Building}
use Rattle.npf_core.specs.History.{LegalFrom, state_from, by}
use Rattle.npf_core.specs.Machine.{Machine, stage_of, HoldsNone}
use Rattle.npf_core.specs.Meaning.{Meaning}
use Rattle.npf_core.specs.NextState.{after_act}
use Rattle.npf_core.specs.Replies.{claimed_id}

-- what a claim gives is Building under its seat
abbrev pub ClaimsBuild : {S A R : Type 0} → Meaning S A R → Type 0
ClaimsBuild {S} m =
    (k : Machine S) (seat packet slot : ℕ) → stage_of (after_act m k seat (Claim packet slot)) (claimed_id k slot) ≡ Building seat

-- it stays Building
abbrev pub StaysBuilding : {S A R : Type 0} → Meaning S A R → ℕ → Type 0
StaysBuilding {S} {A} {R} m slots =
    (k : Machine S) (entries : List (Entry S A R)) (seat : ℕ) (id : ConnId) →
    LegalFrom m slots k entries → by seat entries ≡ [] →
    stage_of k id ≡ Building seat → stage_of (state_from m k entries) id ≡ Building seat

-- it is given no key
abbrev pub IsGivenNone : {S A R : Type 0} → Meaning S A R → ℕ → Type 0
IsGivenNone {S} {A} {R} m slots =
    (k : Machine S) (entries : List (Entry S A R)) (seat : ℕ) (id : ConnId) (way : Way) →
    LegalFrom m slots k entries → by seat entries ≡ [] → stage_of k id ≡ Building seat →
    HoldsNone k id way → HoldsNone (state_from m k entries) id way
