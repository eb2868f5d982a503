-- A claimed identity was claimed by an entry, and stays claimed until it is freed.
use Rattle.std.specs.Prelude.{◌≡◌, ℕ, List, [], Contains}
use Rattle.npf_core.specs.declared.entry.Entry.{Entry}
use Rattle.npf_core.specs.declared.conn_id.ConnId.{ConnId}
use Rattle.npf_core.specs.declared.reply.Reply.TheVariants.{ToClaim}
use Rattle.npf_core.specs.History.{Legal, LegalFrom, state_of, state_from, frees}
use Rattle.npf_core.specs.Machine.{Machine, stage_of, IsClaimed}
use Rattle.npf_core.specs.Meaning.{Meaning}

-- by entries of which none frees it
abbrev pub StaysClaimed : {S A R : Type 0} → Meaning S A R → ℕ → Type 0
StaysClaimed {S} {A} {R} m slots =
    (k : Machine S) (entries : List (Entry S A R)) (id : ConnId) →
    LegalFrom m slots k entries → frees id entries ≡ [] →
    IsClaimed (stage_of k id) → IsClaimed (stage_of (state_from m k entries) id)

-- an identity that is claimed before and after some entries isn't freed by one of them
abbrev pub WasNotFreed : {S A R : Type 0} → Meaning S A R → ℕ → Type 0
WasNotFreed {S} {A} {R} m slots =
    (k : Machine S) (entries : List (Entry S A R)) (id : ConnId) →
    LegalFrom m slots k entries → IsClaimed (stage_of k id) →
    IsClaimed (stage_of (state_from m k entries) id) → frees id entries ≡ []

-- the history has an entry that was answered this identity
pub record HasClaim {S A R : Type 0} (history : List (Entry S A R)) (id : ConnId) : Type 0 where
  pub entry : Entry S A R
  pub stands : Contains history entry
  pub replied : entry.reply ≡ ToClaim id

-- so has each legal history of each identity that is claimed after it
abbrev pub WasClaimed : {S A R : Type 0} → Meaning S A R → ℕ → Type 0
WasClaimed {S} {A} {R} m slots =
    (history : List (Entry S A R)) (id : ConnId) →
    Legal m slots history → IsClaimed (stage_of (state_of m history) id) → HasClaim history id
