-- The identity law: an identity is claimed at most once, and each incarnation is a number of 64 bits.
use Rattle.std.specs.Prelude.{◌≡◌, ℕ, ◌<◌, ◌≤◌, ◌-◌, ◌^◌, List, ◌∷◌, ◌++◌}
use Rattle.npf_core.specs.declared.entry.Entry.{Entry}
use Rattle.npf_core.specs.declared.conn_id.ConnId.{ConnId}
use Rattle.npf_core.specs.declared.reply.Reply.TheVariants.{ToClaim}
use Rattle.npf_core.specs.declared.slot.Slot.{Slot}
use Rattle.npf_core.specs.declared.stage.Stage.TheVariants.{Vacant}
use Rattle.npf_core.specs.History.{Legal, state_of}
use Rattle.npf_core.specs.Meaning.{Meaning}

-- two claims of one history give two identities
abbrev pub ClaimsOnce : {S A R : Type 0} → Meaning S A R → ℕ → Type 0
ClaimsOnce {S} {A} {R} m slots =
    (before between rest : List (Entry S A R)) (first second : Entry S A R) (id : ConnId) →
    Legal m slots (before ++ first ∷ (between ++ second ∷ rest)) → first.reply ≡ ToClaim id → ¬ (second.reply ≡ ToClaim id)

-- the last incarnation is a number of 64 bits, and so is the next one where the slot isn't claimed
pub record IncarnationFits {S : Type 0} (slot : Slot S) : Type 0 where
  pub last : slot.inc ≤ 2 ^ 64 - 1
  pub next : slot.stage ≡ Vacant → slot.inc < 2 ^ 64 - 1

-- at each slot after each legal history
abbrev pub CountsIncarnations : {S A R : Type 0} → Meaning S A R → ℕ → Type 0
CountsIncarnations {S} {A} {R} m slots =
    (history : List (Entry S A R)) (slot : ℕ) → Legal m slots history → IncarnationFits ((state_of m history).slot slot)
