-- What a pass may rely on in its stay, however others go on.
use Rattle.std.specs.Prelude.{◌≡◌, ℕ, List, [], ◌∷◌, ◌++◌, Contains}
use Rattle.npf_types.specs.declared.key.Key.{Key}
use Rattle.npf_types.specs.declared.key.Way.{Way}
use Rattle.npf_core.specs.declared.conn_id.ConnId.{ConnId}
use Rattle.npf_core.specs.declared.entry.Entry.{Entry}
use Rattle.npf_core.specs.declared.held.Held.{Held}
use Rattle.npf_core.specs.declared.reply.Reply.TheVariants.{ToClaim}
use Rattle.npf_core.specs.History.{Legal, state_of, frees}
use Rattle.npf_core.specs.Machine.{HoldsNone}
use Rattle.npf_core.specs.Meaning.{Meaning}
use Rattle.npf_connections.specs.Adding.{AddsOwn}
use Rattle.npf_connections.specs.Entries.{hold_entries}
use Rattle.npf_connections.specs.Pass.{Pass, IsPass, Knows}
use Rattle.npf_connections.specs.Ways.{KeepsWays, KeepsBare}

-- an identity that the pass knows before some entries and after them isn't freed by one of them
abbrev pub KnownIsNotFreed : {S A R : Type 0} → Meaning S A R → Type 0
KnownIsNotFreed {S} {A} {R} m =
    (old now : Pass (Entry S A R)) (rest : List (Entry S A R)) (id : ConnId) → IsPass m old → IsPass m now → now.slots ≡ old.slots →
    now.history ≡ old.history ++ rest → Knows old id → Knows now id → frees id rest ≡ []

-- what was claimed by the last entry holds no key
abbrev pub ClaimedHoldsNone : {S A R : Type 0} → Meaning S A R → Type 0
ClaimedHoldsNone {S} {A} {R} m =
    (slots : ℕ) (history : List (Entry S A R)) (entry : Entry S A R) (id : ConnId) (way : Way) →
    Legal m slots (history ++ entry ∷ []) → entry.reply ≡ ToClaim id → HoldsNone (state_of m (history ++ entry ∷ [])) id way

-- a pass holds a key for a connection that it is building before the call and after it, and of that way the connection held none
pub record Holding {S A R : Type 0} (m : Meaning S A R) (old now : Pass (Entry S A R)) (id : ConnId) (key : Key) (way : Way) (result : Held) : Type 0 where
  pub before : IsPass m old
  pub after : IsPass m now
  pub builds : Contains old.builds id
  pub none : HoldsNone (state_of m old.history) id way
  pub slots : now.slots ≡ old.slots
  pub adds : AddsOwn old now.history (hold_entries old id key way result)

-- its other keys are left, and so are the ways without a key
abbrev pub HoldingKeepsWays : {S A R : Type 0} → Meaning S A R → Type 0
HoldingKeepsWays {S} {A} {R} m =
    (old now : Pass (Entry S A R)) (id : ConnId) (key : Key) (way : Way) (result : Held) →
    Holding m old now id key way result → KeepsWays (state_of m old.history) (state_of m now.history) id way result

abbrev pub HoldingKeepsBare : {S A R : Type 0} → Meaning S A R → Type 0
HoldingKeepsBare {S} {A} {R} m =
    (old now : Pass (Entry S A R)) (id : ConnId) (key : Key) (way : Way) (result : Held) →
    Holding m old now id key way result → KeepsBare (state_of m old.history) (state_of m now.history) id way result
