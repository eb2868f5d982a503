-- The key law: a connection that isn't Dead holds every key that a Hold gave it, and no key has two holders.
use Rattle.std.specs.Prelude.{◌≡◌, ℕ, List, ◌∷◌, ◌++◌, Some}
use Rattle.npf_types.specs.declared.key.Key.{Key}
use Rattle.npf_core.specs.declared.entry.Entry.{Entry}
use Rattle.npf_core.specs.declared.act.Act.TheVariants.{Hold}
use Rattle.npf_core.specs.declared.found.Found.{Found}
use Rattle.npf_core.specs.declared.held.Held.{Held}
use Rattle.npf_core.specs.declared.reply.Reply.TheVariants.{ToHold}
use Rattle.npf_core.specs.History.{Legal, LegalFrom, state_of, state_from}
use Rattle.npf_core.specs.Machine.{Machine, stage_of, IsAlive}
use Rattle.npf_core.specs.Meaning.{Meaning}

-- the history has a Hold that gives this key to this holder
pub record Gives {S A R : Type 0} (history : List (Entry S A R)) (key : Key) (found : Found) : Type 0 where
  pub earlier : List (Entry S A R)
  pub entry : Entry S A R
  pub later : List (Entry S A R)
  pub split : history ≡ earlier ++ entry ∷ later
  pub act : entry.act ≡ Hold found.id key found.way
  pub done : entry.reply ≡ ToHold Held.Done

-- the holder is Building or Live after the history
abbrev pub StillAlive : {S A R : Type 0} → Meaning S A R → List (Entry S A R) → Found → Type 0
StillAlive m history found = IsAlive (stage_of (state_of m history) found.id)

-- who was given a key and is Building or Live holds it
abbrev pub KeepsKeys : {S A R : Type 0} → Meaning S A R → ℕ → Type 0
KeepsKeys {S} {A} {R} m slots =
    (history : List (Entry S A R)) (key : Key) (found : Found) →
    Legal m slots history → Gives history key found → StillAlive m history found → (state_of m history).holder key ≡ Some found

-- of those that were given one key, one at most is Building or Live
abbrev pub SharesNoKey : {S A R : Type 0} → Meaning S A R → ℕ → Type 0
SharesNoKey {S} {A} {R} m slots =
    (history : List (Entry S A R)) (key : Key) (found other : Found) →
    Legal m slots history → Gives history key found → StillAlive m history found →
    Gives history key other → StillAlive m history other → found ≡ other

-- who holds a key was given it by a Hold
abbrev pub WasGiven : {S A R : Type 0} → Meaning S A R → ℕ → Type 0
WasGiven {S} {A} {R} m slots =
    (history : List (Entry S A R)) (key : Key) (found : Found) →
    Legal m slots history → (state_of m history).holder key ≡ Some found → Gives history key found

-- and holds it as long as it is Building or Live, whatever entries follow
abbrev pub StaysHolder : {S A R : Type 0} → Meaning S A R → ℕ → Type 0
StaysHolder {S} {A} {R} m slots =
    (k : Machine S) (entries : List (Entry S A R)) (key : Key) (found : Found) →
    LegalFrom m slots k entries → k.holder key ≡ Some found → IsAlive (stage_of k found.id) →
    IsAlive (stage_of (state_from m k entries) found.id) → (state_from m k entries).holder key ≡ Some found
