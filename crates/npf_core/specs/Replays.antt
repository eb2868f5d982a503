-- Acts that are asked for, and their history.
use Rattle.std.specs.Prelude.{◌≡◌, ℕ, List, map, take, slice_get, Some}
use Rattle.npf_core.specs.declared.entry.Entry.{Entry}
use Rattle.npf_core.specs.declared.replays.Asked.{Asked}
use Rattle.npf_core.specs.declared.replays.ReplayFault.{ReplayFault}
use Rattle.npf_core.specs.declared.replays.ReplayFault.TheVariants.{NotAllowed, NoMemory}
use Rattle.npf_core.specs.Allowed.{Allows}
use Rattle.npf_core.specs.History.{Legal, state_of}
use Rattle.npf_core.specs.Meaning.{Meaning}

-- the acts of a history
abbrev pub asked_in : {S A R : Type 0} → List (Entry S A R) → List (Asked S A)
asked_in = map (λ entry. record { seat = entry.seat; act = entry.act })

-- the acts before this place have a legal history, and the act at it isn't allowed after that
pub record ReplayStopsAt {S A R : Type 0} (m : Meaning S A R) (slots : ℕ) (asked : List (Asked S A)) (at : ℕ) : Type 0 where
  pub history : List (Entry S A R)
  pub legal : Legal m slots history
  pub before : asked_in history ≡ take at asked
  pub next : Asked S A
  pub stands : slice_get asked at ≡ Some next
  pub refused : ¬ Allows m slots (state_of m history) next.seat next.act

-- what a fault says of the acts; want of memory says nothing
abbrev pub HasReplayFault : {S A R : Type 0} → Meaning S A R → ℕ → List (Asked S A) → ReplayFault → Type 0
HasReplayFault m slots asked (NotAllowed at) = ReplayStopsAt m slots asked at
HasReplayFault m slots asked NoMemory = Unit {0}
