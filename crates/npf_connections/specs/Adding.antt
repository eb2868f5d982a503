-- What a call adds to the history of the pass that makes it.
use Rattle.std.specs.Prelude.{◌≡◌, ℕ, List, [], ◌∷◌, ◌++◌, Contains}
use Rattle.npf_core.specs.declared.entry.Entry.{Entry}
use Rattle.npf_core.specs.History.{by}
use Rattle.npf_connections.specs.Pass.{Pass}

-- the history went on by these entries of the pass, in this order, and by those of others: none of a pass that was joined into it
pub record Adds {S A R : Type 0} (old : Pass (Entry S A R)) (new mine : List (Entry S A R)) : Type 0 where
  pub rest : List (Entry S A R)
  pub goes_on : new ≡ old.history ++ rest
  pub own : by old.number rest ≡ mine
  pub listed : (number : ℕ) → Contains old.joined number → by number rest ≡ []

-- the history ends with the last of these entries, if there are any
abbrev pub EndsWith : {E : Type 0} → List E → List E → Type 0
EndsWith {E} history mine = (init : List E) (last : E) → mine ≡ init ++ last ∷ [] → (before : List E) × (history ≡ before ++ last ∷ [])

-- both
pub record AddsOwn {S A R : Type 0} (old : Pass (Entry S A R)) (new mine : List (Entry S A R)) : Type 0 where
  pub adds : Adds old new mine
  pub ends : EndsWith new mine
