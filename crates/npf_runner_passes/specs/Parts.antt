-- How passes are split off a pass, one after the other, and what stands then.
use Rattle.std.specs.Prelude.{◌≡◌, ◌≢◌, ℕ, ◌-◌, ◌≤◌, List, [], All, length, Contains}
use Rattle.npf_core.specs.declared.entry.Entry.{Entry}
use Rattle.npf_core.specs.History.{IsPrefix, by}
use Rattle.npf_connections.specs.Adding.{Adds}
use Rattle.npf_connections.specs.Joining.{new_pass}
use Rattle.npf_connections.specs.Pass.{Pass}

-- a pass that was split off: it has seen what the pass had, and done nothing, under a number that isn't the pass's nor of one that
-- was joined into it
pub record IsGiven {S A R : Type 0} (old given : Pass (Entry S A R)) : Type 0 where
  pub begins : IsPrefix old.history given.history
  pub another : given.number ≢ old.number
  pub unlisted : ¬ Contains old.joined given.number
  pub unused : by given.number given.history ≡ []
  pub rests : given ≡ new_pass old.slots given.number given.history

-- the pass with another history and so many reader places
abbrev pub with_places : {E : Type 0} → Pass E → List E → ℕ → Pass E
with_places pass history places = record pass { history = history; places = places }

-- the pass gave up a reader place to each of these, and did nothing itself
pub record Spreads {S A R : Type 0} (old now : Pass (Entry S A R)) (given : List (Pass (Entry S A R))) : Type 0 where
  pub adds : Adds old now.history []
  pub enough : length given ≤ old.places
  pub left : now ≡ with_places old now.history (old.places - length given)
  pub each : All (IsGiven old) given
