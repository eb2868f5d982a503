-- How passes are split and joined.
use Rattle.std.specs.Prelude.{◌≡◌, ◌≢◌, ℕ, ◌+◌, ◌-◌, max, false, ◌⊎◌, List, [], ◌∷◌, ◌++◌, Contains}
use Rattle.npf_core.specs.declared.entry.Entry.{Entry}
use Rattle.npf_core.specs.History.{IsPrefix, by}
use Rattle.npf_connections.specs.Adding.{Adds}
use Rattle.npf_connections.specs.Pass.{Pass}

-- a pass that has done nothing and owns one reader place
abbrev pub new_pass : {E : Type 0} → ℕ → ℕ → List E → Pass E
new_pass slots number history = record {
  slots = slots;
  number = number;
  history = history;
  entered = false;
  answered = [];
  builds = [];
  places = 1;
  joined = [];
  sweeps = 0;
  epoch = 0;
}

-- a pass gives up one of its reader places to a new pass of the same history, whose number has no entry and was never joined
pub record IsSplit {S A R : Type 0} (old now given : Pass (Entry S A R)) : Type 0 where
  pub adds : Adds old now.history []
  pub left : now ≡ record old { history = now.history; places = old.places - 1 }
  pub another : given.number ≢ old.number
  pub unlisted : ¬ Contains old.joined given.number
  pub unused : by given.number now.history ≡ []
  pub gives : given ≡ new_pass old.slots given.number now.history

-- a pass takes another of its table in, and with it its reader places. It holds the longer of both histories, and in it stand
-- the entries of either and of those that were joined into either, as each of them had seen its own
pub record IsJoined {S A R : Type 0} (old other now : Pass (Entry S A R)) : Type 0 where
  pub tables : other.slots ≡ old.slots
  pub another : other.number ≢ old.number
  pub longer : (now.history ≡ old.history) ⊎ (now.history ≡ other.history)
  pub mine : IsPrefix old.history now.history
  pub theirs : IsPrefix other.history now.history
  pub own : by old.number now.history ≡ by old.number old.history
  pub others : by other.number now.history ≡ by other.number other.history
  pub kept : (number : ℕ) → Contains old.joined number → by number now.history ≡ by number old.history
  pub listed : (number : ℕ) → Contains other.joined number → by number now.history ≡ by number other.history
  pub takes : now ≡ record old {
    history = now.history;
    places = old.places + other.places;
    joined = other.number ∷ (other.joined ++ old.joined);
    sweeps = old.sweeps + other.sweeps;
    epoch = max old.epoch other.epoch;
  }
