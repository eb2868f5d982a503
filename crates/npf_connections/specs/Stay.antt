-- What a pass is between two calls, outside a stay and inside one, and how it goes on.
use Rattle.std.specs.Prelude.{◌≡◌, ◌≤◌, true, false}
use Rattle.npf_core.specs.declared.entry.Entry.{Entry}
use Rattle.npf_core.specs.History.{IsPrefix}
use Rattle.npf_core.specs.Meaning.{Meaning}
use Rattle.npf_connections.specs.Pass.{Pass, IsPass}

module _ {P S A R : Type 0} (m : Meaning S A R)
    (fits : P → Type 0) (view : P → Pass (Entry S A R)) where
  -- it is one of its table's and is as a pass is, and it isn't entered
  pub record IsOut (pass : P) : Type 0 where
    pub own : fits pass
    pub legal : IsPass m (view pass)
    pub out : (view pass).entered ≡ false

  -- it is one of its table's and is as a pass is, and it is entered
  pub record IsIn (pass : P) : Type 0 where
    pub own : fits pass
    pub legal : IsPass m (view pass)
    pub entered : (view pass).entered ≡ true

-- After a call the pass is as wanted, but that it may have seen more of the history, of which the
-- call says what, and loaded a later epoch.
pub record GoesOn {E : Type 0} (wanted new : Pass E) : Type 0 where
  pub view : new ≡ record wanted { history = new.history; epoch = new.epoch }
  pub epoch : wanted.epoch ≤ new.epoch

-- After many calls the pass is the same, in or out as it was and with as many reader places; its
-- history begins with what it was, and its counts didn't fall.
pub record IsLater {E : Type 0} (old new : Pass E) : Type 0 where
  pub slots : new.slots ≡ old.slots
  pub number : new.number ≡ old.number
  pub entered : new.entered ≡ old.entered
  pub places : new.places ≡ old.places
  pub begins : IsPrefix old.history new.history
  pub sweeps : old.sweeps ≤ new.sweeps
  pub epoch : old.epoch ≤ new.epoch
