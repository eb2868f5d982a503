-- What a pass of a table shows.
use Rattle.std.specs.Prelude.{◌≡◌, ℕ, ◌≤◌, Bool, false, ◌⊎◌, List, [], Contains}
use Rattle.npf_core.specs.declared.conn_id.ConnId.{ConnId}
use Rattle.npf_core.specs.declared.entry.Entry.{Entry}
use Rattle.npf_core.specs.declared.stage.Stage.TheVariants.{Building}
use Rattle.npf_core.specs.History.{Legal, state_of}
use Rattle.npf_core.specs.Machine.{stage_of, IsClaimed}
use Rattle.npf_core.specs.Meaning.{Meaning}
use Rattle.npf_connections.specs.Worn.{last_epoch}

-- its table's number of slots; the number under which its entries stand; the history that it has seen; whether it is entered;
-- the identities that it was answered in this stay, and those that it is building; how many reader places it owns; the
-- numbers of the passes that were joined into it; its count of full sweeps; and the greatest epoch that it loaded, 0 where its
-- table has none
pub record Pass (E : Type 0) : Type 0 where
  pub slots : ℕ
  pub number : ℕ
  pub history : List E
  pub entered : Bool
  pub answered : List ConnId
  pub builds : List ConnId
  pub places : ℕ
  pub joined : List ℕ
  pub sweeps : ℕ
  pub epoch : ℕ

-- a table has so many reader places in all
abbrev pub all_places : ℕ
all_places = 66

-- the number is the pass's own, or that of a pass which was joined into it
abbrev pub IsOwn : {E : Type 0} → Pass E → ℕ → Type 0
IsOwn pass seat = (seat ≡ pass.number) ⊎ Contains pass.joined seat

-- its history is legal; what it was answered in this stay is claimed, so it wasn't freed since; what it builds is Building
-- under its number; outside a stay it was answered nothing and builds nothing; where it owns all reader places, each entry is
-- its own or that of a pass which was joined into it; and it loaded no epoch past the last
pub record IsPass {S A R : Type 0} (m : Meaning S A R) (pass : Pass (Entry S A R)) : Type 0 where
  pub legal : Legal m pass.slots pass.history
  pub stays : (id : ConnId) → Contains pass.answered id → IsClaimed (stage_of (state_of m pass.history) id)
  pub building : (id : ConnId) → Contains pass.builds id → stage_of (state_of m pass.history) id ≡ Building pass.number
  pub unanswered : pass.entered ≡ false → pass.answered ≡ []
  pub idle : pass.entered ≡ false → pass.builds ≡ []
  pub alone : pass.places ≡ all_places → (entry : Entry S A R) → Contains pass.history entry → IsOwn pass entry.seat
  pub most : pass.epoch ≤ last_epoch

-- the pass was answered the identity in this stay, or is building it
abbrev pub Knows : {E : Type 0} → Pass E → ConnId → Type 0
Knows pass id = Contains pass.answered id ⊎ Contains pass.builds id

-- the first pass of a new table of so many slots: it owns all reader places, and nothing was asked yet
abbrev pub IsFirstPass : {E : Type 0} → ℕ → Pass E → Type 0
IsFirstPass slots pass = pass ≡ record {
  slots = slots;
  number = pass.number;
  history = [];
  entered = false;
  answered = [];
  builds = [];
  places = all_places;
  joined = [];
  sweeps = 0;
  epoch = 0;
}
