-- What the passes of a table know, one by one and together.
use Rattle.std.specs.Prelude.{◌≡◌, ℕ, ◌+◌, ◌≤◌, Bool, true, false, List, [], ◌∷◌, Contains, length}
use mathlib.Core.Option.{some}
use lib.ListN.{get_elem?}
use Rattle.npf_core.specs.declared.conn_id.ConnId.{ConnId}
use Rattle.npf_core.specs.declared.entry.Entry.{Entry}
use Rattle.npf_core.specs.declared.stage.Stage.TheVariants.{Building}
use Rattle.npf_core.specs.Machine.{Machine, stage_of, IsClaimed}
use Rattle.npf_connections.specs.Pass.{Pass}
use Rattle.npf_seats.specs.declared.side.SeatSide.{SeatSide}
use Rattle.npf_oneturn.specs.declared.view.View.{View}

-- whose an entry is
abbrev pub entry_seat : {S A R : Type 0} → Entry S A R → ℕ
entry_seat entry = entry.seat

abbrev pub seat_of_view : {S A R : Type 0} → View S A R → SeatSide ℕ (Entry S A R)
seat_of_view v = v.seats

-- how many passes are entered
abbrev pub one_if : Bool → ℕ
one_if true = 1
one_if false = 0

abbrev pub crowd_of : {S A R : Type 0} → List (View S A R) → ℕ
crowd_of [] = 0
crowd_of (v ∷ vs) = one_if v.entered + crowd_of vs

-- a pass has the turn
pub record HasHolder {S A R : Type 0} (views : List (View S A R)) : Type 0 where
  pub seat : ℕ
  pub view : View S A R
  pub there : get_elem? views seat ≡ some view
  pub turn : view.turn ≡ true

-- what a pass was answered in its stay is claimed in this state, and what it builds is Building under its number
pub record Stays {S A R : Type 0} (k : Machine S) (v : View S A R) : Type 0 where
  pub claimed : (id : ConnId) → Contains v.answered id → IsClaimed (stage_of k id)
  pub built : (id : ConnId) → Contains v.builds id → stage_of k id ≡ Building v.seats.number

-- outside a stay a pass was answered nothing and builds nothing, and one that is entered owns a reader place
pub record IsTidy {S A R : Type 0} (v : View S A R) : Type 0 where
  pub unanswered : v.entered ≡ false → v.answered ≡ []
  pub idle : v.entered ≡ false → v.builds ≡ []
  pub place : v.entered ≡ true → 1 ≤ length v.seats.readers

-- what a pass shows
abbrev pub show : {S A R : Type 0} → View S A R → Pass (Entry S A R)
show v = record {
  slots = v.seats.about;
  number = v.seats.number;
  history = v.seats.history;
  entered = v.entered;
  answered = v.answered;
  builds = v.builds;
  places = length v.seats.readers;
  joined = v.seats.joined;
  sweeps = 0;
  epoch = 0;
}
