-- The rule of a table whose state lies in one slot under one turn.
use Rattle.std.specs.Prelude.{◌≡◌, ◌≢◌, ℕ, ◌≤◌, true, false, List, [], length, map, slice_index}
use mathlib.Core.Option.{some}
use lib.ListN.{get_elem?}
use Rattle.atomic_table.specs.Table.{State}
use Rattle.npf_types.specs.declared.key.Way.{Way}
use Rattle.npf_core.specs.declared.conn_id.ConnId.{ConnId}
use Rattle.npf_core.specs.declared.entry.Entry.{Entry}
use Rattle.npf_core.specs.declared.stage.Stage.TheVariants.{Dead}
use Rattle.npf_core.specs.History.{Legal, state_of}
use Rattle.npf_core.specs.Machine.{Machine, stage_of, HoldsNone}
use Rattle.npf_core.specs.Meaning.{Meaning}
use Rattle.npf_connections.specs.Pass.{all_places}
use Rattle.npf_seats.specs.Moves.{first_seat}
use Rattle.npf_seats.specs.Seats.{Seats}
use Rattle.npf_seats.specs.Sums.{numbers_below}
use Rattle.npf_oneturn_store.specs.Represents.{Represents}
use Rattle.npf_oneturn.specs.declared.contents.Contents.{Contents}
use Rattle.npf_oneturn.specs.declared.view.View.{View}
use Rattle.npf_oneturn.specs.Views.{entry_seat, seat_of_view, crowd_of, HasHolder, Stays, IsTidy}

-- what the rule says of one pass beside its seat
pub record FitsRule {S A R : Type 0} (k : Machine S) (v : View S A R) : Type 0 where
  pub tidy : IsTidy v
  pub stays : v.seats.lives ≡ true → Stays k v

-- what is Dead holds no key
abbrev pub DeadHoldNone : {S : Type 0} → Machine S → Type 0
DeadHoldNone k = (id : ConnId) → stage_of k id ≡ Dead → (way : Way) → HoldsNone k id way

-- the slot has the state after the history, and the count of the passes that are entered
pub record IsHome {S A R : Type 0} (m : Meaning S A R) (slots : ℕ) (s : State (Contents S) (View S A R)) (log : List (Entry S A R)) : Type 0 where
  pub contents : Contents S
  pub there : get_elem? s.homes 0 ≡ some (some contents)
  pub represents : Represents slots contents.store (state_of m log)
  pub counted : contents.entered ≡ crowd_of s.views

-- the pass that has the turn has seen the whole history, and knows how many are entered
pub record HasTurn {S A R : Type 0} (s : State (Contents S) (View S A R)) (log : List (Entry S A R)) (holder j : ℕ) (v : View S A R) : Type 0 where
  pub taken : slice_index s.words 0 ≡ 1
  pub alone : j ≡ holder
  pub lives : v.seats.lives ≡ true
  pub place : 1 ≤ length v.seats.readers
  pub newest : v.seats.history ≡ log
  pub crowd : v.crowd ≡ crowd_of s.views

-- the rule: there is a legal history; where the turn is free its state lies in the slot, and where it isn't a pass has it; one pass
-- at most has the turn; the seats keep their part, and each pass fits beside it
pub record IsRuled {S A R : Type 0} (m : Meaning S A R) (slots : ℕ) (s : State (Contents S) (View S A R)) : Type 0 where
  pub log : List (Entry S A R)
  pub holder : ℕ
  pub legal : Legal m slots log
  pub bare : DeadHoldNone (state_of m log)
  pub words : length s.words ≡ 1
  pub home : slice_index s.words 0 ≡ 0 → IsHome m slots s log
  pub held : slice_index s.words 0 ≢ 0 → HasHolder s.views
  pub turns : (j : ℕ) (v : View S A R) → get_elem? s.views j ≡ some v → v.turn ≡ true → HasTurn s log holder j v
  pub seats : Seats entry_seat slots all_places log (map seat_of_view s.views)
  pub each : (j : ℕ) (v : View S A R) → get_elem? s.views j ≡ some v → FitsRule (state_of m log) v

-- the first pass
abbrev pub first_view : {S A R : Type 0} → ℕ → View S A R
first_view slots = record {
  seats = first_seat slots (numbers_below all_places);
  turn = false;
  entered = false;
  answered = [];
  builds = [];
  crowd = 0;
}
