-- How the views of passes are cut in two and made one.
use Rattle.std.specs.Prelude.{◌≡◌, ◌≢◌, ◌⊎◌, ℕ, ◌≤◌, true, false, List, [], ◌++◌, Contains, length}
use Rattle.atomic_table.specs.Table.{Me, Step}
use Rattle.npf_core.specs.declared.entry.Entry.{Entry}
use Rattle.npf_core.specs.History.{Legal, IsPrefix, by}
use Rattle.npf_core.specs.Meaning.{Meaning}
use Rattle.npf_connections.specs.Pass.{IsOwn, all_places}
use Rattle.npf_seats.specs.Moves.{givers_seat, given_seat, taking_seat, spent_seat}
use Rattle.npf_oneturn.specs.declared.contents.Contents.{Contents}
use Rattle.npf_oneturn.specs.declared.view.View.{View}
use Rattle.npf_oneturn.specs.Views.{show}

-- the pass that gives up a place, and the new one, which has no number yet
abbrev pub giver : {S A R : Type 0} → View S A R → View S A R
giver v = record v { seats = givers_seat v.seats }

abbrev pub newcomer : {S A R : Type 0} → View S A R → View S A R
newcomer v = record { seats = given_seat v.seats; turn = false; entered = false; answered = []; builds = []; crowd = 0 }

-- the pass that takes another in, which it hasn't read yet, and what is left of that one
abbrev pub taker_in : {S A R : Type 0} → View S A R → View S A R → View S A R
taker_in v w = record v { seats = taking_seat v.seats w.seats }

abbrev pub spent_view : {S A R : Type 0} → View S A R
spent_view = record { seats = spent_seat 0; turn = false; entered = false; answered = []; builds = []; crowd = 0 }

-- the new pass got its number: it is no other's, and has no entry
pub record GetsNumber {S A R : Type 0} (m : Meaning S A R) (step : Step (Contents S)) (me : Me (Contents S) (View S A R)) (found : ℕ) (next : Me (Contents S) (View S A R)) : Type 0 where
  pub number : ℕ
  pub is : next ≡ (record me.0 { seats = record me.0.seats { number = number; lives = true; others = [] } }, me.1)
  pub apart : (n : ℕ) → Contains me.0.seats.others n → n ≢ number
  pub unused : by number me.0.seats.history ≡ []
  pub legal : Legal m me.0.seats.about me.0.seats.history

-- the pass read what it was told
pub record Learns {S A R : Type 0} (m : Meaning S A R) (step : Step (Contents S)) (me : Me (Contents S) (View S A R)) (found : ℕ) (next : Me (Contents S) (View S A R)) : Type 0 where
  pub history : List (Entry S A R)
  pub is : next ≡ (record me.0 { seats = record me.0.seats { history = history; joined = me.0.seats.theirs ++ me.0.seats.joined; told = []; theirs = [] } }, me.1)
  pub longer : (history ≡ me.0.seats.history) ⊎ (history ≡ me.0.seats.told)
  pub mine : IsPrefix me.0.seats.history history
  pub theirs : IsPrefix me.0.seats.told history
  pub own : by me.0.seats.number history ≡ by me.0.seats.number me.0.seats.history
  pub kept : (n : ℕ) → Contains me.0.seats.joined n → by n history ≡ by n me.0.seats.history
  pub listed : (n : ℕ) → Contains me.0.seats.theirs n → by n history ≡ by n me.0.seats.told
  pub apart : (n : ℕ) → Contains me.0.seats.theirs n → n ≢ me.0.seats.number
  pub legal : Legal m me.0.seats.about history
  pub most : length me.0.seats.readers ≤ all_places
  pub sole : length me.0.seats.readers ≡ all_places → (n : ℕ) → (by n history ≡ []) ⊎ IsOwn (show next.0) n
