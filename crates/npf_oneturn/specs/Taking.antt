-- What a pass knows that took the turn.
use Rattle.std.specs.Prelude.{◌≡◌, ◌≢◌, ◌⊎◌, ℕ, ◌≤◌, true, false, List, [], ◌∷◌, Contains, length}
use Rattle.atomic_table.specs.Table.{Me, Step}
use Rattle.npf_core.specs.declared.entry.Entry.{Entry}
use Rattle.npf_core.specs.History.{Legal, state_of, IsPrefix, by}
use Rattle.npf_core.specs.Meaning.{Meaning}
use Rattle.npf_connections.specs.Pass.{IsOwn, all_places}
use Rattle.npf_oneturn_store.specs.Represents.{Represents}
use Rattle.npf_oneturn.specs.declared.contents.Contents.{Contents}
use Rattle.npf_oneturn.specs.declared.view.View.{View}
use Rattle.npf_oneturn.specs.Rule.{DeadHoldNone}
use Rattle.npf_oneturn.specs.Views.{one_if, Stays, IsTidy, show}

-- a pass is between two calls: it holds nothing, and has its number and all that it was told
pub record IsResting {S A R : Type 0} (me : Me (Contents S) (View S A R)) : Type 0 where
  pub free : me.1 ≡ []
  pub turn : me.0.turn ≡ false
  pub lives : me.0.seats.lives ≡ true
  pub theirs : me.0.seats.theirs ≡ []
  pub place : 1 ≤ length me.0.seats.readers
  pub most : length me.0.seats.readers ≤ all_places

-- it took the turn: it has seen the whole history, in which nobody added under its number or a listed one, and has the slot's value
pub record Taken {S A R : Type 0} (m : Meaning S A R) (v : View S A R) (me : Me (Contents S) (View S A R)) : Type 0 where
  pub log : List (Entry S A R)
  pub crowd : ℕ
  pub contents : Contents S
  pub is : me ≡ (record v { seats = record v.seats { history = log }; turn = true; crowd = crowd }, (0, contents) ∷ [])
  pub goes_on : IsPrefix v.seats.history log
  pub own : by v.seats.number log ≡ by v.seats.number v.seats.history
  pub listed : (n : ℕ) → Contains v.seats.joined n → by n log ≡ by n v.seats.history
  pub apart : (n : ℕ) → Contains v.seats.joined n → n ≢ v.seats.number
  pub legal : Legal m v.seats.about log
  pub bare : DeadHoldNone (state_of m log)
  pub tidy : IsTidy v
  pub stays : Stays (state_of m log) v
  pub represents : Represents v.seats.about contents.store (state_of m log)
  pub counted : contents.entered ≡ crowd
  pub sole : length v.seats.readers ≡ all_places → (n : ℕ) → (by n log ≡ []) ⊎ IsOwn (show v) n
  pub most : length v.seats.readers ≤ all_places
  pub few : crowd ≤ all_places
  pub counts : one_if v.entered ≤ crowd
  pub alone : length v.seats.readers ≡ all_places → crowd ≡ one_if v.entered

-- what a try to take the turn tells
pub record TakesOrNot {S A R : Type 0} (m : Meaning S A R) (step : Step (Contents S)) (me : Me (Contents S) (View S A R)) (found : ℕ) (next : Me (Contents S) (View S A R)) : Type 0 where
  pub won : found ≡ 0 → Taken m me.0 next
  pub lost : found ≢ 0 → next ≡ me
