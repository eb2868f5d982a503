-- How passes are split and joined, and what the step after it tells.
use Rattle.std.specs.Prelude.{◌≡◌, ◌≢◌, ◌⊎◌, ℕ, true, None, List, [], ◌++◌, Contains}
use Rattle.atomic_table.specs.Table.{Me, Step}
use Rattle.npf_core.specs.History.{IsPrefix}
use Rattle.npf_seats.specs.Moves.{givers_seat, given_seat, spent_seat, taking_seat}
use Rattle.npf_reass.specs.declared.offer.Gathered.{Gathered}
use Rattle.npf_reass.specs.declared.offer.Offer.{Offer}
use Rattle.npf_reass.specs.declared.view.ReassView.{ReassView}
use Rattle.npf_reass.specs.Sight.{offers_by}

abbrev pub gives_place : ReassView → ReassView
gives_place v = record v { seats = givers_seat v.seats }

abbrev pub given_pass_view : ReassView → ReassView
given_pass_view v = record { seats = given_seat v.seats; turn = None; held = [] }

abbrev pub takes_pass_in : ReassView → ReassView → ReassView
takes_pass_in v w = record v { seats = taking_seat v.seats w.seats }

abbrev pub emptied_view : ReassView
emptied_view = record { seats = spent_seat (record { classes = 0; passes = 0 }); turn = None; held = [] }

-- the new seat got its number: it is no other's, and has no offer
pub record IsBornPass (step : Step Gathered) (me : Me Gathered ReassView) (found : ℕ) (next : Me Gathered ReassView) : Type 0 where
  pub number : ℕ
  pub is : next ≡ (record me.0 { seats = record me.0.seats { number = number; lives = true; others = [] } }, me.1)
  pub apart : (n : ℕ) → Contains me.0.seats.others n → n ≢ number
  pub unused : offers_by number me.0.seats.history ≡ []

-- the seat read what it was told
pub record HasReadSight (step : Step Gathered) (me : Me Gathered ReassView) (found : ℕ) (next : Me Gathered ReassView) : Type 0 where
  pub history : List Offer
  pub is : next ≡ (record me.0 { seats = record me.0.seats { history = history; joined = me.0.seats.theirs ++ me.0.seats.joined; told = []; theirs = [] } }, me.1)
  pub longer : (history ≡ me.0.seats.history) ⊎ (history ≡ me.0.seats.told)
  pub mine : IsPrefix me.0.seats.history history
  pub theirs : IsPrefix me.0.seats.told history
  pub own : offers_by me.0.seats.number history ≡ offers_by me.0.seats.number me.0.seats.history
  pub kept : (n : ℕ) → Contains me.0.seats.joined n → offers_by n history ≡ offers_by n me.0.seats.history
  pub listed : (n : ℕ) → Contains me.0.seats.theirs n → offers_by n history ≡ offers_by n me.0.seats.told
  pub apart : (n : ℕ) → Contains me.0.seats.theirs n → n ≢ me.0.seats.number
