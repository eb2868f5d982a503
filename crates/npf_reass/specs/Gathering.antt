-- The rule of the object: one history of offers, and each class's slot has the history's offers of the class.
use Rattle.std.specs.Prelude.{◌≡◌, ◌⊎◌, ℕ, ◌≤◌, ◌<◌, true, Some, None, List, [], length, map, slice_index}
use mathlib.Core.Option.{Option, some}
use lib.ListN.{get_elem?}
use Rattle.atomic_table.specs.Table.{State}
use Rattle.npf_seats.specs.declared.side.SeatSide.{SeatSide}
use Rattle.npf_seats.specs.Seats.{Seats}
use Rattle.npf_seats.specs.Sums.{numbers_below}
use Rattle.npf_reass.specs.declared.offer.Gathered.{Gathered}
use Rattle.npf_reass.specs.declared.offer.Offer.{Offer}
use Rattle.npf_reass.specs.declared.offer.ReassSize.{ReassSize}
use Rattle.npf_reass.specs.declared.view.ReassView.{ReassView}
use Rattle.npf_reass.specs.Class.{of_class, offer_seat}

abbrev pub reass_seat : ReassView → SeatSide ReassSize Offer
reass_seat v = v.seats

-- the slot of a class is at home, and has what was offered of it
pub record IsClassHome (classes : ℕ) (homes : List (Option Gathered)) (log : List Offer) (class : ℕ) : Type 0 where
  pub slot : Gathered
  pub there : get_elem? homes class ≡ some (some slot)
  pub has : slot.offers.items ≡ of_class classes class log

-- a pass has the turn of the class
pub record HasClassHolder (views : List ReassView) (holder class : ℕ) : Type 0 where
  pub view : ReassView
  pub there : get_elem? views holder ≡ some view
  pub turn : view.turn ≡ Some class

-- the pass that has the turn of a class is the only one, and knows what the slot had
pub record HasClassTurn (classes : ℕ) (words : List ℕ) (log : List Offer) (holder : ℕ → ℕ) (class j : ℕ) (v : ReassView) : Type 0 where
  pub inside : class < classes
  pub taken : slice_index words class ≡ 1
  pub alone : j ≡ holder class
  pub lives : v.seats.lives ≡ true
  pub place : 1 ≤ length v.seats.readers
  pub held : v.held ≡ of_class classes class log

-- where a class's turn is free its slot is at home; where it isn't, one pass has the turn
pub record ClassTurns (classes : ℕ) (words : List ℕ) (log : List Offer) (holder : ℕ → ℕ) (views : List ReassView) : Type 0 where
  pub busy : (class : ℕ) → class < classes → (slice_index words class ≡ 0) ⊎ HasClassHolder views (holder class) class
  pub turns : (j class : ℕ) (v : ReassView) → get_elem? views j ≡ some v → v.turn ≡ Some class → HasClassTurn classes words log holder class j v

pub record IsGathering (size : ReassSize) (s : State Gathered ReassView) : Type 0 where
  pub log : List Offer
  pub holder : ℕ → ℕ
  pub seats : Seats offer_seat size size.passes log (map reass_seat s.views)
  pub wide : length s.words ≡ size.classes
  pub home : (class : ℕ) → class < size.classes → slice_index s.words class ≡ 0 → IsClassHome size.classes s.homes log class
  pub turns : ClassTurns size.classes s.words log holder s.views

-- the first pass owns all places
abbrev pub first_reass_view : ReassSize → ReassView
first_reass_view size = record {
  seats = record {
    about = size;
    number = 0;
    lives = true;
    history = [];
    readers = numbers_below size.passes;
    joined = [];
    told = [];
    theirs = [];
    others = [];
  };
  turn = None;
  held = [];
}
