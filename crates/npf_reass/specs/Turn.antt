-- How a pass takes the turn of a class, and ends it.
use Rattle.std.specs.Prelude.{◌≡◌, ◌≢◌, ℕ, Option, Some, None, ⊤, List, [], ◌∷◌, ◌++◌}
use Rattle.atomic_table.specs.Table.{Me, Step, rest}
use Rattle.npf_pieces.specs.declared.piece.Piece.{Piece}
use Rattle.npf_reass.specs.declared.offer.Gathered.{Gathered}
use Rattle.npf_reass.specs.declared.offer.Offer.{Offer}
use Rattle.npf_reass.specs.declared.view.ReassView.{ReassView}
use Rattle.npf_reass.specs.Class.{class_of}
use Rattle.npf_reass.specs.Passes.{view_sight}
use Rattle.npf_reass.specs.Sight.{AddsNothing, AddsOffer}

-- it took the turn of the class, and has its slot
pub record HasTakenClass (v : ReassView) (class : ℕ) (me : Me Gathered ReassView) : Type 0 where
  pub slot : Gathered
  pub is : me ≡ (record v { turn = Some class; held = slot.offers.items }, (class, slot) ∷ [])

-- what a try to take the turn tells
pub record TakesTurn (step : Step Gathered) (me : Me Gathered ReassView) (found : ℕ) (next : Me Gathered ReassView) : Type 0 where
  pub won : found ≡ 0 → HasTakenClass me.0 step.word next
  pub lost : found ≢ 0 → next ≡ me

-- what an offer, if there is one, adds to a slot
abbrev pub added : Option (ℕ × Piece) → List (ℕ × Piece)
added None = []
added (Some offered) = offered ∷ []

-- an offer, if there is one, is of this class
abbrev pub IsOfClass : ℕ → ℕ → Option (ℕ × Piece) → Type 0
IsOfClass classes class None = ⊤
IsOfClass classes class (Some offered) = class_of classes offered.1.key ≡ class

-- the pass that has the turn may end it so: the slot has what it had, and the offer
pub record MayEndClass (classes class : ℕ) (offered : Option (ℕ × Piece)) (me : Me Gathered ReassView) : Type 0 where
  pub slot : Gathered
  pub has : me.1 ≡ (class, slot) ∷ []
  pub turn : me.0.turn ≡ Some class
  pub fills : slot.offers.items ≡ me.0.held ++ added offered
  pub classed : IsOfClass classes class offered

-- what the pass shows went on by the offer, if there is one
abbrev pub AddsOffered : Option (ℕ × Piece) → ReassView → ReassView → Type 0
AddsOffered None v w = AddsNothing (view_sight v) (view_sight w)
AddsOffered (Some offered) v w = AddsOffer (view_sight v) (view_sight w) offered.0 offered.1

-- it ended so
pub record HasEndedTurn (offered : Option (ℕ × Piece)) (me next : Me Gathered ReassView) : Type 0 where
  pub history : List Offer
  pub is : next ≡ (record me.0 { seats = record me.0.seats { history = history }; turn = None; held = [] }, rest me.1)
  pub adds : AddsOffered offered me.0 next.0

abbrev pub EndsClassTurn : Option (ℕ × Piece) → Step Gathered → Me Gathered ReassView → ℕ → Me Gathered ReassView → Type 0
EndsClassTurn offered step me found next = HasEndedTurn offered me next
