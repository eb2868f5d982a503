-- What a pass of the object shows, and what its calls add.
use Rattle.std.specs.Prelude.{◌≡◌, ◌≢◌, ◌⊎◌, ℕ, ◌+◌, ◌-◌, List, [], ◌∷◌, ◌++◌, Contains}
use Rattle.npf_core.specs.History.{IsPrefix}
use Rattle.npf_pieces.specs.declared.piece.Piece.{Piece}
use Rattle.npf_seats.specs.Seats.{by_seat}
use Rattle.npf_reass.specs.declared.offer.Offer.{Offer}
use Rattle.npf_reass.specs.Class.{offer_seat}

-- the number under which its offers stand; the history that it has seen; how many places it owns; and the numbers of the passes
-- that were joined into it
pub record ReassSight : Type 0 where
  pub number : ℕ
  pub history : List Offer
  pub places : ℕ
  pub joined : List ℕ

-- the first pass owns all places, and nothing was offered yet
abbrev pub IsFirstSight : ℕ → ReassSight → Type 0
IsFirstSight passes sight = sight ≡ record { number = sight.number; history = []; places = passes; joined = [] }

-- the number is the pass's own, or that of a pass which was joined into it
abbrev pub IsOwnNumber : ReassSight → ℕ → Type 0
IsOwnNumber sight number = (number ≡ sight.number) ⊎ Contains sight.joined number

-- the offers of a number
abbrev pub offers_by : ℕ → List Offer → List Offer
offers_by = by_seat offer_seat

-- the history went on by this offer of the pass, with which it ends, and by those of others: none of a pass that was joined into it
pub record AddsOffer (old new : ReassSight) (n : ℕ) (piece : Piece) : Type 0 where
  pub others : List Offer
  pub goes_on : new ≡ record old { history = old.history ++ (others ++ record { seat = old.number; n = n; piece = piece } ∷ []) }
  pub own : offers_by old.number others ≡ []
  pub listed : (number : ℕ) → Contains old.joined number → offers_by number others ≡ []

-- no offer was added by the pass
abbrev pub AddsNothing : ReassSight → ReassSight → Type 0
AddsNothing old new = new ≡ old

-- a pass gives up one of its places to a new pass of the same history, whose number has no offer and was never joined
pub record SplitsSight (old now given : ReassSight) : Type 0 where
  pub left : now ≡ record old { places = old.places - 1 }
  pub another : given.number ≢ old.number
  pub unlisted : ¬ Contains old.joined given.number
  pub unused : offers_by given.number old.history ≡ []
  pub gives : given ≡ record { number = given.number; history = old.history; places = 1; joined = [] }

-- a pass takes another in, and with it its places. It holds the longer of both histories, and in it stand the offers of either
-- and of those that were joined into either, as each of them had seen its own
pub record JoinsSight (old other now : ReassSight) : Type 0 where
  pub another : other.number ≢ old.number
  pub longer : (now.history ≡ old.history) ⊎ (now.history ≡ other.history)
  pub mine : IsPrefix old.history now.history
  pub theirs : IsPrefix other.history now.history
  pub own : offers_by old.number now.history ≡ offers_by old.number old.history
  pub others : offers_by other.number now.history ≡ offers_by other.number other.history
  pub kept : (number : ℕ) → Contains old.joined number → offers_by number now.history ≡ offers_by number old.history
  pub listed : (number : ℕ) → Contains other.joined number → offers_by number now.history ≡ offers_by number other.history
  pub takes : now ≡ record old { history = now.history; places = old.places + other.places; joined = other.number ∷ (other.joined ++ old.joined) }
