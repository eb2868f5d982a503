-- What a closed object's lists have.
use Rattle.std.specs.Prelude.{◌≡◌, ℕ, ◌<◌, List, All, IsPermutation, IsSortedByKey, length, slice_index_or}
use Rattle.std.specs.Ordering.{nat_cmp}
use Rattle.npf_pieces.specs.declared.piece.Piece.{Piece}
use Rattle.npf_reass.specs.declared.offer.Offer.{Offer}
use Rattle.npf_reass.specs.Class.{of_class}

-- by rising number
abbrev pub IsByNumber : List (ℕ × Piece) → Type 0
IsByNumber list = IsSortedByKey (λ offer. offer.0) nat_cmp list

-- there is a list for each class: the history's offers of the class, each once, by rising number
pub record ListsClasses (classes : ℕ) (history : List Offer) (lists : List (List (ℕ × Piece))) : Type 0 where
  pub count : length lists ≡ classes
  pub each : (class : ℕ) (d : List (ℕ × Piece)) → class < classes → IsPermutation (of_class classes class history) (slice_index_or lists class d)
  pub sorted : All IsByNumber lists

-- each list has what it had, by rising number
pub record SortsEach (old new : List (List (ℕ × Piece))) : Type 0 where
  pub count : length new ≡ length old
  pub each : (class : ℕ) (d : List (ℕ × Piece)) → class < length old → IsPermutation (slice_index_or old class d) (slice_index_or new class d)
  pub sorted : All IsByNumber new
