-- What the decision of a class tells.
use Rattle.std.specs.Prelude.{ℕ, ◌<◌, ◌≤◌, ◌≡◌, true, false, Bool, List, All, Contains, IsPermutation, length, map, slice_index_or}
use Rattle.npf_pieces.specs.declared.arrived.Arrived.{Arrived}
use Rattle.npf_pieces.specs.Sets.{Set, StandsIn, set_at}
use Rattle.npf_reass_sets.specs.declared.class.ClassSets.{ClassSets}
use Rattle.npf_reass_sets.specs.Among.{IsSetAmong}
use Rattle.npf_reass_sets.specs.Key.{is_frag_key}

-- the sets that a class tells
abbrev pub class_sets : ClassSets → List Set
class_sets class = map (set_at class.arrived.items) class.sets.items

-- one of some sets has this piece
pub record IsInSet (sets : List Set) (a : Arrived) : Type 0 where
  pub set : Set
  pub among : Contains sets set
  pub has : Contains set.pieces a

-- these are sets of those pieces, and each of those is in one
pub record DecidesClass (arrived : List Arrived) (class : ClassSets) : Type 0 where
  pub same : IsPermutation arrived class.arrived.items
  pub places : All (StandsIn (length class.arrived.items)) class.sets.items
  pub sets : All (IsSetAmong arrived) (class_sets class)
  pub each : All (IsInSet (class_sets class)) arrived

-- both are of one key
abbrev pub same_key : Arrived → Arrived → Bool
same_key a b = is_frag_key a.piece.key b.piece.key

-- no piece in front of a place is of the key of one from there on
abbrev pub SplitsKeys : List Arrived → ℕ → Type 0
SplitsKeys arrived at = (i j : ℕ) (d : Arrived) → i < at → at ≤ j → j < length arrived
    → same_key (slice_index_or arrived i d) (slice_index_or arrived j d) ≡ false

-- the pieces from one place up to another are of the key of the first, and the one behind them isn't
pub record IsRunOfKey (arrived : List Arrived) (from to : ℕ) : Type 0 where
  pub order : from < to
  pub within : to ≤ length arrived
  pub same : (k : ℕ) (d : Arrived) → from ≤ k → k < to → same_key (slice_index_or arrived from d) (slice_index_or arrived k d) ≡ true
  pub other : (d : Arrived) → to < length arrived → same_key (slice_index_or arrived from d) (slice_index_or arrived to d) ≡ false
