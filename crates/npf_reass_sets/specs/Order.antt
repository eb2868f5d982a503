-- The order in which the pieces of a class are put: by the numbers of their keys.
use Rattle.std.specs.Prelude.{◌≡◌, ◌<◌, Bool, List, AllPairs}
use Rattle.std.specs.List.Sorted.{IsSortedBy}
use Rattle.std.specs.Cmp.Lexicographic.{slice_cmp}
use Rattle.std.specs.Ordering.{is_lt, nat_cmp}
use Rattle.npf_pieces.specs.declared.arrived.Arrived.{Arrived}
use Rattle.npf_reass_sets.specs.Key.{key_numbers, of_key}
use Rattle.npf_pieces.specs.declared.piece.FragKey.{FragKey}

-- the key of the one is below the other's
abbrev pub is_key_below : Arrived → Arrived → Bool
is_key_below a b = is_lt (slice_cmp nat_cmp (key_numbers a.piece.key) (key_numbers b.piece.key))

-- they come in the order of their packets
abbrev pub AreByPlace : List Arrived → Type 0
AreByPlace arrived = AllPairs (λ a b. a.place < b.place) arrived

-- they are put in order, and those of one key stay in theirs
pub record SortsByKey (old new : List Arrived) : Type 0 where
  pub sorted : IsSortedBy is_key_below new
  pub stable : (key : FragKey) → of_key key new ≡ of_key key old
