-- How far the sets of a class are found.
use Rattle.std.specs.Prelude.{ℕ, ◌<◌, ◌≤◌, List, All, length, slice_index_or}
use Rattle.npf_pieces.specs.declared.arrived.Arrived.{Arrived}
use Rattle.npf_pieces.specs.Sets.{Set}
use Rattle.npf_reass_sets.specs.Among.{IsSetAmong}
use Rattle.npf_reass_sets.specs.Class.{IsInSet, SplitsKeys}

-- of pieces in the order of their keys, which came as the old ones, those in front of a place are in these sets
pub record HasFound (old all : List Arrived) (at : ℕ) (sets : List Set) : Type 0 where
  pub within : at ≤ length all
  pub splits : SplitsKeys all at
  pub sound : All (IsSetAmong old) sets
  pub each : (k : ℕ) (d : Arrived) → k < at → IsInSet sets (slice_index_or all k d)
