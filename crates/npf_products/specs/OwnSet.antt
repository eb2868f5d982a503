-- The set of a condition among those of its dimension.
use Rattle.std.specs.Prelude.{◌≡◌, ◌≤◌, ◌<◌, ◌↔◌, ℕ, true, List, slice_index, slice_index_or}
use Rattle.npf_cut.specs.Dimension.{HasClass, class_at}
use Rattle.npf_products.specs.declared.axis.Axis.{Axis}
use Rattle.npf_products.specs.declared.condition.Condition.{Condition}
use Rattle.npf_products.specs.declared.kind.PacketKind.{PacketKind}
use Rattle.npf_products.specs.Condition.{has_number}
use Rattle.npf_products.specs.Number.{tops_of}

-- the set of this number has the classes of the condition's ranges
pub record IsOwnSet (kind : PacketKind) (axes : List Axis) (condition : Condition) (own : ℕ) : Type 0 where
  pub known : (none : Axis) → own < (slice_index_or axes condition.dimension none).count
  pub same : (none : Axis) (number : ℕ) → number ≤ slice_index (tops_of kind) condition.dimension
      → HasClass (slice_index_or axes condition.dimension none).dimension own (class_at (slice_index_or axes condition.dimension none).dimension number)
      ↔ (has_number condition.ranges.items number ≡ true)
