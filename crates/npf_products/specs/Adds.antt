-- What conditions that are put behind others say of packets.
use Rattle.std.specs.Prelude.{◌≡◌, ◌&&◌, ◌==◌, ℕ, Bool, List, slice_index}
use Rattle.npf_types.specs.declared.direction.Dir.{Dir}
use Rattle.npf_types.specs.declared.facts.Facts.{Facts}
use Rattle.npf_types.specs.declared.interface.IfId.{IfId}
use Rattle.npf_model.specs.Describes.{Tables}
use Rattle.npf_products.specs.declared.condition.Condition.{Condition}
use Rattle.npf_products.specs.declared.kind.PacketKind.{PacketKind}
use Rattle.npf_products.specs.Condition.{Ranges, all_fit, has_number, table_ranges}
use Rattle.npf_products.specs.Number.{IsPacketOfKind, numbers_of}

-- a test of a packet where it passes, with the addresses of tables
abbrev pub PacketTest : Type 0
PacketTest = Tables → Facts → IfId → Dir → Bool

-- the conditions hold of a packet of the kind where the old ones do and the test does
pub record AddsTest (kind : PacketKind) (old new : List Condition) (test : PacketTest) : Type 0 where
  pub same : (tables : Tables) (facts : Facts) (ifid : IfId) (dir : Dir) → IsPacketOfKind kind facts ifid
      → all_fit (table_ranges kind.family tables) (numbers_of facts ifid dir) new
      ≡ (all_fit (table_ranges kind.family tables) (numbers_of facts ifid dir) old && test tables facts ifid dir)

-- the test that a packet's number in a dimension lies in the ranges
abbrev pub lies_in : ℕ → Ranges → PacketTest
lies_in dimension ranges tables facts ifid dir = has_number ranges (slice_index (numbers_of facts ifid dir) dimension)

-- the test that asks nothing of a packet
abbrev pub constant : Bool → PacketTest
constant holds tables facts ifid dir = holds

-- the test that a packet's number in a dimension is this one
abbrev pub equals_number : ℕ → ℕ → PacketTest
equals_number dimension number tables facts ifid dir = number == slice_index (numbers_of facts ifid dir) dimension
