-- Which groups a packet comes to (npf.conf(5), "Groups"): a group that applies to it and in front of which no group answers. All is said by what a
-- configuration means.
use Rattle.std.specs.Prelude.{◌≡◌, ℕ, Bool, true, false, Option, Some, None, is_some, List, IfSome, length, slice_get, take}
use Rattle.npf_types.specs.declared.direction.Dir.{Dir}
use Rattle.npf_types.specs.declared.facts.Facts.{Facts}
use Rattle.npf_types.specs.declared.interface.IfId.{IfId}
use Rattle.npf_model.specs.declared.group.Group.{Group}
use Rattle.npf_model.specs.Configuration.{Configuration}
use Rattle.npf_model.specs.Describes.{Tables}
use Rattle.npf_model.specs.Verdict.{applies, verdict}
use Rattle.npf_products.specs.declared.packet.CellPacket.{CellPacket}
use Rattle.npf_reach.specs.Kinds.{IsPacket}

abbrev pub some_applies : Tables → Facts → IfId → Dir → Option Group → Bool
some_applies tables facts ifid dir None = false
some_applies tables facts ifid dir (Some group) = applies tables facts ifid dir group

module _ (tables : Tables) (groups : List Group) (place : ℕ) where
  -- a group in front of the one at this place answers the packet
  abbrev pub is_answered_before : Facts → IfId → Dir → Bool
  is_answered_before facts ifid dir = is_some (verdict tables facts ifid dir 0 (take place groups))

  -- the group at this place, if there is one, applies to the packet
  abbrev pub applies_at : Facts → IfId → Dir → Bool
  applies_at facts ifid dir = some_applies tables facts ifid dir (slice_get groups place)

  -- the packet can be, and comes to the group
  pub record ReachesGroup (packet : CellPacket) : Type 0 where
    pub possible : IsPacket packet.facts packet.ifid
    pub applies : applies_at packet.facts packet.ifid packet.dir ≡ true
    pub left : is_answered_before packet.facts packet.ifid packet.dir ≡ false

  -- each packet to which the group applies has its answer before
  abbrev pub IsDeadGroup : Type 0
  IsDeadGroup = (facts : Facts) (ifid : IfId) (dir : Dir) → IsPacket facts ifid → applies_at facts ifid dir ≡ true → is_answered_before facts ifid dir ≡ true

  -- a packet that comes to the group, or none where it is dead
  abbrev pub IsGroupFinding : Option CellPacket → Type 0
  IsGroupFinding (Some packet) = ReachesGroup packet
  IsGroupFinding None = IsDeadGroup

-- that of each group of the configuration
pub record AreGroupFindings (config : Configuration) (found : List (Option CellPacket)) : Type 0 where
  pub count : length found ≡ length config.model.groups
  pub each : (place : ℕ) → IfSome (slice_get found place) (IsGroupFinding config.tables config.model.groups place)
