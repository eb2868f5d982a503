-- The same of the rules of each configuration in their order of precedence, and of the numbers that its rules and maps have as products.
use Rattle.std.specs.Prelude.{◌≡◌, ◌<◌, ◌≤◌, ◌+◌, ◌*◌, ◌++◌, ◌⊎◌, ℕ, Bool, true, Option, List, length, map, slice_get}
use Rattle.std.specs.List.{All, AllPairs, Contains, find}
use Rattle.std.specs.Option.{option_map}
use Rattle.npf_types.specs.declared.direction.Dir.{Dir}
use Rattle.npf_types.specs.declared.direction.Dir.TheVariants.{In, Out}
use Rattle.npf_types.specs.declared.facts.Facts.{Facts}
use Rattle.npf_types.specs.declared.interface.IfId.{IfId}
use Rattle.npf_model.specs.declared.map.Map.{Map}
use Rattle.npf_model.specs.Configuration.{Configuration}
use Rattle.npf_model.specs.Describes.{Tables}
use Rattle.npf_precedence.specs.declared.entry.RuleEntry.{RuleEntry}
use Rattle.npf_products.specs.declared.packet.CellPacket.{CellPacket}
use Rattle.npf_products.specs.declared.product.Product.{Product}
use Rattle.npf_products.specs.declared.tables.TableSpan.{TableSpan}
use Rattle.npf_products.specs.End.{own_tables}
use Rattle.npf_products.specs.Product.{applies_in}
use Rattle.npf_reach.specs.declared.packets.Packets.{Packets}
use Rattle.npf_reach.specs.Kinds.{IsPacket, held_at}
use Rattle.npf_reach.specs.Packets.{IsOf, has_packet}
use Rattle.npf_judge.specs.Order.{is_first, meets_entry, passes_here}
use Rattle.npf_treatment.specs.declared.map.MapEffect.{MapEffect}
use Rattle.npf_treatment.specs.declared.rule.RuleEffect.{RuleEffect}
use Rattle.npf_treatment.specs.Treatment.{map_effect, rule_effect}
use Rattle.npf_compare_maps.specs.declared.comparison.MapComparison.{MapComparison}
use Rattle.npf_compare_maps.specs.declared.difference.MapDifference.{MapDifference}
use Rattle.npf_compare_maps.specs.declared.side.RankedConfig.{RankedConfig}
use Rattle.npf_compare_maps.specs.declared.side.RankedSide.{RankedSide}
use Rattle.npf_compare_maps.specs.MapDifference.{IsMapDifference, IsPassedAlike, IsToldBefore, map_pair, rule_effect_on}

-- ---- what products hold of
-- what is held of a packet, with the tables of both configurations
abbrev pub ProductTest : Type 0
ProductTest = Tables → Facts → IfId → Dir → Bool

abbrev pub entry_holds : TableSpan → RuleEntry → ProductTest
entry_holds span entry all facts ifid dir = meets_entry (own_tables span all) facts ifid dir entry

abbrev pub map_holds : TableSpan → Dir → Map → ProductTest
map_holds span asked map all facts ifid dir = applies_in asked map (own_tables span all) facts ifid dir

-- the rules of a configuration in their order, its maps going out, and its maps coming in
abbrev pub side_holds : TableSpan → RankedConfig → List ProductTest
side_holds span config =
    map (entry_holds span) config.order.now ++ (map (map_holds span Out) config.model.now.maps ++ map (map_holds span In) config.model.now.maps)

-- ---- one configuration
abbrev pub config_of : RankedConfig → Configuration
config_of config = record { model = config.model.now; tables = config.tables.now }

-- what is done by the rule of an entry, or where none decides
abbrev pub entry_effect : RankedConfig → Option RuleEntry → RuleEffect
entry_effect config entry = rule_effect config.model.now (option_map (λ found. found.rule.now) entry)

-- the first rule of the order that matches a packet does to it what the configuration does
abbrev pub IsRanked : RankedConfig → Type 0
IsRanked config = (facts : Facts) (ifid : IfId) (dir : Dir)
    → rule_effect_on (config_of config) facts ifid dir ≡ entry_effect config (find (meets_entry config.tables.now facts ifid dir) config.order.now)

-- the place of a map; behind the last it is none
abbrev pub map_at : RankedConfig → ℕ → Option ℕ
map_at config at = option_map (λ map. at) (slice_get config.model.now.maps at)

abbrev pub map_count : RankedConfig → ℕ
map_count config = length config.model.now.maps

-- what the map at a place writes in a direction
abbrev pub written_at : RankedConfig → Dir → ℕ → Option MapEffect
written_at config dir at = option_map (λ map. map_effect map dir) (slice_get config.model.now.maps at)

-- the number of the first map's product in a direction
abbrev pub maps_from : RankedSide → Dir → ℕ
maps_from side Out = side.first + length side.config.order.now
maps_from side In = side.first + length side.config.order.now + map_count side.config

-- the products have the rules and the maps at these numbers
pub record IsSide (tables : Tables) (products : List Product) (side : RankedSide) : Type 0 where
  pub ranked : IsRanked side.config
  pub within : side.first + length side.config.order.now + 2 * map_count side.config ≤ length products
  pub rules : (at : ℕ) (facts : Facts) (ifid : IfId) (dir : Dir) → at < length side.config.order.now
      → held_at tables products facts ifid dir (side.first + at) ≡ passes_here (meets_entry side.config.tables.now facts ifid dir) (slice_get side.config.order.now at)
  pub maps : (asked : Dir) (at : ℕ) (facts : Facts) (ifid : IfId) (dir : Dir) → at < map_count side.config
      → held_at tables products facts ifid dir (maps_from side asked + at)
      ≡ passes_here (λ map. applies_in asked map side.config.tables.now facts ifid dir) (slice_get side.config.model.now.maps at)

-- the map at this place is the first that applies to the packet in the direction, or behind the last none does
abbrev pub is_translated : RankedConfig → Dir → ℕ → Facts → IfId → Dir → Bool
is_translated config asked at facts ifid dir = is_first (λ map. applies_in asked map config.tables.now facts ifid dir) config.model.now.maps at

-- ---- both
pub record IsComparison (comparison : MapComparison) : Type 0 where
  pub of : IsOf comparison.packets.tables.now comparison.packets.products.now comparison.packets
  pub all : (facts : Facts) (ifid : IfId) (dir : Dir) → IsPacket facts ifid → has_packet comparison.packets facts ifid dir ≡ true
  pub before : IsSide comparison.packets.tables.now comparison.packets.products.now comparison.before
  pub after : IsSide comparison.packets.tables.now comparison.packets.products.now comparison.after

abbrev pub config_before : MapComparison → Configuration
config_before comparison = config_of comparison.before.config

abbrev pub config_after : MapComparison → Configuration
config_after comparison = config_of comparison.after.config

-- one of these packets, to which a configuration does this
pub record IsTreatedAs (config : Configuration) (among : Packets) (effect : RuleEffect) (packet : CellPacket) : Type 0 where
  pub possible : IsPacket packet.facts packet.ifid
  pub has : has_packet among packet.facts packet.ifid packet.dir ≡ true
  pub treated : rule_effect_on config packet.facts packet.ifid packet.dir ≡ effect

-- one of these packets, that both pass alike
pub record IsAlikeAmong (old new : Configuration) (among : Packets) (packet : CellPacket) : Type 0 where
  pub has : has_packet among packet.facts packet.ifid packet.dir ≡ true
  pub alike : IsPassedAlike old new packet.facts packet.ifid packet.dir

-- the maps at these places write different things into the packet
abbrev pub IsPairDifference : MapComparison → ℕ → ℕ → CellPacket → Type 0
IsPairDifference comparison old new packet = IsMapDifference (config_before comparison) (config_after comparison)
    (record { old = map_at comparison.before.config old; new = map_at comparison.after.config new; packet = packet })

-- ---- pairs of places, row by row
-- the pair stands in front of another
abbrev pub IsPairBefore : ℕ → ℕ → ℕ → ℕ → Type 0
IsPairBefore i j old new = (i < old) ⊎ ((i ≡ old) × (j < new))

module _ (comparison : MapComparison) where
  -- the difference is that of a pair in front of this one
  pub record IsInFront (old new : ℕ) (difference : MapDifference) : Type 0 where
    pub i : ℕ
    pub j : ℕ
    pub front : IsPairBefore i j old new
    pub old_within : i ≤ map_count comparison.before.config
    pub new_within : j ≤ map_count comparison.after.config
    pub old_is : difference.old ≡ map_at comparison.before.config i
    pub new_is : difference.new ≡ map_at comparison.after.config j

  -- of each pair in front of this one it was told
  pub record AreToldUpTo (old new : ℕ) (differences : List MapDifference) : Type 0 where
    pub each : All (IsMapDifference (config_before comparison) (config_after comparison)) differences
    pub front : All (IsInFront old new) differences
    pub whole : (i j : ℕ) (packet : CellPacket) → IsPairBefore i j old new → j ≤ map_count comparison.after.config → IsPairDifference comparison i j packet
        → Contains (map map_pair differences) (map_at comparison.before.config i, map_at comparison.after.config j)
    pub ordered : AllPairs IsToldBefore differences
