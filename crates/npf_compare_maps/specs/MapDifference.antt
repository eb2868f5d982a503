-- Where two configurations write different things into packets that both pass, and pass alike. All is said by what a configuration means: which rule decides on
-- a packet, which map applies to it, and what these do. Both are numbered by one list of interfaces.
use Rattle.std.specs.Prelude.{◌≡◌, ◌<◌, ◌⊎◌, ℕ, Option, Some, None, List, [], map}
use Rattle.std.specs.List.{All, AllPairs, Contains}
use Rattle.std.specs.Option.{option_map}
use Rattle.npf_types.specs.declared.direction.Dir.{Dir}
use Rattle.npf_types.specs.declared.facts.Facts.{Facts}
use Rattle.npf_types.specs.declared.interface.IfId.{IfId}
use Rattle.npf_model.specs.Configuration.{Configuration, map_place_of}
use Rattle.npf_reach.specs.Kinds.{IsPacket}
use Rattle.npf_treatment.specs.declared.map.MapEffect.{MapEffect}
use Rattle.npf_treatment.specs.declared.rule.RuleEffect.{RuleEffect}
use Rattle.npf_treatment.specs.declared.rule.RuleEffect.TheVariants.{Blocked, Passed}
use Rattle.npf_treatment.specs.Treatment.{applying_map, deciding_rule, map_effect, rule_effect}
use Rattle.npf_compare_maps.specs.declared.difference.MapDifference.{MapDifference}

-- what a configuration does to a packet, but for what a map writes
abbrev pub rule_effect_on : Configuration → Facts → IfId → Dir → RuleEffect
rule_effect_on config facts ifid dir = rule_effect config.model (deciding_rule config facts ifid dir)

-- what the map that applies to it writes, or nothing where none does
abbrev pub map_effect_on : Configuration → Facts → IfId → Dir → Option MapEffect
map_effect_on config facts ifid dir = option_map (λ map. map_effect map dir) (applying_map config facts ifid dir)

abbrev pub IsPassing : RuleEffect → Type 0
IsPassing (Blocked answer log) = ⊥
IsPassing (Passed state action) = Unit {0}

-- the maps of a difference, or none
abbrev pub map_pair : MapDifference → Option ℕ × Option ℕ
map_pair difference = (difference.old, difference.new)

-- a map stands in front of each behind it, and none behind all maps
abbrev pub IsEarlierMap : Option ℕ → Option ℕ → Type 0
IsEarlierMap None other = ⊥
IsEarlierMap (Some place) None = Unit {0}
IsEarlierMap (Some place) (Some other) = place < other

-- a difference is told before another by the old configuration's maps, and for one of them by the new one's
abbrev pub IsToldBefore : MapDifference → MapDifference → Type 0
IsToldBefore one other = IsEarlierMap one.old other.old ⊎ ((one.old ≡ other.old) × IsEarlierMap one.new other.new)

module _ (old new : Configuration) where
  -- the packet can be, and both pass it alike
  pub record IsPassedAlike (facts : Facts) (ifid : IfId) (dir : Dir) : Type 0 where
    pub possible : IsPacket facts ifid
    pub passes : IsPassing (rule_effect_on old facts ifid dir)
    pub alike : rule_effect_on old facts ifid dir ≡ rule_effect_on new facts ifid dir

  -- these maps apply to it, or none does, and what they write is not the same
  pub record IsMapDifference (difference : MapDifference) : Type 0 where
    pub passed : IsPassedAlike difference.packet.facts difference.packet.ifid difference.packet.dir
    pub by_old : map_place_of old difference.packet.facts difference.packet.ifid difference.packet.dir ≡ difference.old
    pub by_new : map_place_of new difference.packet.facts difference.packet.ifid difference.packet.dir ≡ difference.new
    pub otherwise : ¬ map_effect_on old difference.packet.facts difference.packet.ifid difference.packet.dir
        ≡ map_effect_on new difference.packet.facts difference.packet.ifid difference.packet.dir

  -- each pair of maps that write different things into a packet that both pass alike is told once, with one, in order; and no other is
  pub record AreMapDifferences (differences : List MapDifference) : Type 0 where
    pub each : All IsMapDifference differences
    pub whole : (facts : Facts) (ifid : IfId) (dir : Dir) → IsPassedAlike facts ifid dir → ¬ map_effect_on old facts ifid dir ≡ map_effect_on new facts ifid dir
        → Contains (map map_pair differences) (map_place_of old facts ifid dir, map_place_of new facts ifid dir)
    pub ordered : AllPairs IsToldBefore differences

-- where no difference is told, the maps of both write the same into each packet that both pass alike
abbrev pub UntoldIsSame : Type 0
UntoldIsSame = (old new : Configuration) → AreMapDifferences old new [] → (facts : Facts) (ifid : IfId) (dir : Dir) → IsPassedAlike old new facts ifid dir
    → map_effect_on old facts ifid dir ≡ map_effect_on new facts ifid dir
