-- Where two configurations treat packets unlike, but for what a map writes. All is said by what a configuration means: which rule decides on a packet, and
-- what is done by it. Both are numbered by one list of interfaces.
use Rattle.std.specs.Prelude.{◌≡◌, ◌<◌, ◌⊎◌, ℕ, Option, Some, None, List, [], map}
use Rattle.std.specs.List.{All, AllPairs, Contains}
use Rattle.npf_types.specs.declared.direction.Dir.{Dir}
use Rattle.npf_types.specs.declared.facts.Facts.{Facts}
use Rattle.npf_types.specs.declared.interface.IfId.{IfId}
use Rattle.npf_model.specs.Configuration.{Configuration, verdict_of}
use Rattle.npf_reach.specs.Kinds.{IsPacket}
use Rattle.npf_treatment.specs.declared.rule.RuleEffect.{RuleEffect}
use Rattle.npf_treatment.specs.Treatment.{deciding_rule, rule_effect}
use Rattle.npf_compare.specs.declared.difference.RuleDifference.{RuleDifference}

-- what a configuration does to a packet, but for what a map writes
abbrev pub rule_effect_on : Configuration → Facts → IfId → Dir → RuleEffect
rule_effect_on config facts ifid dir = rule_effect config.model (deciding_rule config facts ifid dir)

-- the rules by which two configurations treat a packet, or none
abbrev pub rule_pair : RuleDifference → Option ℕ × Option ℕ
rule_pair difference = (difference.old, difference.new)

-- a rule stands in front of each behind it, and none behind all rules
abbrev pub IsEarlierRule : Option ℕ → Option ℕ → Type 0
IsEarlierRule None other = ⊥
IsEarlierRule (Some place) None = Unit {0}
IsEarlierRule (Some place) (Some other) = place < other

-- by the old configuration's rules, and for one of them by the new one's
abbrev pub IsEarlierPair : Option ℕ × Option ℕ → Option ℕ × Option ℕ → Type 0
IsEarlierPair one other = IsEarlierRule one.0 other.0 ⊎ ((one.0 ≡ other.0) × IsEarlierRule one.1 other.1)

abbrev pub IsEarlierDifference : RuleDifference → RuleDifference → Type 0
IsEarlierDifference one other = IsEarlierPair (rule_pair one) (rule_pair other)

module _ (old new : Configuration) where
  -- the packet can be, these rules or none decide on it, and what they do is not the same
  pub record IsRuleDifference (difference : RuleDifference) : Type 0 where
    pub possible : IsPacket difference.packet.facts difference.packet.ifid
    pub by_old : verdict_of old difference.packet.facts difference.packet.ifid difference.packet.dir ≡ difference.old
    pub by_new : verdict_of new difference.packet.facts difference.packet.ifid difference.packet.dir ≡ difference.new
    pub otherwise : ¬ rule_effect_on old difference.packet.facts difference.packet.ifid difference.packet.dir
        ≡ rule_effect_on new difference.packet.facts difference.packet.ifid difference.packet.dir

  -- each packet that there can be is treated alike, or the pair of its deciders is told
  abbrev pub AreWholeDifferences : List RuleDifference → Type 0
  AreWholeDifferences differences = (facts : Facts) (ifid : IfId) (dir : Dir) → IsPacket facts ifid
      → (rule_effect_on old facts ifid dir ≡ rule_effect_on new facts ifid dir)
      ⊎ Contains (map rule_pair differences) (verdict_of old facts ifid dir, verdict_of new facts ifid dir)

  -- each pair of deciders that treats a packet unlike is told once, with a packet, in order; and no other is
  pub record AreRuleDifferences (differences : List RuleDifference) : Type 0 where
    pub each : All IsRuleDifference differences
    pub whole : AreWholeDifferences differences
    pub ordered : AllPairs IsEarlierDifference differences

-- where there is no difference, each packet that there can be is treated alike
abbrev pub NoDifferenceIsAlike : Type 0
NoDifferenceIsAlike =
    (old new : Configuration) → AreRuleDifferences old new [] → (facts : Facts) (ifid : IfId) (dir : Dir) → IsPacket facts ifid
    → rule_effect_on old facts ifid dir ≡ rule_effect_on new facts ifid dir
