-- What an explanation says is so, and what is so is said. All of it is told of a rule that stands in a group, behind the groups in front, and of a map, and
-- by npf_model's definitions: the rule that decides, a group's answer, what a rule matches, and the map that applies.
use Rattle.std.specs.Prelude.{◌≡◌, ◌≢◌, ◌↔◌, ℕ, ◌+◌, ◌≤◌, ◌<◌, true, Option, Some, None, List, ◌∷◌, ◌++◌, length, slice_get, option_and_then}
use Rattle.std.specs.Option.{option_map}
use Rattle.npf_types.specs.declared.direction.Dir.{Dir}
use Rattle.npf_types.specs.declared.facts.Facts.{Facts}
use Rattle.npf_types.specs.declared.interface.IfId.{IfId}
use Rattle.npf_model.specs.declared.group.Group.{Group}
use Rattle.npf_model.specs.declared.map.Map.{Map}
use Rattle.npf_model.specs.declared.model.Model.{Model}
use Rattle.npf_model.specs.declared.rule.Rule.{Rule}
use Rattle.npf_model.specs.Configuration.{Configuration, map_place_of, verdict_of}
use Rattle.npf_model.specs.Verdict.{PlacedRule, all_rules, applies, matches, rule_at, rules_of, verdict}
use Rattle.npf_ruleset.specs.declared.misfit.Part.{Part}
use Rattle.npf_ruleset.specs.Misfit.{rule_misfit}
use Rattle.npf_explain.specs.declared.told.Explanation.{Explanation}
use Rattle.npf_explain.specs.declared.told.GroupTold.{GroupTold}
use Rattle.npf_explain.specs.declared.told.GroupTold.TheVariants as GroupSays
use Rattle.npf_explain.specs.declared.told.MapTold.TheVariants as MapSays
use Rattle.npf_explain.specs.declared.told.RuleTold.{RuleTold}
use Rattle.npf_explain.specs.declared.told.RuleTold.TheVariants as RuleSays
use Rattle.npf_explain.specs.Explanation.{explanation}

-- a group stands behind those in front
pub record HasGroup (model : Model) (front : List Group) (group : Group) : Type 0 where
  pub behind : List Group
  pub are : model.groups ≡ front ++ group ∷ behind

-- in it the rule number `k`, counted from 0
pub record HasRule (model : Model) (front : List Group) (group : Group) (k : ℕ) (placed : PlacedRule) : Type 0 where
  pub within : HasGroup model front group
  pub rule : slice_get (rules_of group) k ≡ Some placed

-- the place of the rule number `k` of a group
abbrev pub place_behind : List Group → ℕ → ℕ
place_behind front k = length (all_rules front) + k

-- what is told of the group behind those in front, and of its rule number `k`
abbrev pub told_of_group : Explanation → List Group → Option GroupTold
told_of_group told front = option_map (λ group. group.told) (slice_get told.groups (length front))

abbrev pub told_of_rule : Explanation → List Group → ℕ → Option RuleTold
told_of_rule told front k = option_and_then (λ group. slice_get group.rules k) (slice_get told.groups (length front))

module _ (config : Configuration) (facts : Facts) (ifid : IfId) (dir : Dir) where
  -- a `final` rule decides that stands in front of this place
  pub record IsBehindFinal (place : ℕ) : Type 0 where
    pub decider : ℕ
    pub rule : Rule
    pub decides : verdict_of config facts ifid dir ≡ Some decider
    pub at : rule_at config.model decider ≡ Some rule
    pub final : rule.last ≡ true
    pub before : decider < place

  -- a group is reached, and so may have the answer, where no group in front has one
  abbrev pub IsReached : List Group → Type 0
  IsReached front = verdict config.tables facts ifid dir 0 front ≡ None

  -- a rule is asked: its group is reached and applies, and no `final` rule in front decides
  pub record IsAsked (front : List Group) (group : Group) (k : ℕ) : Type 0 where
    pub reached : IsReached front
    pub applied : applies config.tables facts ifid dir group ≡ true
    pub unended : ¬ IsBehindFinal (place_behind front k)

  -- a rule of this group decides in the place of another one, which matches
  pub record IsOverridden (front : List Group) (group : Group) (k : ℕ) (placed : PlacedRule) (by : ℕ) : Type 0 where
    pub decides : verdict_of config facts ifid dir ≡ Some by
    pub least : length (all_rules front) ≤ by
    pub most : by < length (all_rules front) + length (rules_of group)
    pub other : by ≢ place_behind front k
    pub matched : matches config.tables facts ifid dir placed ≡ true
    pub unended : ¬ IsBehindFinal (place_behind front k)

-- exactly the rule that decides is told so
abbrev pub DecidesExactly : Type 0
DecidesExactly =
    (config : Configuration) (facts : Facts) (ifid : IfId) (dir : Dir) (front : List Group) (group : Group) (k : ℕ) (placed : PlacedRule)
    → HasRule config.model front group k placed
    → told_of_rule (explanation config facts ifid dir) front k ≡ Some RuleSays.Decides ↔ verdict_of config facts ifid dir ≡ Some (place_behind front k)

-- exactly a rule that matches, in whose group another one decides, is told to be overridden by that
abbrev pub OverriddenExactly : Type 0
OverriddenExactly =
    (config : Configuration) (facts : Facts) (ifid : IfId) (dir : Dir) (front : List Group) (group : Group) (k : ℕ) (placed : PlacedRule) (by : ℕ)
    → HasRule config.model front group k placed
    → told_of_rule (explanation config facts ifid dir) front k ≡ Some (RuleSays.Overridden by) ↔ IsOverridden config facts ifid dir front group k placed by

-- exactly of a rule that is asked and doesn't match a part is told, the first that the packet doesn't fit
abbrev pub MisfitsExactly : Type 0
MisfitsExactly =
    (config : Configuration) (facts : Facts) (ifid : IfId) (dir : Dir) (front : List Group) (group : Group) (k : ℕ) (placed : PlacedRule) (part : Part)
    → HasRule config.model front group k placed
    → told_of_rule (explanation config facts ifid dir) front k ≡ Some (RuleSays.Misfits part)
    ↔ (IsAsked config facts ifid dir front group k × (rule_misfit placed config.tables facts ifid dir ≡ Some part))

-- exactly a group behind one that has the answer is told not to be reached
abbrev pub ReachedExactly : Type 0
ReachedExactly =
    (config : Configuration) (facts : Facts) (ifid : IfId) (dir : Dir) (front : List Group) (group : Group) → HasGroup config.model front group
    → told_of_group (explanation config facts ifid dir) front ≡ Some GroupSays.NotReached ↔ ¬ IsReached config facts ifid dir front

-- exactly the map that translates is told to apply
abbrev pub MapAppliesExactly : Type 0
MapAppliesExactly =
    (config : Configuration) (facts : Facts) (ifid : IfId) (dir : Dir) (k : ℕ) (m : Map) → slice_get config.model.maps k ≡ Some m
    → slice_get (explanation config facts ifid dir).maps k ≡ Some MapSays.Applies ↔ map_place_of config facts ifid dir ≡ Some k
