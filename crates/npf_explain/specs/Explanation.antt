-- What a configuration says of a packet: group by group, rule by rule in the order of inspection, and map by map, told by the rule that decides and the
-- map that translates (npf.conf(5), "Groups", "Rules" and "Map"). Places count from 0.
use Rattle.std.specs.Prelude.{ℕ, ◌+◌, ◌==◌, nat_le, Bool, false, not, ◌&&◌, if◌then◌else◌, Option, Some, None, List, [], ◌∷◌, length, map}
use Rattle.std.specs.Option.{option_map}
use Rattle.npf_types.specs.declared.direction.Dir.{Dir}
use Rattle.npf_types.specs.declared.facts.Facts.{Facts}
use Rattle.npf_types.specs.declared.interface.IfId.{IfId}
use Rattle.npf_model.specs.declared.group.Group.{Group}
use Rattle.npf_model.specs.declared.map.Map.{Map}
use Rattle.npf_model.specs.declared.model.Model.{Model}
use Rattle.npf_model.specs.declared.rule.Rule.{Rule}
use Rattle.npf_model.specs.Configuration.{Configuration, map_place_of, verdict_of}
use Rattle.npf_model.specs.Describes.{Tables}
use Rattle.npf_model.specs.Place.{fits_dir, fits_on}
use Rattle.npf_model.specs.Verdict.{rule_at, rules_of}
use Rattle.npf_ruleset.specs.declared.misfit.Part.{Part}
use Rattle.npf_ruleset.specs.Misfit.{map_misfit, rule_misfit}
use Rattle.npf_precedence.specs.Precedence.{OrderedRule, rules_from}
use Rattle.npf_explain.specs.declared.decider.Decider.{Decider}
use Rattle.npf_explain.specs.declared.told.Explanation.{Explanation}
use Rattle.npf_explain.specs.declared.told.GroupTold.{GroupTold}
use Rattle.npf_explain.specs.declared.told.GroupTold.TheVariants as GroupSays
use Rattle.npf_explain.specs.declared.told.MapTold.{MapTold}
use Rattle.npf_explain.specs.declared.told.MapTold.TheVariants as MapSays
use Rattle.npf_explain.specs.declared.told.RuleTold.{RuleTold}
use Rattle.npf_explain.specs.declared.told.RuleTold.TheVariants as RuleSays
use Rattle.npf_explain.specs.declared.told.ToldGroup.{ToldGroup}
use Rattle.npf_explain.specs.declared.told.Unasked.TheVariants.{BehindFinal, GroupElsewhere, GroupAnswered}

-- the rule that decides, and whether it is `final`
abbrev pub is_final_rule : Option Rule → Bool
is_final_rule None = false
is_final_rule (Some rule) = rule.last

abbrev pub decider_of : Model → Option ℕ → Option Decider
decider_of model verdict = option_map (λ place. record { place = place; last = is_final_rule (rule_at model place) }) verdict

-- the rule that decides stands in front of this place
abbrev pub is_decided_before : Option Decider → ℕ → Bool
is_decided_before None place = false
is_decided_before (Some decider) place = not (nat_le place decider.place)

-- and it is `final`
abbrev pub is_behind_final : Option Decider → ℕ → Bool
is_behind_final None place = false
is_behind_final (Some decider) place = decider.last && not (nat_le place decider.place)

-- A rule at this place matches, of a group that applies: it decides or another one does. One of them does, as a group that applies and has a match
-- has an answer.
abbrev pub told_match : Option Decider → ℕ → RuleTold
told_match None place = RuleSays.Decides
told_match (Some decider) place = if decider.place == place then RuleSays.Decides else RuleSays.Overridden decider.place

-- such a rule by the first part that the packet doesn't fit
abbrev pub told_by_misfit : Option Decider → ℕ → Option Part → RuleTold
told_by_misfit decider place (Some part) = RuleSays.Misfits part
told_by_misfit decider place None = told_match decider place

-- the place of the map that applies stands in front of this one
abbrev pub is_translated_before : Option ℕ → ℕ → Bool
is_translated_before None place = false
is_translated_before (Some first) place = not (nat_le place first)

abbrev pub told_map_by_misfit : Option Part → MapTold
told_map_by_misfit (Some part) = MapSays.Misfits part
told_map_by_misfit None = MapSays.Applies

module _ (tables : Tables) (facts : Facts) (ifid : IfId) (dir : Dir) where
  -- a group of which the first rule has the place `n`
  abbrev pub group_told : Option Decider → ℕ → Group → GroupTold
  group_told decider n group =
      if is_decided_before decider n then GroupSays.NotReached
      else if not (fits_dir group.dir dir) then GroupSays.OtherDirection
      else if not (fits_on group.on ifid) then GroupSays.OtherInterface
      else GroupSays.Applies

  -- a rule whose group says this
  abbrev pub rule_told : Option Decider → GroupTold → OrderedRule → RuleTold
  rule_told decider GroupSays.NotReached rule = RuleSays.NotReached GroupAnswered
  rule_told decider GroupSays.OtherDirection rule = RuleSays.NotReached GroupElsewhere
  rule_told decider GroupSays.OtherInterface rule = RuleSays.NotReached GroupElsewhere
  rule_told decider GroupSays.Applies rule =
      if is_behind_final decider rule.place then RuleSays.NotReached BehindFinal
      else told_by_misfit decider rule.place (rule_misfit rule.placed tables facts ifid dir)

  -- a group and its rules, each with its place
  abbrev pub told_group : Option Decider → ℕ → Group → ToldGroup
  told_group decider n group =
      let told = group_told decider n group in
      record { told = told; rules = map (rule_told decider told) (rules_from group n (rules_of group)) }

  abbrev pub groups_told : Option Decider → ℕ → List Group → List ToldGroup
  groups_told decider n [] = []
  groups_told decider n (group ∷ groups) = told_group decider n group ∷ groups_told decider (n + length (rules_of group)) groups

  -- a map at this place, where the one at the place `first` is the first that applies
  abbrev pub map_told : Option ℕ → ℕ → Map → MapTold
  map_told first place map =
      if is_translated_before first place then MapSays.NotReached else told_map_by_misfit (map_misfit map tables facts ifid dir)

  abbrev pub maps_told : Option ℕ → ℕ → List Map → List MapTold
  maps_told first n [] = []
  maps_told first n (map ∷ maps) = map_told first n map ∷ maps_told first (n + 1) maps

abbrev pub explanation : Configuration → Facts → IfId → Dir → Explanation
explanation config facts ifid dir =
    let decider = verdict_of config facts ifid dir in
    let first = map_place_of config facts ifid dir in
    record {
      decider = decider;
      groups = groups_told config.tables facts ifid dir (decider_of config.model decider) 0 config.model.groups;
      map = first;
      maps = maps_told config.tables facts ifid dir first 0 config.model.maps;
    }
