-- Where a rule stands in a model, and what stands there.
use Rattle.std.specs.Prelude.{◌<◌, List, [], Option, Some, None, length, slice_get, option_and_then}
use Rattle.npf_model.specs.declared.group.Group.{Group}
use Rattle.npf_model.specs.declared.group.Item.{Item}
use Rattle.npf_model.specs.Verdict.{PlacedRule, rules_at}
use Rattle.npf_ruleset.specs.declared.place.RulePlace.{RulePlace}
use Rattle.npf_ruleset.specs.declared.place.Placed.{Placed}

abbrev pub placed_rule : Placed → PlacedRule
placed_rule placed = record { within_dir = placed.within_dir; within_on = placed.within_on; rule = placed.rule.now }

abbrev pub item_at : List Group → RulePlace → Option Item
item_at groups place = option_and_then (λ group. slice_get group.items place.item) (slice_get groups place.group)

-- the rules that stand at an item's place, if an item does
abbrev pub rules_in : Option Item → List PlacedRule
rules_in None = []
rules_in (Some item) = rules_at item

-- the rules of the item at a place
abbrev pub standing_rules : List Group → RulePlace → List PlacedRule
standing_rules groups place = rules_in (item_at groups place)

-- the rule at a place: the group, the item in it, and the number in the item, each counted from 0
abbrev pub placed_at : List Group → RulePlace → Option PlacedRule
placed_at groups place = slice_get (standing_rules groups place) place.number

-- a rule stands there
abbrev pub IsPlaceOfRule : List Group → RulePlace → Type 0
IsPlaceOfRule groups place = place.number < length (standing_rules groups place)
