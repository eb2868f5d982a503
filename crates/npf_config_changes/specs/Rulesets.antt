-- The dynamic rulesets of a model (npf.conf(5), "Groups"), and what a change makes of one. Their names are those of all groups together.
use Rattle.std.specs.Prelude.{ℕ, ◌+◌, Bool, not, ◌==◌, if◌then◌else◌, List, [], ◌∷◌, ◌++◌, filter, map}
use Rattle.std.specs.List.{flat_map, list_any}
use Rattle.std.specs.Str.{bytes_eq}
use Rattle.npf_types.specs.declared.name.Name.{Name}
use Rattle.npf_types.specs.Name.{name_bytes}
use Rattle.npf_model.specs.declared.group.Group.{Group}
use Rattle.npf_model.specs.declared.group.Item.{Item}
use Rattle.npf_model.specs.declared.group.Item.TheVariants.{One, Dynamic}
use Rattle.npf_model.specs.declared.model.Model.{Model}
use Rattle.npf_model.specs.declared.rule.Rule.{Rule}

-- the rules of a ruleset, each with its number, and the number of the next one
pub record Ruleset : Type 0 where
  pub next_id : ℕ
  pub rules : List (ℕ × Rule)

abbrev pub are_one_name : Name → Name → Bool
are_one_name one other = bytes_eq (name_bytes one) (name_bytes other)

abbrev pub rulesets_at : Name → Item → List Ruleset
rulesets_at name (One rule) = []
rulesets_at name (Dynamic other dir on next_id rules) = if are_one_name other name then record { next_id = next_id; rules = rules } ∷ [] else []

abbrev pub rulesets_in : Name → Group → List Ruleset
rulesets_in name group = flat_map (rulesets_at name) group.items

-- the rulesets of this name
abbrev pub rulesets_named : Name → Model → List Ruleset
rulesets_named name model = flat_map (rulesets_in name) model.groups

-- a rule is added under the next number, which isn't given again
abbrev pub with_rule_added : Rule → Ruleset → Ruleset
with_rule_added rule dynamic = record { next_id = dynamic.next_id + 1; rules = dynamic.rules ++ (dynamic.next_id, rule) ∷ [] }

-- the rule of this number is taken out
abbrev pub with_rule_removed : ℕ → Ruleset → Ruleset
with_rule_removed id dynamic = record dynamic { rules = filter (λ numbered. not (numbered.0 == id)) dynamic.rules }

-- all rules are taken out
abbrev pub with_rules_flushed : Ruleset → Ruleset
with_rules_flushed dynamic = record dynamic { rules = [] }

abbrev pub has_rule : ℕ → Ruleset → Bool
has_rule id dynamic = list_any (λ numbered. numbered.0 == id) dynamic.rules

-- a model in which the rulesets of this name are changed, and all else is as it was
module _ (name : Name) (change : Ruleset → Ruleset) where
  abbrev pub item_with_ruleset : Item → Item
  item_with_ruleset (One rule) = One rule
  item_with_ruleset (Dynamic other dir on next_id rules) =
      let changed = change (record { next_id = next_id; rules = rules }) in
      if are_one_name other name then Dynamic other dir on changed.next_id changed.rules else Dynamic other dir on next_id rules

  abbrev pub group_with_ruleset : Group → Group
  group_with_ruleset group = record group { items = map item_with_ruleset group.items }

  abbrev pub model_with_ruleset : Model → Model
  model_with_ruleset model = record model { groups = map group_with_ruleset model.groups }
