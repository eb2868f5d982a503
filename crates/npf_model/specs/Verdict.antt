-- Which rule decides on a packet (npf.conf(5), "Groups" and "Rules"): groups in order, the default group last, and of the first group with
-- a matching rule the first matching one with `final`, or else the last matching one. Places count the rules of groups that don't apply,
-- too, so a rule has one number whatever the packet.
-- READ 7 of docs/READING.md
use Rattle.std.specs.Prelude.{ℕ, ◌+◌, Bool, ◌&&◌, if◌then◌else◌, Option, Some, None, List, [], ◌∷◌, length, map, slice_get}
use Rattle.std.specs.Option.{option_map, option_or}
use Rattle.std.specs.List.{flat_map}
use Rattle.npf_types.specs.declared.direction.Dir.{Dir}
use Rattle.npf_types.specs.declared.facts.Facts.{Facts}
use Rattle.npf_types.specs.declared.interface.IfId.{IfId}
use Rattle.npf_model.specs.declared.group.Group.{Group}
use Rattle.npf_model.specs.declared.group.Item.{Item}
use Rattle.npf_model.specs.declared.group.Item.TheVariants.{One, Dynamic}
use Rattle.npf_model.specs.declared.model.Model.{Model}
use Rattle.npf_model.specs.declared.rule.OnIf.{OnIf}
use Rattle.npf_model.specs.declared.rule.Rule.{Rule}
use Rattle.npf_model.specs.Describes.{Tables, describes}
use Rattle.npf_model.specs.Place.{fits_dir, fits_on}

-- a rule at its place in a group: a ruleset's is also bound by the ruleset's direction and interface
pub record PlacedRule : Type 0 where
  pub within_dir : Option Dir
  pub within_on : Option OnIf
  pub rule : Rule

-- the rules that stand at an item's place: a dynamic ruleset is spelled out
abbrev pub rules_at : Item → List PlacedRule
rules_at (One rule) = record { within_dir = None; within_on = None; rule = rule } ∷ []
rules_at (Dynamic name dir on next_id rules) = map (λ numbered. record { within_dir = dir; within_on = on; rule = numbered.1 }) rules

abbrev pub rules_of : Group → List PlacedRule
rules_of group = flat_map rules_at group.items

-- the first and the last place, counted from `n`, at which a list has what passes the test
abbrev pub first_where : {X : Type 0} → (X → Bool) → ℕ → List X → Option ℕ
first_where test n [] = None
first_where test n (x ∷ xs) = if test x then Some n else first_where test (n + 1) xs

abbrev pub last_where : {X : Type 0} → (X → Bool) → ℕ → List X → Option ℕ
last_where test n [] = None
last_where test n (x ∷ xs) = option_or (last_where test (n + 1) xs) (if test x then Some n else None)

-- rules are numbered from 0 in the order of inspection, those of groups that don't apply too
module _ (tables : Tables) (facts : Facts) (ifid : IfId) (dir : Dir) where
  abbrev pub matches : PlacedRule → Bool
  matches placed = fits_dir placed.within_dir dir && fits_on placed.within_on ifid && describes placed.rule tables facts ifid dir

  -- a match that decides at once
  abbrev pub decides : PlacedRule → Bool
  decides placed = placed.rule.last && matches placed

  -- the first matching rule with `final`, or else the last matching one
  abbrev pub group_answer : ℕ → List PlacedRule → Option ℕ
  group_answer n placed = option_or (first_where decides n placed) (last_where matches n placed)

  abbrev pub applies : Group → Bool
  applies group = fits_dir group.dir dir && fits_on group.on ifid

  -- the answer of the first group, of those that apply, that has one
  abbrev pub verdict : ℕ → List Group → Option ℕ
  verdict n [] = None
  verdict n (group ∷ groups) =
      option_or (if applies group then group_answer n (rules_of group) else None) (verdict (n + length (rules_of group)) groups)

-- all rules of a configuration, in the order of inspection
abbrev pub all_rules : List Group → List PlacedRule
all_rules groups = flat_map rules_of groups

-- the rule at a place, counted from 0
abbrev pub rule_at : Model → ℕ → Option Rule
rule_at model place = option_map (λ placed. placed.rule) (slice_get (all_rules model.groups) place)
