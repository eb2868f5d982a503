-- What the order of precedence is for: the rule that decides on a packet is the first in it that matches. And it has each rule once.
use Rattle.std.specs.Prelude.{◌≡◌, ℕ, ◌==◌, Bool, ◌&&◌, Option, List, map, slice_get}
use Rattle.std.specs.List.{filter, find}
use Rattle.std.specs.Option.{option_map, option_to_list}
use Rattle.npf_types.specs.declared.direction.Dir.{Dir}
use Rattle.npf_types.specs.declared.facts.Facts.{Facts}
use Rattle.npf_types.specs.declared.interface.IfId.{IfId}
use Rattle.npf_model.specs.declared.group.Group.{Group}
use Rattle.npf_model.specs.Describes.{Tables}
use Rattle.npf_model.specs.Place.{fits_dir, fits_on}
use Rattle.npf_model.specs.Verdict.{all_rules, matches, verdict}
use Rattle.npf_precedence.specs.Precedence.{OrderedRule, in_order}

module _ (tables : Tables) (facts : Facts) (ifid : IfId) (dir : Dir) where
  -- the rule matches the packet, and its group applies to it
  abbrev pub meets : OrderedRule → Bool
  meets ordered = fits_dir ordered.group_dir dir && fits_on ordered.group_on ifid && matches tables facts ifid dir ordered.placed

  -- the place of the first of these rules that matches
  abbrev pub first_match : List OrderedRule → Option ℕ
  first_match rules = option_map (λ ordered. ordered.place) (find meets rules)

abbrev pub FirstMatchDecides : Type 0
FirstMatchDecides =
    (tables : Tables) (facts : Facts) (ifid : IfId) (dir : Dir) (groups : List Group)
    → verdict tables facts ifid dir 0 groups ≡ first_match tables facts ifid dir (in_order groups)

-- each rule is in that order once, at its place, which is counted from 0 in the order of inspection
abbrev pub EachRuleOnce : Type 0
EachRuleOnce =
    (groups : List Group) (place : ℕ)
    → map (λ ordered. ordered.placed) (filter (λ ordered. ordered.place == place) (in_order groups)) ≡ option_to_list (slice_get (all_rules groups) place)
