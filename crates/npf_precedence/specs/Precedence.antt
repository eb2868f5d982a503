-- In which order the rules of a configuration decide on a packet (npf.conf(5), "Groups" and "Rules"). In a group a match with `final`
-- decides at once, and of the others the last match does; a group without a match leaves the packet to the next one. So the rules are one
-- list of which the first match decides: of each group, in the order of inspection, those with `final` as they stand, and then the others
-- from the last to the first.
use Rattle.std.specs.Prelude.{ℕ, ◌+◌, Bool, not, Option, List, [], ◌∷◌, ◌++◌, length, reverse}
use Rattle.std.specs.List.{filter}
use Rattle.npf_types.specs.declared.direction.Dir.{Dir}
use Rattle.npf_model.specs.declared.group.Group.{Group}
use Rattle.npf_model.specs.declared.rule.OnIf.{OnIf}
use Rattle.npf_model.specs.Verdict.{PlacedRule, rules_of}

-- a rule with its place, counted from 0 in the order of inspection, and with what its group is bound to
pub record OrderedRule : Type 0 where
  pub place : ℕ
  pub group_dir : Option Dir
  pub group_on : Option OnIf
  pub placed : PlacedRule

-- rules of a group, of which the first has the place `n`
abbrev pub rules_from : Group → ℕ → List PlacedRule → List OrderedRule
rules_from group n [] = []
rules_from group n (placed ∷ others) =
    record { place = n; group_dir = group.dir; group_on = group.on; placed = placed } ∷ rules_from group (n + 1) others

abbrev pub is_final : OrderedRule → Bool
is_final ordered = ordered.placed.rule.last

abbrev pub is_not_final : OrderedRule → Bool
is_not_final ordered = not ordered.placed.rule.last

-- those with `final` as they stand, and then the others from the last to the first
abbrev pub finals_first : List OrderedRule → List OrderedRule
finals_first rules = filter is_final rules ++ filter is_not_final (reverse rules)

-- group by group: `n` rules stand in front of these groups
abbrev pub order_from : ℕ → List Group → List OrderedRule
order_from n [] = []
order_from n (group ∷ groups) = finals_first (rules_from group n (rules_of group)) ++ order_from (n + length (rules_of group)) groups

abbrev pub in_order : List Group → List OrderedRule
in_order groups = order_from 0 groups
