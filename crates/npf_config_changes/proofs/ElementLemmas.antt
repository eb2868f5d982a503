-- The elements of a model's rules, counted group by group and item by item.
use Rattle.std.{proofs.Common.{◌≡◌, ◌≤◌, ◌∙◌, ℕ, Option, None, List, [], ◌∷◌, flat_map, map, refl, ap, arith}, specs.List.sum_by}
use Rattle.std.proofs.lemmas.List.{Concat.flat_map-cons, Elements.All-weaker, Sums.{sum_by-append, sum_by-cons, sum_by-le}}
use Rattle.npf_types.specs.declared.direction.Dir.{Dir}
use Rattle.npf_model.specs.declared.{group.{Group.Group, Item.{Item, TheVariants.{One, Dynamic}}}, model.Model.Model, rule.{OnIf.OnIf, Rule.Rule}}
use Rattle.npf_model.specs.{Count.elements_of, Verdict.{PlacedRule, all_rules, rules_at, rules_of}}
use Rattle.npf_ruleset.specs.Refusal.{IsBuildable, IsCompilable}
use Rattle.npf_config_changes.specs.Elements.{group_elements, elements_in_item}

abbrev placed_elements : PlacedRule → ℕ
placed_elements placed = elements_of placed.rule

-- a sum over lists that are joined is the sum of their sums
sum_joined : {X Y : Type 0} (f : X → List Y) (count : Y → ℕ) (total : X → ℕ) → ((x : X) → sum_by count (f x) ≡ total x)
    → (xs : List X) → sum_by count (flat_map f xs) ≡ sum_by total xs
sum_joined f count total each [] = refl
sum_joined f count total each (x ∷ xs) =
    let joined = ap (sum_by count) (flat_map-cons f x xs) ∙ sum_by-append count (f x) (flat_map f xs) in
    let here = each x in
    let rest = sum_joined f count total each xs in
    let more = sum_by-cons total x xs in
    omega (arith, joined, here, rest, more)

ruleset_is : (dir : Option Dir) (on : Option OnIf) (rules : List (ℕ × Rule))
    → sum_by placed_elements (map (λ numbered. record { within_dir = dir; within_on = on; rule = numbered.1 }) rules) ≡ sum_by (λ numbered. elements_of numbered.1) rules
ruleset_is dir on [] = refl
ruleset_is dir on (numbered ∷ rules) =
    let here : PlacedRule = record { within_dir = dir; within_on = on; rule = numbered.1 } in
    let placed = sum_by-cons placed_elements here (map (λ (entry : ℕ × Rule). record { within_dir = dir; within_on = on; rule = entry.1 }) rules) in
    let more = sum_by-cons (λ (entry : ℕ × Rule). elements_of entry.1) numbered rules in
    let rest = ruleset_is dir on rules in
    omega (arith, placed, more, rest)

item_is : (item : Item) → sum_by placed_elements (rules_at item) ≡ elements_in_item item
item_is (One rule) = omega (arith, sum_by-cons placed_elements (record { within_dir = None; within_on = None; rule = rule }) [])
item_is (Dynamic name dir on next_id rules) = ruleset_is dir on rules

group_is : (group : Group) → sum_by placed_elements (rules_of group) ≡ group_elements group
group_is group = sum_joined rules_at placed_elements elements_in_item item_is group.items

pub groups_are : (groups : List Group) → sum_by placed_elements (all_rules groups) ≡ sum_by group_elements groups
groups_are groups = sum_joined rules_of placed_elements group_elements group_is groups

-- as no list has 2^56 elements, each rule has fewer than 5 * 2^56
short_lists : (placed : PlacedRule) → IsCompilable placed → placed_elements placed ≤ 360287970189639680
short_lists placed is =
    let protos = is.lists.protos in
    let from_addrs = is.lists.from.addrs in
    let from_ports = is.lists.from.ports in
    let to_addrs = is.lists.to.addrs in
    let to_ports = is.lists.to.ports in
    omega arith

pub few_elements : (model : Model) → IsBuildable model → sum_by group_elements model.groups ≤ 1208925819614629174706176
few_elements model is =
    let rules = all_rules model.groups in
    let each = All-weaker IsCompilable (λ placed. placed_elements placed ≤ 360287970189639680) short_lists rules is.compilable in
    let most = sum_by-le placed_elements 360287970189639680 rules each in
    let few = is.rules in
    let same = groups_are model.groups in
    omega arith
