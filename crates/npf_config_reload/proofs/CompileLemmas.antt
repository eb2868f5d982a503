-- A rule that is taken over can be compiled as it could before.
use Rattle.std.proofs.Common.{◌≡◌, ◌≤◌, ◌<◌, ◌+◌, ℕ, suc, Bool, true, false, Option, Some, None, List, [], ◌∷◌, All, IfSome, if◌then◌else◌}
use Rattle.std.{proofs.{Common.{length, map, option_map, slice_get, unwrap_or, refl, sym, subst, arith}, lemmas.List.length-map}, specs.List.sum_by}
use Rattle.std.proofs.lemmas.{List.{Elements.{All-map, All-weaker}, Sums.sum_by-cons}, Option.slice_get-map}
use Rattle.npf_types.specs.declared.{direction.Dir.Dir, limits.TheConstants.{MAX_RULE_WEIGHT, MAX_TABLES}, name.Name.Name}
use Rattle.npf_model.specs.declared.{ends.{AddrItem.{AddrItem, TheVariants.{Net, InTable}}, Ends.Ends}, group.{Group.Group, Item.{Item, TheVariants.Dynamic}}}
use Rattle.npf_model.specs.{declared.{model.Model.Model, rule.{OnIf.OnIf, Rule.Rule}, table.TableDecl.TableDecl}, Count.listed}
use Rattle.npf_model.specs.Verdict.{PlacedRule, all_rules, first_where, rules_at, rules_of}
use Rattle.npf_bpfgen.specs.Condition.{HasItemNumber, HasItemNumbers, HasTableNumbers}
use Rattle.npf_bpfgen.specs.RuleWeight.{HasShortEnds, HasShortLists, item_weight, items_weight, weight_of}
use Rattle.npf_ruleset.specs.{declared.config.Config.Config, Refusal.{IsCompilable, IsLight}}
use Rattle.npf_config_changes.specs.Rulesets.{Ruleset, are_one_name}
use Rattle.npf_config_reload.specs.Taken.{Again, again_in, ends_again, group_taken, has_named, item_again, model_taken, place_again, rule_again, ruleset_again, ruleset_in, table_in}
use Rattle.npf_config_reload.proofs.{EachLemmas.{all_filter, all_in, each_in, each_of_map}, TakenLemmas.groups_are}

-- the place of what passes a test is one of the list's
first_within : {X : Type 0} (test : X → Bool) (n : ℕ) (xs : List X) → IfSome (first_where test n xs) (λ place. place < n + length xs)
first_within test n [] = tt
first_within test n (x ∷ xs) = by (test x) (first_where test (n + 1) xs) (first_within test (n + 1) xs) where
  by : (passes : Bool) (found : Option ℕ) → IfSome found (λ place. place < n + 1 + length xs) → IfSome (if passes then Some n else found) (λ place. place < n + suc (length xs))
  by true found within = omega arith
  by false None within = tt
  by false (Some place) within = omega (arith, within)

-- what holds of each place that is found holds of that at a place
found_holds : {X : Type 0} (P : ℕ → Type 0) (f : X → Option ℕ) → ((x : X) → IfSome (f x) P) → (xs : List X) (place : ℕ) → IfSome (place_again (map f xs) place) P
found_holds {X = X} P f each xs place = subst (λ (o : Option (Option ℕ)). IfSome (unwrap_or o None) P) (sym (slice_get-map f xs place)) (by (slice_get xs place))
  where
    by : (o : Option X) → IfSome (unwrap_or (option_map f o) None) P
    by None = tt
    by (Some x) = each x

-- a place, or what stands there again
chosen_holds : (P : ℕ → Type 0) (o : Option ℕ) (place : ℕ) → IfSome o P → P place → P (unwrap_or o place)
chosen_holds P None place again was = was
chosen_holds P (Some found) place again was = again

-- the file's tables have small numbers
abbrev pub AreSmall : Again → Type 0
AreSmall again = (place : ℕ) → IfSome (place_again again.tables place) (λ found. found < 2147483648)

pub small_places : (old file : Model) → length file.tables ≤ MAX_TABLES → AreSmall (again_in old file)
small_places old file few place =
    found_holds (λ found. found < 2147483648) (table_in file)
    (λ decl. within (table_in file decl) (first_within (λ (other : TableDecl). are_one_name other.name decl.name) 0 file.tables)) old.tables place
  where
    within : (found : Option ℕ) → IfSome found (λ place. place < 0 + length file.tables) → IfSome found (λ place. place < 2147483648)
    within None is = tt
    within (Some place) is = omega (arith, is, few)

-- what the compiler asks of a rule
pub record CanCompile (rule : Rule) : Type 0 where
  pub lists : HasShortLists rule
  pub tables : HasTableNumbers rule
  pub light : weight_of rule ≤ MAX_RULE_WEIGHT

module _ (again : Again) where
  item_weighs : (item : AddrItem) → item_weight (item_again again item) ≡ item_weight item
  item_weighs (Net prefix) = refl
  item_weighs (InTable place) = refl

  items_weigh : (items : List AddrItem) → sum_by item_weight (map (item_again again) items) ≡ sum_by item_weight items
  items_weigh [] = refl
  items_weigh (item ∷ items) =
      let after = sum_by-cons item_weight (item_again again item) (map (item_again again) items) in
      let before = sum_by-cons item_weight item items in
      omega (arith, after, before, item_weighs item, items_weigh items)

  addrs_weigh : (addrs : Option (List AddrItem)) → items_weight (option_map (map (item_again again)) addrs) ≡ items_weight addrs
  addrs_weigh None = refl
  addrs_weigh (Some items) = items_weigh items

  same_count : (addrs : Option (List AddrItem)) → listed (option_map (map (item_again again)) addrs) ≡ listed addrs
  same_count None = refl
  same_count (Some items) = length-map items (item_again again)

  short_ends : (ends : Ends) → HasShortEnds ends → HasShortEnds (ends_again again ends)
  short_ends ends short = record { addrs = subst (λ (n : ℕ). n < 72057594037927936) (sym (same_count ends.addrs)) short.addrs; ports = short.ports }

  module _ (small : AreSmall again) where
    item_number : (item : AddrItem) → HasItemNumber item → HasItemNumber (item_again again item)
    item_number (Net prefix) is = tt
    item_number (InTable place) is = chosen_holds (λ n. n < 2147483648) (place_again again.tables place) place (small place) is

    item_numbers : (addrs : Option (List AddrItem)) → HasItemNumbers addrs → HasItemNumbers (option_map (map (item_again again)) addrs)
    item_numbers None are = tt
    item_numbers (Some items) are =
        All-map HasItemNumber (item_again again) items (All-weaker HasItemNumber (λ (item : AddrItem). HasItemNumber (item_again again item)) item_number items are)

    rule_compiles : (rule : Rule) → CanCompile rule → CanCompile (rule_again again rule)
    rule_compiles rule can = record {
      lists = record { protos = can.lists.protos; from = short_ends rule.from can.lists.from; to = short_ends rule.to can.lists.to };
      tables = record { from = item_numbers rule.from.addrs can.tables.from; to = item_numbers rule.to.addrs can.tables.to };
      light = omega (arith, can.light, addrs_weigh rule.from.addrs, addrs_weigh rule.to.addrs);
    }

    abbrev NumberedCompiles : ℕ × Rule → Type 0
    NumberedCompiles numbered = CanCompile numbered.1

    ruleset_compiles : (dynamic : Ruleset) → All NumberedCompiles dynamic.rules → All NumberedCompiles ((ruleset_again again dynamic).rules)
    ruleset_compiles dynamic each =
        let kept = all_filter NumberedCompiles (λ numbered. has_named again numbered.1) dynamic.rules each in
        All-map NumberedCompiles (λ (numbered : ℕ × Rule). (numbered.0, rule_again again numbered.1)) _
        (All-weaker NumberedCompiles (λ (numbered : ℕ × Rule). CanCompile (rule_again again numbered.1)) (λ (numbered : ℕ × Rule) can. rule_compiles numbered.1 can) _ kept)

    abbrev PlacedCompiles : PlacedRule → Type 0
    PlacedCompiles placed = CanCompile placed.rule

    abbrev ItemCompiles : Item → Type 0
    ItemCompiles item = All PlacedCompiles (rules_at item)

    of_item : (name : Name) (dir : Option Dir) (on : Option OnIf) (next_id : ℕ) (rules : List (ℕ × Rule)) → ItemCompiles (Dynamic name dir on next_id rules) → All NumberedCompiles rules
    of_item name dir on next_id rules each = each_of_map PlacedCompiles (λ (numbered : ℕ × Rule). record { within_dir = dir; within_on = on; rule = numbered.1 }) rules each

    of_ruleset : (name : Name) (dir : Option Dir) (on : Option OnIf) (dynamic : Ruleset) → All NumberedCompiles dynamic.rules → ItemCompiles (Dynamic name dir on dynamic.next_id dynamic.rules)
    of_ruleset name dir on dynamic each = All-map PlacedCompiles (λ (numbered : ℕ × Rule). record { within_dir = dir; within_on = on; rule = numbered.1 }) dynamic.rules each

    in_groups : (groups : List Group) → All PlacedCompiles (all_rules groups) → All (λ group. All ItemCompiles group.items) groups
    in_groups groups all =
        All-weaker (λ (group : Group). All PlacedCompiles (rules_of group)) (λ (group : Group). All ItemCompiles group.items)
        (λ (group : Group) rules. each_in PlacedCompiles rules_at group.items rules) groups (each_in PlacedCompiles rules_of groups all)

    of_groups : (groups : List Group) → All (λ group. All ItemCompiles group.items) groups → All PlacedCompiles (all_rules groups)
    of_groups groups each =
        all_in PlacedCompiles rules_of groups
        (All-weaker (λ (group : Group). All ItemCompiles group.items) (λ (group : Group). All PlacedCompiles (rules_of group))
        (λ (group : Group) items. all_in PlacedCompiles rules_at group.items items) groups each)

    pub all_compile : (old : Model) (groups : List Group) → All PlacedCompiles (all_rules old.groups) → All PlacedCompiles (all_rules groups)
        → All PlacedCompiles (all_rules (map (group_taken again (ruleset_in old)) groups))
    all_compile old groups was is =
        of_groups _ (groups_are ItemCompiles (λ dynamic. All NumberedCompiles dynamic.rules) of_item of_ruleset again ruleset_compiles old groups (in_groups old.groups was) (in_groups groups is))

-- between what the layout asks and this
pub both_compile : (rules : List PlacedRule) → All IsCompilable rules → All IsLight rules → All (λ placed. CanCompile placed.rule) rules
both_compile rules compilable light k d within =
    record { lists = (compilable k d within).lists; tables = (compilable k d within).tables; light = light k d within }

module _ (rules : List PlacedRule) (all : All (λ placed. CanCompile placed.rule) rules) where
  pub are_compilable : All IsCompilable rules
  are_compilable k d within = record { lists = (all k d within).lists; tables = (all k d within).tables }

  pub are_light : All IsLight rules
  are_light k d within = (all k d within).light

-- of two configurations one takes over from the other
pub configs_compile : (old own : Config) (model : Model) → model ≡ model_taken old.model own.model → All (λ placed. CanCompile placed.rule) (all_rules model.groups)
configs_compile old own model is =
    subst (λ (m : Model). All (λ placed. CanCompile placed.rule) (all_rules m.groups)) (sym is)
    (all_compile (again_in old.model own.model) (small_places old.model own.model own.declared.few) old.model own.model.groups
    (both_compile (all_rules old.model.groups) old.buildable.compilable old.limits.compiled.light)
    (both_compile (all_rules own.model.groups) own.buildable.compilable own.limits.compiled.light))
