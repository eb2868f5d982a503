-- What holds of the items of two configurations holds of those of the one that takes over.
use Rattle.std.proofs.Common.{◌≡◌, ◌≤◌, ◌∙◌, ℕ, Bool, true, false, Option, Some, None, List, [], ◌∷◌, All, IfSome, if◌then◌else◌, map, refl, ap}
use Rattle.std.proofs.lemmas.List.Elements.{All-cons, All-head, All-map, All-nil, All-weaker}
use Rattle.npf_types.specs.declared.{direction.Dir.Dir, name.Name.Name}
use Rattle.npf_model.specs.declared.{group.{Group.Group, Item.{Item, TheVariants.{One, Dynamic}}}, model.Model.Model, rule.{OnIf.OnIf, Rule.Rule}}
use Rattle.npf_config.specs.Loaded.{HasNextIds, IsNextWithin}
use Rattle.npf_config_changes.specs.Rulesets.{Ruleset, are_one_name, rulesets_at, rulesets_in, rulesets_named}
use Rattle.npf_config_reload.specs.Taken.{Again, again_in, first_of, group_taken, item_taken, model_taken, ruleset_again, ruleset_in, taken_ruleset}
use Rattle.npf_config_reload.proofs.EachLemmas.{all_in}

abbrev pub dynamic_of : ℕ → List (ℕ × Rule) → Ruleset
dynamic_of next_id rules = record { next_id = next_id; rules = rules }

-- a property of items, and that of rulesets which goes with it
module _ (P : Item → Type 0) (R : Ruleset → Type 0)
    (of_item : (name : Name) (dir : Option Dir) (on : Option OnIf) (next_id : ℕ) (rules : List (ℕ × Rule)) → P (Dynamic name dir on next_id rules) → R (dynamic_of next_id rules))
    (of_ruleset : (name : Name) (dir : Option Dir) (on : Option OnIf) (dynamic : Ruleset) → R dynamic → P (Dynamic name dir on dynamic.next_id dynamic.rules))
    (again : Again) (moves : (dynamic : Ruleset) → R dynamic → R (ruleset_again again dynamic)) where
  abbrev InGroup : Group → Type 0
  InGroup group = All P group.items

  named_at : (name : Name) (item : Item) → P item → All R (rulesets_at name item)
  named_at name (One rule) is = All-nil R
  named_at name (Dynamic own dir on next_id rules) is = by (are_one_name own name) where
    by : (same : Bool) → All R (if same then dynamic_of next_id rules ∷ [] else [])
    by true = All-cons R (dynamic_of next_id rules) [] (of_item own dir on next_id rules is) (All-nil R)
    by false = All-nil R

  first_is : (all : List Ruleset) → All R all → IfSome (first_of all) R
  first_is [] each = tt
  first_is (dynamic ∷ all) each = All-head R dynamic all each

  before_is : (old : Model) → All InGroup old.groups → (name : Name) → IfSome (ruleset_in old name) R
  before_is old each name =
      first_is (rulesets_named name old) (all_in R (rulesets_in name) old.groups
      (All-weaker InGroup (λ group. All R (rulesets_in name group)) (λ group items. all_in R (rulesets_at name) group.items
      (All-weaker P (λ item. All R (rulesets_at name item)) (named_at name) group.items items)) old.groups each))

  ruleset_is : (before : Option Ruleset) (own : Ruleset) → IfSome before R → R own → R (taken_ruleset again before own)
  ruleset_is None own was is = is
  ruleset_is (Some dynamic) own was is = moves dynamic was

  item_is : (before : Name → Option Ruleset) → ((name : Name) → IfSome (before name) R) → (item : Item) → P item → P (item_taken again before item)
  item_is before was (One rule) is = is
  item_is before was (Dynamic name dir on next_id rules) is =
      of_ruleset name dir on (taken_ruleset again (before name) (dynamic_of next_id rules))
      (ruleset_is (before name) (dynamic_of next_id rules) (was name) (of_item name dir on next_id rules is))

  pub groups_are : (old : Model) (groups : List Group) → All InGroup old.groups → All InGroup groups → All InGroup (map (group_taken again (ruleset_in old)) groups)
  groups_are old groups was each =
      All-map InGroup (group_taken again (ruleset_in old)) groups
      (All-weaker InGroup (λ (group : Group). InGroup (group_taken again (ruleset_in old) group)) (λ (group : Group) items.
      All-map P (item_taken again (ruleset_in old)) group.items
      (All-weaker P (λ (item : Item). P (item_taken again (ruleset_in old) item)) (item_is (ruleset_in old) (before_is old was)) group.items items)) groups each)

-- the numbers of the next rules are taken over too
pub ids_taken : (most : ℕ) (old file : Model) → HasNextIds most old → HasNextIds most file → HasNextIds most (model_taken old file)
ids_taken most old file was is =
    groups_are (IsNextWithin most) (λ dynamic. dynamic.next_id ≤ most) (λ name dir on next_id rules within. within) (λ name dir on dynamic within. within) (again_in old file)
    (λ dynamic within. within) old file.groups was is

-- what is found by each name is all that counts
module _ (again : Again) (found before : Name → Option Ruleset) (same : (name : Name) → found name ≡ before name) where
  same_item : (item : Item) → item_taken again found item ≡ item_taken again before item
  same_item (One rule) = refl
  same_item (Dynamic name dir on next_id rules) =
      ap (λ (was : Option Ruleset). Dynamic name dir on ((taken_ruleset again was (dynamic_of next_id rules)).next_id) ((taken_ruleset again was (dynamic_of next_id rules)).rules)) (same name)

  same_items : (items : List Item) → map (item_taken again found) items ≡ map (item_taken again before) items
  same_items [] = refl
  same_items (item ∷ items) =
      ap (λ (here : Item). here ∷ map (item_taken again found) items) (same_item item) ∙ ap (λ (rest : List Item). item_taken again before item ∷ rest) (same_items items)

  pub same_groups : (groups : List Group) → map (group_taken again found) groups ≡ map (group_taken again before) groups
  same_groups [] = refl
  same_groups (group ∷ groups) =
      ap (λ (items : List Item). record group { items = items } ∷ map (group_taken again found) groups) (same_items group.items)
      ∙ ap (λ (rest : List Group). group_taken again before group ∷ rest) (same_groups groups)
