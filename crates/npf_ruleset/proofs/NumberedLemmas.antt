-- The flat rules of a configuration whose interfaces' numbers are set anew.
use Rattle.std.proofs.Common.{◌≡◌, ◌≤◌, ℕ, All, ◌||◌, List, [], ◌∷◌, ◌++◌, Option, Some, None, length, map, flat_map, option_and_then, slice_get, refl, sym, subst, ap, ◌∙◌}
use Rattle.std.{specs.{List.{AllZip, list_any}, Option.option_map}, proofs.lemmas.List.{length-map, map-append, Concat.flat_map-cons}}
use Rattle.std.proofs.lemmas.{List.Elements.{All-map, All-weaker}, Option.slice_get-map, Slice.Zip.AllZip-long}
use Rattle.npf_types.specs.declared.{direction.Dir.Dir, limits.TheConstants.{MAX_MAPS, MAX_RULES}}
use Rattle.npf_model.specs.declared.{group.{Group.Group, Item.{Item, TheVariants.{One, Dynamic}}}, iface.Iface.Iface, model.Model.Model, rule.OnIf.OnIf}
use Rattle.npf_model.specs.declared.rule.Rule.{Rule}
use Rattle.npf_model.specs.Numbering.{numbered, numbered_entry, numbered_group, numbered_item, numbered_map, numbered_on, numbered_rule}
use Rattle.npf_model.specs.Verdict.{PlacedRule, all_rules, rules_at, rules_of}
use Rattle.npf_bpf.specs.declared.insn.Insn.{Insn}
use Rattle.npf_ruleset.specs.declared.{flat.{FlatGroup.FlatGroup, FlatRule.FlatRule}, place.RulePlace.RulePlace}
use Rattle.npf_ruleset.specs.Flat.{IsCompiled, IsFlat, IsFlatGroup, IsFlatRule, item_has_final, programs_of}
use Rattle.npf_ruleset.specs.{Numbered.{numbered_flat_group, numbered_flat_rule}, Place.{placed_at, rules_in}}
use Rattle.npf_ruleset.{specs.Refusal.{IsBuildable, IsCompilable, IsLight, IsWithinLimits}, proofs.PairLemmas.{zip_each, zip_of}}

module _ (ifaces : List Iface) where
  numbered_placed : PlacedRule → PlacedRule
  numbered_placed placed = record { within_dir = placed.within_dir; within_on = option_map (numbered_on ifaces) placed.within_on; rule = numbered_rule ifaces placed.rule }

  in_ruleset : (dir : Option Dir) (on : Option OnIf) (rules : List (ℕ × Rule))
      → map (λ entry. record { within_dir = dir; within_on = option_map (numbered_on ifaces) on; rule = entry.1 }) (map (numbered_entry ifaces) rules)
      ≡ map numbered_placed (map (λ entry. record { within_dir = dir; within_on = on; rule = entry.1 }) rules)
  unfolding numbered_placed
  in_ruleset dir on [] = refl
  in_ruleset dir on (entry ∷ rules) =
      let head : PlacedRule = record { within_dir = dir; within_on = option_map (numbered_on ifaces) on; rule = numbered_rule ifaces entry.1 } in
      ap (λ rest. head ∷ rest) (in_ruleset dir on rules)

  in_item : (item : Item) → rules_at (numbered_item ifaces item) ≡ map numbered_placed (rules_at item)
  unfolding numbered_placed
  in_item (One rule) = refl
  in_item (Dynamic name dir on next_id rules) = in_ruleset dir on rules

-- what is made of changed elements is what is made of the elements, changed
spread : {X Y : Type 0} (f : X → List Y) (change : X → X) (changed : Y → Y) → ((x : X) → f (change x) ≡ map changed (f x))
    → (xs : List X) → flat_map f (map change xs) ≡ map changed (flat_map f xs)
spread f change changed each [] = refl
spread f change changed each (x ∷ xs) =
    flat_map-cons f (change x) (map change xs) ∙ ap (λ ys. ys ++ flat_map f (map change xs)) (each x) ∙ ap (λ ys. map changed (f x) ++ ys) (spread f change changed each xs)
    ∙ sym (map-append changed (f x) (flat_map f xs)) ∙ sym (ap (map changed) (flat_map-cons f x xs))

module _ (ifaces : List Iface) where
  in_group : (group : Group) → rules_of (numbered_group ifaces group) ≡ map (numbered_placed ifaces) (rules_of group)
  in_group group = spread rules_at (numbered_item ifaces) (numbered_placed ifaces) (in_item ifaces) group.items

  in_all : (groups : List Group) → all_rules (map (numbered_group ifaces) groups) ≡ map (numbered_placed ifaces) (all_rules groups)
  in_all groups = spread rules_of (numbered_group ifaces) (numbered_placed ifaces) in_group groups

  at_item : (o : Option Item) (n : ℕ) → slice_get (rules_in (option_map (numbered_item ifaces) o)) n ≡ option_map (numbered_placed ifaces) (slice_get (rules_in o) n)
  at_item None n = slice_get-map (numbered_placed ifaces) [] n
  at_item (Some item) n = ap (λ rules. slice_get rules n) (in_item ifaces item) ∙ slice_get-map (numbered_placed ifaces) (rules_at item) n

  at_group : (o : Option Group) (k : ℕ) →
      option_and_then (λ g. slice_get g.items k) (option_map (numbered_group ifaces) o) ≡ option_map (numbered_item ifaces) (option_and_then (λ g. slice_get g.items k) o)
  at_group None k = refl
  at_group (Some group) k = slice_get-map (numbered_item ifaces) group.items k

  at_place : (groups : List Group) (place : RulePlace) → placed_at (map (numbered_group ifaces) groups) place ≡ option_map (numbered_placed ifaces) (placed_at groups place)
  at_place groups place =
      ap (λ o. slice_get (rules_in (option_and_then (λ g. slice_get g.items place.item) o)) place.number) (slice_get-map (numbered_group ifaces) groups place.group)
      ∙ ap (λ o. slice_get (rules_in o) place.number) (at_group (slice_get groups place.group) place.item)
      ∙ at_item (option_and_then (λ g. slice_get g.items place.item) (slice_get groups place.group)) place.number

  module _ (groups : List Group) where
    rule_numbered : (placed : PlacedRule) (flat : FlatRule) → IsFlatRule groups placed flat →
        IsFlatRule (map (numbered_group ifaces) groups) (numbered_placed ifaces placed) (numbered_flat_rule ifaces flat)
    unfolding numbered_placed
    rule_numbered placed flat is = record {
      place = at_place groups flat.place ∙ ap (option_map (numbered_placed ifaces)) is.place;
      binding = record {
        incoming = is.binding.incoming;
        outgoing = is.binding.outgoing;
        within = ap (option_map (numbered_on ifaces)) is.binding.within;
        own = ap (option_map (numbered_on ifaces)) is.binding.own;
      };
      last = is.last;
      row = is.row;
      value = is.value;
    }

    rules_numbered : (rules : List PlacedRule) (flats : List FlatRule) → AllZip (IsFlatRule groups) rules flats
        → AllZip (IsFlatRule (map (numbered_group ifaces) groups)) (map (numbered_placed ifaces) rules) (map (numbered_flat_rule ifaces) flats)
    rules_numbered [] [] all = tt
    rules_numbered (p ∷ ps) (f ∷ fs) all = (rule_numbered p f all.0, rules_numbered ps fs all.1)
    rules_numbered [] (f ∷ fs) all = absurd all
    rules_numbered (p ∷ ps) [] all = absurd all

  in_ruleset_final : (rules : List (ℕ × Rule)) → list_any (λ numbered. numbered.1.last) (map (numbered_entry ifaces) rules) ≡ list_any (λ numbered. numbered.1.last) rules
  in_ruleset_final [] = refl
  in_ruleset_final (rule ∷ rules) = ap (λ b. rule.1.last || b) (in_ruleset_final rules)

  item_final : (item : Item) → item_has_final (numbered_item ifaces item) ≡ item_has_final item
  item_final (One rule) = refl
  item_final (Dynamic name dir on next_id rules) = in_ruleset_final rules

  same_finals : (items : List Item) → list_any item_has_final (map (numbered_item ifaces) items) ≡ list_any item_has_final items
  same_finals [] = refl
  same_finals (item ∷ items) = rw (item_final item) (ap (λ b. item_has_final item || b) (same_finals items))

  groups_numbered : (groups : List Group) (flats : List FlatGroup) → AllZip IsFlatGroup groups flats → AllZip IsFlatGroup (map (numbered_group ifaces) groups) (map (numbered_flat_group ifaces) flats)
  groups_numbered [] [] all = tt
  groups_numbered (g ∷ gs) (f ∷ fs) all = (
    record {
      binding = record {
        incoming = all.0.binding.incoming;
        outgoing = all.0.binding.outgoing;
        within = ap (option_map (numbered_on ifaces)) all.0.binding.within;
        own = ap (option_map (numbered_on ifaces)) all.0.binding.own;
      };
      count = all.0.count ∙ sym (ap length (in_group g) ∙ length-map (rules_of g) (numbered_placed ifaces));
      finals = all.0.finals ∙ sym (same_finals g.items);
    },
    groups_numbered gs fs all.1,
  )
  groups_numbered [] (f ∷ fs) all = absurd all
  groups_numbered (g ∷ gs) [] all = absurd all

  pub flat_numbered : (groups : List Group) (flat_groups : List FlatGroup) (flat_rules : List FlatRule) → IsFlat groups flat_groups flat_rules
      → IsFlat (map (numbered_group ifaces) groups) (map (numbered_flat_group ifaces) flat_groups) (map (numbered_flat_rule ifaces) flat_rules)
  flat_numbered groups flat_groups flat_rules flat =
      let new = map (numbered_group ifaces) groups in
      let new_groups = map (numbered_flat_group ifaces) flat_groups in
      let new_rules = map (numbered_flat_rule ifaces) flat_rules in
      let for_groups = groups_numbered groups flat_groups (zip_of IsFlatGroup groups flat_groups flat.group_count flat.each_group) in
      let for_rules = subst (λ rules. AllZip (IsFlatRule new) rules new_rules) (sym (in_all groups))
      (rules_numbered groups (all_rules groups) flat_rules (zip_of (IsFlatRule groups) (all_rules groups) flat_rules flat.rule_count flat.each_rule)) in
      record {
        group_count = AllZip-long IsFlatGroup new new_groups for_groups;
        each_group = zip_each IsFlatGroup new new_groups for_groups;
        rule_count = AllZip-long (IsFlatRule new) (all_rules new) new_rules for_rules;
        each_rule = zip_each (IsFlatRule new) (all_rules new) new_rules for_rules;
      }

  pub programs_numbered : (rules : List FlatRule) → programs_of (map (numbered_flat_rule ifaces) rules) ≡ programs_of rules
  programs_numbered [] = refl
  programs_numbered (rule ∷ rules) = ap (λ rest. rule.program ∷ rest) (programs_numbered rules)

  -- the programs of rules are those of the rules with other numbers
  compiled_stay : (rules : List PlacedRule) (code : List (List Insn)) → AllZip (λ (placed : PlacedRule). IsCompiled placed.rule) rules code
      → AllZip (λ (placed : PlacedRule). IsCompiled placed.rule) (map (numbered_placed ifaces) rules) code
  unfolding numbered_placed
  compiled_stay [] [] are = tt
  compiled_stay (placed ∷ rules) (program ∷ code) are =
      (record { value = are.0.value; valid = are.0.valid; count = are.0.count; size = are.0.size }, compiled_stay rules code are.1)
  compiled_stay [] (program ∷ code) are = absurd are
  compiled_stay (placed ∷ rules) [] are = absurd are

  light_stays : (placed : PlacedRule) → IsLight placed → IsLight (numbered_placed ifaces placed)
  unfolding numbered_placed
  light_stays placed light = light

  compilable_stays : (placed : PlacedRule) → IsCompilable placed → IsCompilable (numbered_placed ifaces placed)
  unfolding numbered_placed
  compilable_stays placed is = record {
    lists = record { protos = is.lists.protos; from = is.lists.from; to = is.lists.to };
    tables = record { from = is.tables.from; to = is.tables.to };
  }

  all_stay : (P : PlacedRule → Type 0) → ((placed : PlacedRule) → P placed → P (numbered_placed ifaces placed)) → (groups : List Group) → All P (all_rules groups)
      → All P (all_rules (map (numbered_group ifaces) groups))
  all_stay P stays groups all =
      subst (All P) (sym (in_all groups))
      (All-map P (numbered_placed ifaces) (all_rules groups) (All-weaker P (λ placed. P (numbered_placed ifaces placed)) stays (all_rules groups) all))

  pub limits_numbered : (model : Model) (code : List (List Insn)) → IsWithinLimits model code → IsWithinLimits (numbered ifaces model) code
  limits_numbered model code limits = record {
    compiled = record {
      each = subst (λ (rules : List PlacedRule). AllZip (λ (placed : PlacedRule). IsCompiled placed.rule) rules code) (sym (in_all model.groups))
          (compiled_stay (all_rules model.groups) code limits.compiled.each);
      light = all_stay IsLight light_stays model.groups limits.compiled.light;
    };
    few = limits.few;
  }

  pub buildable_numbered : (model : Model) → IsBuildable model → IsBuildable (numbered ifaces model)
  buildable_numbered model is = record {
    rules = subst (λ n. n ≤ MAX_RULES) (sym (ap length (in_all model.groups) ∙ length-map (all_rules model.groups) (numbered_placed ifaces))) is.rules;
    maps = subst (λ n. n ≤ MAX_MAPS) (sym (length-map model.maps (numbered_map ifaces))) is.maps;
    compilable = all_stay IsCompilable compilable_stays model.groups is.compilable;
  }
