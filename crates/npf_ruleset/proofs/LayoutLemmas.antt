-- Places that are laid out part after part.
use Rattle.std.proofs.Common.{◌≡◌, ◌≤◌, ℕ, zero, suc, ◌+◌, List, [], ◌∷◌, ◌++◌, Some, length, take, drop, slice_get, flat_map, option_and_then, refl, sym, subst, ap, ◌∙◌, arith}
use Rattle.std.{proofs.{lemmas.Slice.Zip.AllZip-long, Math.Seq.{take-length, take-suc}}, specs.{List.AllZip, Prelude.unwrap_or}}
use Rattle.std.proofs.lemmas.List.{append_assoc, append-nil, length-append, take-append-drop, Concat.flat_map-cons}
use Rattle.std.proofs.lemmas.Option.{get_or_from_slice_get, slice_get_within}
use Rattle.npf_model.specs.{declared.group.{Group.Group, Item.Item}, Verdict.{PlacedRule, rules_at}}
use Rattle.npf_ruleset.specs.{declared.{flat.FlatGroup.FlatGroup, place.RulePlace.RulePlace}, Flat.IsFlatGroup}
use Rattle.npf_ruleset.specs.{Layout.{AddsPlaces, StandsAt, places_from, rules_in_group}, Place.{rules_in, standing_rules}}
use Rattle.npf_ruleset.proofs.PairLemmas.{drop_here, zip_append}

-- an element parts a list into what is in front of it and what is behind it
module _ {X : Type 0} (xs : List X) (n : ℕ) (x : X) (at : slice_get xs n ≡ Some x) where
  pub up_to_next : take (suc n) xs ≡ take n xs ++ x ∷ []
  up_to_next = take-suc xs n x (slice_get_within xs n x at) ∙ ap (λ y. take n xs ++ y ∷ []) (get_or_from_slice_get xs n x x at)

  pub up_to : take (n + 1) xs ≡ take n xs ++ x ∷ []
  up_to =
      let next : suc n ≡ n + 1 = omega arith in
      sym (ap (λ k. take k xs) next) ∙ up_to_next

  pub around : xs ≡ take n xs ++ x ∷ drop (suc n) xs
  around =
      let found = drop_here xs n (slice_get_within xs n x at) in
      let same : found.0 ≡ x = ap (λ o. unwrap_or o x) (sym found.2 ∙ at) in
      sym (take-append-drop n xs) ∙ ap (λ rest. take n xs ++ rest) (found.1 ∙ ap (λ y. y ∷ drop (suc n) xs) same)

-- the same of what is made of each element
module _ {X Y : Type 0} (f : X → List Y) where
  spread_append : (xs ys : List X) → flat_map f (xs ++ ys) ≡ flat_map f xs ++ flat_map f ys
  spread_append [] ys = refl
  spread_append (x ∷ xs) ys = flat_map-cons f x (xs ++ ys) ∙ ap (λ zs. f x ++ zs) (spread_append xs ys)
      ∙ sym (append_assoc (f x) (flat_map f xs) (flat_map f ys)) ∙ sym (ap (λ zs. zs ++ flat_map f ys) (flat_map-cons f x xs))

  module _ (xs : List X) (n : ℕ) (x : X) (at : slice_get xs n ≡ Some x) where
    pub next_part : flat_map f (take (n + 1) xs) ≡ flat_map f (take n xs) ++ f x
    next_part = ap (flat_map f) (up_to xs n x at) ∙ spread_append (take n xs) (x ∷ []) ∙ ap (λ zs. flat_map f (take n xs) ++ zs) (flat_map-cons f x [] ∙ append-nil (f x))

module _ (groups : List Group) where
  pub adds_none : (old : List RulePlace) → AddsPlaces groups [] old old
  adds_none old = record { added = []; are = sym (append-nil old); each = tt }

  pub adds_both : (front behind : List PlacedRule) (old mid new : List RulePlace) → AddsPlaces groups front old mid → AddsPlaces groups behind mid new → AddsPlaces groups (front ++ behind) old new
  adds_both front behind old mid new one two = record {
    added = one.added ++ two.added;
    are = two.are ∙ ap (λ places. places ++ two.added) one.are ∙ append_assoc old one.added two.added;
    each = zip_append (StandsAt groups) front behind one.added two.added one.each two.each;
  }

  pub adds_len : (rules : List PlacedRule) (old new : List RulePlace) → AddsPlaces groups rules old new → length new ≡ length old + length rules
  adds_len rules old new adds = let len = AllZip-long (StandsAt groups) rules adds.added adds.each in let sum = length-append old adds.added in let whole = ap length adds.are in omega arith

  -- the places of an item's rules are numbered from the first one on
  standing : (first : RulePlace) (n : ℕ) → n ≤ length (standing_rules groups first) → AllZip (StandsAt groups) (take n (standing_rules groups first)) (places_from first n)
  standing first zero within = tt
  standing first (suc n) within =
      let rules = standing_rules groups first in
      let found = drop_here rules n (omega arith) in
      subst (λ front. AllZip (StandsAt groups) front (places_from first (suc n))) (sym (up_to_next rules n found.0 found.2))
      (zip_append (StandsAt groups) (take n rules) (found.0 ∷ []) (places_from first n) ((record first { number = n }) ∷ []) (standing first n (omega arith)) (found.2, tt))

  pub adds_item : (first : RulePlace) (rules : List PlacedRule) → standing_rules groups first ≡ rules → (count : ℕ) → count ≡ length rules → (old new : List RulePlace)
      → new ≡ old ++ places_from first count → AddsPlaces groups rules old new
  adds_item first rules are count all old new is =
      let stand = standing_rules groups first in
      let len : count ≡ length stand = all ∙ sym (ap length are) in
      subst (λ rs. AddsPlaces groups rs old new) are (record {
        added = places_from first count;
        are = is;
        each = subst (λ rs. AllZip (StandsAt groups) rs (places_from first count)) (ap (λ k. take k stand) len ∙ take-length stand) (standing first count (omega arith));
      })

-- what stands at an item's place, and in its group
module _ (groups : List Group) (number : ℕ) (group : Group) (items : List Item) (item : Item) (at : ℕ)
    (is_group : slice_get groups number ≡ Some group) (are : items ≡ group.items) (is_item : slice_get items at ≡ Some item) where
  pub stands_there : standing_rules groups (record { group = number; item = at; number = 0 }) ≡ rules_at item
  stands_there =
      ap (λ o. rules_in (option_and_then (λ g. slice_get g.items at) o)) is_group ∙ ap rules_in (sym (ap (λ list. slice_get list at) are) ∙ is_item)

pub in_group : (groups : List Group) (number : ℕ) (group : Group) (items : List Item) → slice_get groups number ≡ Some group → items ≡ group.items
    → rules_in_group (slice_get groups number) ≡ flat_map rules_at items
in_group groups number group items is_group are = ap rules_in_group is_group ∙ sym (ap (flat_map rules_at) are)

pub group_related : (groups : List Group) (n : ℕ) (group : Group) (flat : FlatGroup) (flat_groups new : List FlatGroup) → slice_get groups n ≡ Some group
    → AllZip IsFlatGroup (take n groups) flat_groups → IsFlatGroup group flat → new ≡ flat_groups ++ flat ∷ [] → AllZip IsFlatGroup (take (n + 1) groups) new
group_related groups n group flat flat_groups new at related is are =
    subst (λ gs. AllZip IsFlatGroup gs new) (sym (up_to groups n group at))
    (subst (AllZip IsFlatGroup (take n groups ++ group ∷ [])) (sym are) (zip_append IsFlatGroup (take n groups) (group ∷ []) flat_groups (flat ∷ []) related (is, tt)))
