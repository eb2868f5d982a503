-- The rule that decides, as it is found in the order of precedence.
use Rattle.std.proofs.Common.{◌≡◌, ◌==◌, Bool, true, List, [], ◌∷◌, Option, Some, None, map, slice_get, inl, inr, refl, sym, ap, ◌∙◌}
use Rattle.std.{specs.{List.{filter, find}, Option.{option_map, option_to_list}}, proofs.lemmas.{Bool.cases_Bool, Cmp.nat_eq_equiv}}
use Rattle.npf_types.specs.declared.{direction.Dir.Dir, facts.Facts.Facts, interface.IfId.IfId}
use Rattle.npf_model.specs.{declared.{group.Group.Group, model.Model.Model}, Describes.Tables, Verdict.{PlacedRule, all_rules, rule_at, verdict}}
use Rattle.npf_precedence.specs.{declared.entry.RuleEntry.RuleEntry, Entry.ordered_rule, Precedence.{OrderedRule, in_order}, PrecedenceLaw.{meets}}
use Rattle.npf_precedence.proofs.{PlaceLemmas.each_rule_once_lem, VerdictLemmas.first_match_decides_lem}
use Rattle.npf_explain.specs.{Explanation.{decider_of, is_final_rule}}

find_through : {X Y : Type 0} (f : X → Y) (t : Y → Bool) (xs : List X) → find t (map f xs) ≡ option_map f (find (λ x. t (f x)) xs)
find_through f t [] = refl
find_through f t (x ∷ xs) = elim (cases_Bool (t (f x))) [
  | inl passes ↦ rw passes refl
  | inr fails ↦ rw fails (find_through f t xs)
]

head_of : {Y : Type 0} (z : Y) (zs : List Y) (w : Option Y) → z ∷ zs ≡ option_to_list w → w ≡ Some z
head_of z zs None is = absurd (cc)
head_of z zs (Some y) is = cc

tail_of : {Y : Type 0} (z : Y) (zs : List Y) (w : Option Y) → z ∷ zs ≡ option_to_list w → zs ≡ []
tail_of z zs None is = absurd (cc)
tail_of z zs (Some y) is = cc

-- of a list that keeps one item at most, it is the one that is found
only_one : {X Y : Type 0} (f : X → Y) (q t : X → Bool) (xs : List X) (o : X) (w : Option Y)
    → find t xs ≡ Some o → q o ≡ true → map f (filter q xs) ≡ option_to_list w → w ≡ Some (f o)
only_one f q t [] o w found keeps one = absurd (cc)
only_one f q t (x ∷ xs) o w found keeps one = elim (cases_Bool (t x)) [
  | inl passes ↦ let same : x ≡ o = (let h = rw passes at found in cc) in
      let kept : q x ≡ true = ap q same ∙ keeps in
      head_of (f x) (map f (filter q xs)) w (rw kept at one) ∙ ap (λ y. Some (f y)) same
  | inr fails ↦ let behind = rw fails at found in elim (cases_Bool (q x)) [
    | inl kept ↦ let none : None ≡ Some (f o) = only_one f q t xs o None behind keeps (tail_of (f x) (map f (filter q xs)) w (rw kept at one)) in absurd (cc)
    | inr left ↦ only_one f q t xs o w behind keeps (rw left at one)
  ]
]

module _ (tables : Tables) (facts : Facts) (ifid : IfId) (dir : Dir) where
  -- what is found in the order of precedence stands at its place
  pub found_rule : (groups : List Group) (o : OrderedRule) → find (meets tables facts ifid dir) (in_order groups) ≡ Some o
      → slice_get (all_rules groups) o.place ≡ Some o.placed
  found_rule groups o found =
      only_one (λ (ordered : OrderedRule). ordered.placed) (λ ordered. ordered.place == o.place) (meets tables facts ifid dir) (in_order groups) o
      (slice_get (all_rules groups) o.place) found (nat_eq_equiv.refl o.place) (each_rule_once_lem groups o.place)

  module _ (model : Model) (order : List RuleEntry) (laid : map ordered_rule order ≡ in_order model.groups) where
    found_there : (found : Option RuleEntry) → find (λ entry. meets tables facts ifid dir (ordered_rule entry)) order ≡ found
        → find (meets tables facts ifid dir) (in_order model.groups) ≡ option_map ordered_rule found
    found_there found is = ap (find (meets tables facts ifid dir)) (sym laid) ∙ find_through ordered_rule (meets tables facts ifid dir) order ∙ ap (option_map ordered_rule) is

    verdict_is : (found : Option RuleEntry) → find (λ entry. meets tables facts ifid dir (ordered_rule entry)) order ≡ found
        → verdict tables facts ifid dir 0 model.groups ≡ option_map (λ entry. entry.place) found
    verdict_is None is =
        first_match_decides_lem tables facts ifid dir model.groups ∙ ap (option_map (λ (ordered : OrderedRule). ordered.place)) (found_there None is)
    verdict_is (Some entry) is =
        first_match_decides_lem tables facts ifid dir model.groups ∙ ap (option_map (λ (ordered : OrderedRule). ordered.place)) (found_there (Some entry) is)

    pub none_decides : find (λ entry. meets tables facts ifid dir (ordered_rule entry)) order ≡ None
        → None ≡ decider_of model (verdict tables facts ifid dir 0 model.groups)
    none_decides is = ap (decider_of model) (sym (verdict_is None is))

    pub one_decides : (entry : RuleEntry) → find (λ entry. meets tables facts ifid dir (ordered_rule entry)) order ≡ Some entry
        → Some (record { place = entry.place; last = entry.rule.now.last }) ≡ decider_of model (verdict tables facts ifid dir 0 model.groups)
    one_decides entry is =
        let there = found_rule model.groups (ordered_rule entry) (found_there (Some entry) is) in
        let rule : rule_at model entry.place ≡ Some entry.rule.now = ap (option_map (λ (placed : PlacedRule). placed.rule)) there in
        ap (λ rule. Some (record { place = entry.place; last = is_final_rule rule })) (sym rule)
        ∙ ap (decider_of model) (sym (verdict_is (Some entry) is))
