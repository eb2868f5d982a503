-- The places of an order's rules: each rule of the configuration stands in it once.
use Rattle.std.proofs.Common.{◌≡◌, ℕ, zero, suc, ◌+◌, ◌<◌, ◌≤◌, ◌==◌, Bool, true, false, cond, List, [], ◌∷◌, Option, Some, None, length, map, get_or, slice_get}
use Rattle.std.proofs.Common.{refl, sym, subst, ap, ◌∙◌, inl, inr, arith}
use Rattle.std.specs.List.{filter}
use Rattle.std.specs.Option.{option_map, option_to_list}
use Rattle.std.proofs.lemmas.Bool.{cases_Bool, cases_eq, cases_lt, eq-eqb, eqb-true, false≢true, ne_eqb}
use Rattle.std.proofs.lemmas.List.{length-map}
use Rattle.std.proofs.lemmas.Option.{none-some, same_Some, get_or_from_slice_get, slice_get-map, slice_get_within}
use Rattle.npf_model.specs.declared.{group.Group.Group, model.Model.Model}
use Rattle.npf_model.specs.Verdict.{PlacedRule, all_rules, rule_at}
use Rattle.npf_precedence.specs.declared.entry.RuleEntry.{RuleEntry}
use Rattle.npf_precedence.specs.{Entry.ordered_rule, Precedence.{OrderedRule, in_order}, PrecedenceLaw.EachRuleOnce}
use Rattle.npf_judge.specs.Order.{entry_place}
use Rattle.npf_judge.specs.Place.{HasRulePlaces, IsRulePlace}
use Rattle.npf_judge.proofs.AnswerLemmas.{count_same}

at_most_one : {X : Type 0} (o : Option X) → length (option_to_list o) ≤ 1
at_most_one None = omega arith
at_most_one (Some x) = omega arith

-- ---- what a filter keeps
module _ {X : Type 0} (test : X → Bool) where
  kept_length : (b : Bool) (x : X) (rest : List X) → length rest ≤ length (cond b (x ∷ rest) rest)
  kept_length true x rest = omega arith
  kept_length false x rest = omega arith

  passing_length : (b : Bool) (x : X) (rest : List X) → b ≡ true → length (cond b (x ∷ rest) rest) ≡ suc (length rest)
  passing_length true x rest e = refl
  passing_length false x rest e = absurd (false≢true e)

  kept_one : (xs : List X) (k : ℕ) (d : X) → k < length xs → test (get_or xs k d) ≡ true → 1 ≤ length (filter test xs)
  kept_one [] k d low is = absurd (omega arith)
  kept_one (x ∷ xs) zero d low is = omega (arith, passing_length (test x) x (filter test xs) is)
  kept_one (x ∷ xs) (suc k) d low is = omega (arith, kept_length (test x) x (filter test xs), kept_one xs k d (omega arith) is)

  kept_two : (xs : List X) (one other : ℕ) (d : X) → one < other → other < length xs → test (get_or xs one d) ≡ true → test (get_or xs other d) ≡ true
      → 2 ≤ length (filter test xs)
  kept_two [] one other d less low is too = absurd (omega arith)
  kept_two (x ∷ xs) one zero d less low is too = absurd (omega arith)
  kept_two (x ∷ xs) zero (suc other) d less low is too =
      omega (arith, passing_length (test x) x (filter test xs) is, kept_one xs other d (omega arith) too)
  kept_two (x ∷ xs) (suc one) (suc other) d less low is too =
      omega (arith, kept_length (test x) x (filter test xs), kept_two xs one other d (omega arith) (omega arith) is too)

  some_kept : (xs : List X) → 1 ≤ length (filter test xs) → (k : ℕ) × (k < length xs) × ((d : X) → test (get_or xs k d) ≡ true)
  some_kept [] kept = absurd (omega arith)
  some_kept (x ∷ xs) kept = elim (cases_Bool (test x)) [
    | inl is ↦ (0, omega arith, λ d. is)
    | inr isnt ↦
        let rest = some_kept xs (subst (λ b. 1 ≤ length (cond b (x ∷ filter test xs) (filter test xs))) isnt kept) in
        (suc rest.0, omega (arith, rest.1), rest.2)
  ]

  passing_kept : (b : Bool) (y : X) (rest : List X) → b ≡ true → cond b (y ∷ rest) rest ≡ y ∷ rest
  passing_kept true y rest e = refl
  passing_kept false y rest e = absurd (false≢true e)

  only : {Y : Type 0} (f : X → Y) (y : X) (rest : List X) (x : X) → y ≡ x → (o : Option Y) → f y ∷ map f rest ≡ option_to_list o → o ≡ Some (f x)
  only f y rest x same None e = let lengths : suc (length (map f rest)) ≡ 0 = ap length e in absurd (omega (arith, lengths))
  only f y rest x same (Some z) e = ap Some (sym (ap (λ all. get_or all 0 z) e) ∙ ap f same)

  -- what alone is kept
  kept_is : {Y : Type 0} (f : X → Y) (xs : List X) (k : ℕ) (x : X) → slice_get xs k ≡ Some x → test x ≡ true → (o : Option Y)
      → map f (filter test xs) ≡ option_to_list o → o ≡ Some (f x)
  kept_is f [] k x there is o kept = absurd (none-some x there)
  kept_is f (y ∷ ys) zero x there is o kept =
      let same : y ≡ x = same_Some y x there in
      only f y (filter test ys) x same o (sym (ap (map f) (passing_kept (test y) y (filter test ys) (ap test same ∙ is))) ∙ kept)
  kept_is f (y ∷ ys) (suc k) x there is o kept = elim (cases_Bool (test y)) [
    | inl passing ↦
        let one = kept_one ys k x (slice_get_within ys k x there) (ap test (get_or_from_slice_get ys k x x there) ∙ is) in
        let lengths : length (map f (filter test (y ∷ ys))) ≡ length (option_to_list o) = ap length kept in
        absurd (omega (arith, lengths, length-map (filter test (y ∷ ys)) f, passing_length (test y) y (filter test ys) passing, one, at_most_one o))
    | inr failing ↦ kept_is f ys k x there is o (sym (ap (λ b. map f (cond b (y ∷ filter test ys) (filter test ys))) failing) ∙ kept)
  ]

-- ---- what stands at a place
pub there_is : {X : Type 0} (xs : List X) (i : ℕ) → i < length xs → (x : X) × (slice_get xs i ≡ Some x)
there_is [] i low = absurd (omega arith)
there_is (x ∷ xs) zero low = (x, refl)
there_is (x ∷ xs) (suc i) low = there_is xs i (omega arith)

pub within : {X : Type 0} (xs : List X) (i : ℕ) → 1 ≤ length (option_to_list (slice_get xs i)) → i < length xs
within [] zero some = absurd (omega arith)
within [] (suc i) some = absurd (omega arith)
within (x ∷ xs) zero some = omega arith
within (x ∷ xs) (suc i) some = let rest = within xs i some in omega (arith, rest)

-- ---- places
pub place_there : (xs : List RuleEntry) (i place : ℕ) → entry_place (slice_get xs i) ≡ Some place → (i < length xs) × ((d : RuleEntry) → (get_or xs i d).place ≡ place)
place_there [] zero place e = absurd (none-some place e)
place_there [] (suc i) place e = absurd (none-some place e)
place_there (x ∷ xs) zero place e = (omega arith, λ d. same_Some x.place place e)
place_there (x ∷ xs) (suc i) place e = let rest = place_there xs i place e in (omega (arith, rest.0), rest.1)

pub there_place : (xs : List RuleEntry) (i place : ℕ) → i < length xs → ((d : RuleEntry) → (get_or xs i d).place ≡ place) → entry_place (slice_get xs i) ≡ Some place
there_place [] i place low is = absurd (omega arith)
there_place (x ∷ xs) zero place low is = ap Some (is x)
there_place (x ∷ xs) (suc i) place low is = there_place xs i place (omega arith) is

filter_places : (place : ℕ) (xs : List RuleEntry)
    → length (filter (λ (ordered : OrderedRule). ordered.place == place) (map ordered_rule xs)) ≡ length (filter (λ (entry : RuleEntry). entry.place == place) xs)
filter_places place [] = refl
filter_places place (x ∷ xs) = elim (cases_eq x.place place) [
  | inl is ↦
      passing_length (λ (ordered : OrderedRule). ordered.place == place) (x.place == place) (ordered_rule x)
      (filter (λ (ordered : OrderedRule). ordered.place == place) (map ordered_rule xs)) (eq-eqb x.place place is)
      ∙ ap suc (filter_places place xs)
      ∙ sym (passing_length (λ (entry : RuleEntry). entry.place == place) (x.place == place) x (filter (λ (entry : RuleEntry). entry.place == place) xs) (eq-eqb x.place place is))
  | inr other ↦
      (let rest = filter (λ (ordered : OrderedRule). ordered.place == place) (map ordered_rule xs) in
      ap (λ b. length (cond b (ordered_rule x ∷ rest) rest)) (ne_eqb x.place place other))
      ∙ filter_places place xs
      ∙ sym (let rest = filter (λ (entry : RuleEntry). entry.place == place) xs in ap (λ b. length (cond b (x ∷ rest) rest)) (ne_eqb x.place place other))
]

module _ (model : Model) (order : List RuleEntry) (laid : map ordered_rule order ≡ in_order model.groups) (law : EachRuleOnce) where
  abbrev groups : List Group
  groups = model.groups

  -- as many rules of the order have the place as the configuration has there: one or none
  kept_are : (place : ℕ) → length (filter (λ (entry : RuleEntry). entry.place == place) order) ≡ length (option_to_list (slice_get (all_rules groups) place))
  kept_are place =
      sym (filter_places place order)
      ∙ ap (λ all. length (filter (λ (ordered : OrderedRule). ordered.place == place) all)) laid
      ∙ sym (length-map (filter (λ (ordered : OrderedRule). ordered.place == place) (in_order groups)) (λ (ordered : OrderedRule). ordered.placed))
      ∙ ap length (law groups place)

  none_twice : (one other place : ℕ) → IsRulePlace order one place → IsRulePlace order other place → one < other → ⊥
  none_twice one other place is too less =
      let here = place_there order one place is in
      let there = place_there order other place too in
      let entry = (there_is order other there.0).0 in
      let two : 2 ≤ length (filter (λ (e : RuleEntry). e.place == place) order) =
      kept_two (λ (e : RuleEntry). e.place == place) order one other entry less there.0
      (eq-eqb (get_or order one entry).place place (here.1 entry)) (eq-eqb (get_or order other entry).place place (there.1 entry)) in
      absurd (omega (arith, two, kept_are place, at_most_one (slice_get (all_rules groups) place)))

  is_below : (at place : ℕ) → IsRulePlace order at place → place < length order
  is_below at place is =
      let there = place_there order at place is in
      let entry = (there_is order at there.0).0 in
      let one = kept_one (λ (e : RuleEntry). e.place == place) order at entry there.0 (eq-eqb (get_or order at entry).place place (there.1 entry)) in
      let kept : 1 ≤ length (option_to_list (slice_get (all_rules groups) place)) = omega (arith, kept_are place, one) in
      omega (arith, within (all_rules groups) place kept, count_same groups order laid)

  pub is_once : (one other place : ℕ) → IsRulePlace order one place → IsRulePlace order other place → one ≡ other
  is_once one other place is too = elim (cases_lt one other) [
    | inl less ↦ absurd (none_twice one other place is too less)
    | inr more ↦ elim (cases_lt other one) [
      | inl less ↦ absurd (none_twice other one place too is less)
      | inr same ↦ omega (arith, more, same)
    ]
  ]

  -- the rule that stands there is the one that the model has there
  is_rule : (at : ℕ) (entry : RuleEntry) → slice_get order at ≡ Some entry → rule_at model entry.place ≡ Some entry.rule.now
  is_rule at entry there =
      let ordered : slice_get (in_order groups) at ≡ Some (ordered_rule entry) =
      ap (λ all. slice_get all at) (sym laid) ∙ slice_get-map ordered_rule order at ∙ ap (option_map ordered_rule) there in
      ap (option_map (λ (placed : PlacedRule). placed.rule)) (kept_is (λ (o : OrderedRule). o.place == entry.place) (λ (o : OrderedRule). o.placed) (in_order groups) at
      (ordered_rule entry) ordered (eq-eqb entry.place entry.place refl) (slice_get (all_rules groups) entry.place) (law groups entry.place))

  pub has_places : HasRulePlaces model order
  has_places = record { below = is_below; once = is_once; rules = is_rule }

  -- each rule's place is that of some rule of the order
  pub place_of : (place : ℕ) → place < length order → (at : ℕ) × IsRulePlace order at place
  place_of place low =
      let one = there_is (all_rules groups) place (omega (arith, low, count_same groups order laid)) in
      let single : length (option_to_list (slice_get (all_rules groups) place)) ≡ 1 = ap (λ o. length (option_to_list o)) one.1 in
      let kept = some_kept (λ (e : RuleEntry). e.place == place) order (omega (arith, kept_are place, single)) in
      (kept.0, there_place order kept.0 place kept.1 (λ d. eqb-true (get_or order kept.0 d).place place (kept.2 d)))
