-- What is found in the order of precedence is found by the configuration's meaning.
use Rattle.std.proofs.Common.{◌≡◌, ℕ, zero, suc, ◌+◌, ◌<◌, ◌≤◌, ◌==◌, Bool, true, false, cond, List, [], ◌∷◌, Option, Some, None, length, map, get_or, slice_get, find}
use Rattle.std.proofs.Common.{refl, sym, subst, ap, ◌∙◌, inl, inr, arith}
use Rattle.std.specs.List.{All, filter}
use Rattle.std.specs.Option.{option_map, option_to_list}
use Rattle.std.proofs.lemmas.Bool.{cases_lt, eq-eqb, false≢true}
use Rattle.std.proofs.lemmas.List.{length-map}
use Rattle.std.proofs.lemmas.Option.{none-some, slice_get_past}
use Rattle.npf_types.specs.declared.{direction.Dir.Dir, facts.Facts.Facts, interface.IfId.IfId}
use Rattle.npf_model.specs.declared.{group.Group.Group, model.Model.Model, rule.Rule.Rule}
use Rattle.npf_model.specs.{Configuration.verdict_of, Describes.Tables, Verdict.{PlacedRule, all_rules, verdict}}
use Rattle.npf_precedence.specs.declared.entry.RuleEntry.{RuleEntry}
use Rattle.npf_precedence.specs.{Entry.ordered_rule, Precedence.{OrderedRule, in_order}, PrecedenceLaw.{EachRuleOnce, FirstMatchDecides, first_match, meets}}
use Rattle.npf_precedence.proofs.OrderLemmas.{length-order_from}
use Rattle.npf_products.specs.declared.packet.CellPacket.{CellPacket}
use Rattle.npf_judge.specs.declared.deciders.Deciders.{Deciders}
use Rattle.npf_judge.specs.Deciders.{IsClassAnswer, IsDecidedBy, IsWitnessFor, IsClassPacket}
use Rattle.npf_judge.specs.Order.{HasWitness, IsNoneFound, IsOrderAnswer, decider_in, meets_entry, entry_place}

-- ---- which rule decides
placed_when : (b : Bool) (entry : RuleEntry) (ordered : Option OrderedRule) (rest : Option RuleEntry)
    → option_map (λ (o : OrderedRule). o.place) ordered ≡ entry_place rest
    → option_map (λ (o : OrderedRule). o.place) (cond b (Some (ordered_rule entry)) ordered) ≡ entry_place (cond b (Some entry) rest)
placed_when true entry ordered rest same = refl
placed_when false entry ordered rest same = same

module _ (tables : Tables) (facts : Facts) (ifid : IfId) (dir : Dir) where
  pub matches_first : (order : List RuleEntry) → first_match tables facts ifid dir (map ordered_rule order) ≡ decider_in tables order facts ifid dir
  matches_first [] = refl
  matches_first (e ∷ es) =
      placed_when (meets_entry tables facts ifid dir e) e (find (meets tables facts ifid dir) (map ordered_rule es)) (find (meets_entry tables facts ifid dir) es) (matches_first es)

  pub verdict_first : (groups : List Group) (order : List RuleEntry) → map ordered_rule order ≡ in_order groups → FirstMatchDecides
      → verdict tables facts ifid dir 0 groups ≡ decider_in tables order facts ifid dir
  verdict_first groups order laid law =
      law tables facts ifid dir groups ∙ ap (first_match tables facts ifid dir) (sym laid) ∙ matches_first order

-- ---- places
kept_when : {X : Type 0} (b : Bool) (x : X) (rest : List X) → b ≡ true → (y : X) × (ys : List X) × (cond b (x ∷ rest) rest ≡ y ∷ ys)
kept_when true x rest e = (x, rest, refl)
kept_when false x rest e = absurd (false≢true e)

kept_anyway : {X : Type 0} (b : Bool) (x : X) (rest : List X) → (y : X) × (ys : List X) × (rest ≡ y ∷ ys) → (y : X) × (ys : List X) × (cond b (x ∷ rest) rest ≡ y ∷ ys)
kept_anyway true x rest some = (x, rest, refl)
kept_anyway false x rest some = some

kept_some : {X : Type 0} (test : X → Bool) (xs : List X) (k : ℕ) (d : X) → k < length xs → test (get_or xs k d) ≡ true → (y : X) × (ys : List X) × (filter test xs ≡ y ∷ ys)
kept_some test [] k d low is = absurd (omega arith)
kept_some test (x ∷ xs) zero d low is = kept_when (test x) x (filter test xs) is
kept_some test (x ∷ xs) (suc k) d low is = kept_anyway (test x) x (filter test xs) (kept_some test xs k d (omega arith) is)

some_there : {X : Type 0} (found : Option X) (y : X) (ys : List X) → y ∷ ys ≡ option_to_list found → found ≡ None → ⊥
some_there None y ys e is = cc
some_there (Some x) y ys e is = cc

get_map : {X Y : Type 0} (f : X → Y) (xs : List X) (k : ℕ) (d : X) → k < length xs → get_or (map f xs) k (f d) ≡ f (get_or xs k d)
get_map f [] k d low = absurd (omega arith)
get_map f (x ∷ xs) zero d low = refl
get_map f (x ∷ xs) (suc k) d low = get_map f xs k d (omega arith)

pub count_same : (groups : List Group) (order : List RuleEntry) → map ordered_rule order ≡ in_order groups → length order ≡ length (all_rules groups)
count_same groups order laid = sym (length-map order ordered_rule) ∙ ap length laid ∙ length-order_from 0 groups

pub places_below : (groups : List Group) (order : List RuleEntry) → map ordered_rule order ≡ in_order groups → EachRuleOnce → All (λ entry. entry.place < length order) order
places_below groups order laid law k d low =
    let place = (get_or order k d).place in
    let test : OrderedRule → Bool = λ ordered. ordered.place == place in
    let inside : k < length (map ordered_rule order) = omega (arith, low, length-map order ordered_rule) in
    let here : test (get_or (map ordered_rule order) k (ordered_rule d)) ≡ true = ap test (get_map ordered_rule order k d low) ∙ eq-eqb place place refl in
    let kept = kept_some test (map ordered_rule order) k (ordered_rule d) inside here in
    let one : map (λ (ordered : OrderedRule). ordered.placed) (kept.0 ∷ kept.1) ≡ option_to_list (slice_get (all_rules groups) place) =
    ap (map (λ (ordered : OrderedRule). ordered.placed)) (sym kept.2 ∙ ap (filter test) laid) ∙ law groups place in
    elim (cases_lt place (length (all_rules groups))) [
      | inl within ↦ omega (arith, within, count_same groups order laid)
      | inr past ↦ absurd (some_there (slice_get (all_rules groups) place) kept.0.placed (map (λ (ordered : OrderedRule). ordered.placed) kept.1) one (slice_get_past (all_rules groups) place past))
    ]

-- ---- the answer
module _ (model : Model) (tables : Tables) (class : Rule) (order : List RuleEntry) (answer : Deciders)
    (laid : map ordered_rule order ≡ in_order model.groups) (law : FirstMatchDecides) (is : IsOrderAnswer tables class order answer) where
  same : (facts : Facts) (ifid : IfId) (dir : Dir) → verdict tables facts ifid dir 0 model.groups ≡ decider_in tables order facts ifid dir
  same facts ifid dir = verdict_first tables facts ifid dir model.groups order laid law

  rule_found : (place : ℕ) (found : Option CellPacket) → get_or answer.rules.items place None ≡ found
      → IsWitnessFor (record { model = model; tables = tables }) class (Some place) found
  rule_found place (Some packet) e =
      let by = is.sound place packet e in
      record { of_class = by.of_class; decided = same packet.facts packet.ifid packet.dir ∙ by.decided }
  rule_found place None e = λ facts ifid dir by.
      let there : HasWitness answer.rules.items (Some place) =
      subst (HasWitness answer.rules.items) (sym (same facts ifid dir) ∙ by.decided) (is.whole facts ifid dir by.of_class) in
      none-some there.0 (sym e ∙ there.1)

  none_found : (found : Option CellPacket) → answer.none ≡ found → IsWitnessFor (record { model = model; tables = tables }) class None found
  none_found (Some packet) e =
      let by = subst (IsNoneFound tables class order) e is.none in
      record { of_class = by.of_class; decided = same packet.facts packet.ifid packet.dir ∙ by.decided }
  none_found None e = λ facts ifid dir by.
      subst (IsNoneFound tables class order) e is.none facts ifid dir by.of_class (sym (same facts ifid dir) ∙ by.decided)

  pub is_answer : IsClassAnswer (record { model = model; tables = tables }) class answer
  is_answer = record {
    count = is.count ∙ count_same model.groups order laid;
    rules = λ place. rule_found place (get_or answer.rules.items place None) refl;
    none = none_found answer.none refl;
  }
