-- The first match in the order of precedence decides.
use Rattle.std.proofs.Common.{◌≡◌, ℕ, ◌+◌, Bool, true, false, not, cond, ◌&&◌, List, [], ◌∷◌, Option, Some, None, length, reverse, refl, sym, ap, ◌∙◌}
use Rattle.std.{specs.{List.{filter, find}, Option.{option_map, option_or}, Prelude.if◌then◌else◌}, proofs.lemmas.List.{reverse-append, Elements.filter-append, Folds.find-append}}
use Rattle.npf_types.specs.declared.{direction.Dir.Dir, facts.Facts.Facts, interface.IfId.IfId}
use Rattle.npf_model.specs.{declared.group.Group.Group, Describes.Tables}
use Rattle.npf_model.specs.Verdict.{PlacedRule, applies, first_where, group_answer, last_where, matches, rules_of, verdict}
use Rattle.npf_precedence.specs.{Precedence.{OrderedRule, finals_first, is_final, is_not_final, order_from, rules_from}, PrecedenceLaw.{FirstMatchDecides, first_match, meets}}

abbrev place_of : Option OrderedRule → Option ℕ
place_of found = option_map (λ ordered. ordered.place) found

place_of_either : (one other : Option OrderedRule) → place_of (option_or one other) ≡ option_or (place_of one) (place_of other)
place_of_either (Some rule) other = refl
place_of_either None other = refl

-- one rule in front of others, where it is kept (`kept`) and matches (`hit`) or not
one_in_front : (t : OrderedRule → Bool) (kept hit : Bool) (rule : OrderedRule) (others : List OrderedRule) (behind : Option ℕ) → t rule ≡ hit
    → place_of (find t others) ≡ behind → place_of (find t (cond kept (rule ∷ others) others)) ≡ (if kept && hit then Some rule.place else behind)
one_in_front t true true rule others behind is rest = rw is refl
one_in_front t true false rule others behind is rest = rw is rest
one_in_front t false hit rule others behind is rest = rest

-- where no rule with `final` matches, the last match is the last one without `final`
one_last : (final hit : Bool) (n k : ℕ) (first one other : Option ℕ) → (if final && hit then Some n else first) ≡ None → (first ≡ None → one ≡ other)
    → option_or one (if not final && hit then Some k else None) ≡ option_or other (if hit then Some k else None)
one_last true true n k first one other none rest = absurd (cc)
one_last true false n k first one other none rest = ap (λ o. option_or o None) (rest none)
one_last false hit n k first one other none rest = ap (λ o. option_or o (if hit then Some k else None)) (rest none)

one_without : (final : Bool) (n : ℕ) (first last : Option ℕ) → option_or first last ≡ None → option_or (if final && false then Some n else first) (option_or last None) ≡ None
one_without true n (Some at) last none = absurd (cc)
one_without true n None (Some at) none = absurd (cc)
one_without true n None None none = refl
one_without false n (Some at) last none = absurd (cc)
one_without false n None (Some at) none = absurd (cc)
one_without false n None None none = refl

none_matches : (n : ℕ) (rules : List PlacedRule) → option_or (first_where (λ (p : PlacedRule). p.rule.last && false) n rules) (last_where (λ (p : PlacedRule). false) n rules) ≡ None
none_matches n [] = refl
none_matches n (p ∷ ps) =
    one_without p.rule.last n (first_where (λ (p : PlacedRule). p.rule.last && false) (n + 1) ps) (last_where (λ (p : PlacedRule). false) (n + 1) ps) (none_matches (n + 1) ps)

module _ (m : PlacedRule → Bool) where
  last_of_others : (n k : ℕ) (rules : List PlacedRule) → first_where (λ p. p.rule.last && m p) n rules ≡ None
      → last_where (λ p. not p.rule.last && m p) k rules ≡ last_where m k rules
  last_of_others n k [] none = refl
  last_of_others n k (p ∷ ps) none =
      one_last p.rule.last (m p) n k (first_where (λ p. p.rule.last && m p) (n + 1) ps) (last_where (λ p. not p.rule.last && m p) (k + 1) ps) (last_where m (k + 1) ps) none
      (last_of_others (n + 1) (k + 1) ps)

  either_way : (n : ℕ) (rules : List PlacedRule) (first : Option ℕ) → first_where (λ p. p.rule.last && m p) n rules ≡ first
      → option_or first (last_where (λ p. not p.rule.last && m p) n rules) ≡ option_or first (last_where m n rules)
  either_way n rules (Some at) is = refl
  either_way n rules None is = last_of_others n n rules is

  -- the first of a group's rules, by a test that doesn't look at places
  module _ (group : Group) (t : OrderedRule → Bool)
      (same : (k : ℕ) (p : PlacedRule) → t (record { place = k; group_dir = group.dir; group_on = group.on; placed = p }) ≡ m p) where
    first_final : (n : ℕ) (rules : List PlacedRule) → place_of (find t (filter is_final (rules_from group n rules))) ≡ first_where (λ p. p.rule.last && m p) n rules
    first_final n [] = refl
    first_final n (p ∷ ps) =
        let here : OrderedRule = record { place = n; group_dir = group.dir; group_on = group.on; placed = p } in
        one_in_front t p.rule.last (m p) here (filter is_final (rules_from group (n + 1) ps)) (first_where (λ p. p.rule.last && m p) (n + 1) ps) (same n p) (first_final (n + 1) ps)

    first_other : (n : ℕ) (rules : List PlacedRule)
        → place_of (find t (filter is_not_final (reverse (rules_from group n rules)))) ≡ last_where (λ p. not p.rule.last && m p) n rules
    first_other n [] = refl
    first_other n (p ∷ ps) =
        let here : OrderedRule = record { place = n; group_dir = group.dir; group_on = group.on; placed = p } in
        let others = rules_from group (n + 1) ps in
        let front = filter is_not_final (reverse others) in
        let one = filter is_not_final (here ∷ []) in
        ap (λ rules. place_of (find t (filter is_not_final rules))) (reverse-append (here ∷ []) others)
        ∙ ap (λ rules. place_of (find t rules)) (filter-append is_not_final (reverse others) (here ∷ []))
        ∙ ap (λ (found : Option OrderedRule). place_of found) (find-append t front one) ∙ place_of_either (find t front) (find t one)
        ∙ ap (λ o. option_or o (place_of (find t one))) (first_other (n + 1) ps)
        ∙ ap (option_or (last_where (λ p. not p.rule.last && m p) (n + 1) ps)) (one_in_front t (not p.rule.last) (m p) here [] None (same n p) refl)

    first_of_group : (n : ℕ) (rules : List PlacedRule)
        → place_of (find t (finals_first (rules_from group n rules))) ≡ option_or (first_where (λ p. p.rule.last && m p) n rules) (last_where m n rules)
    first_of_group n rules =
        let entries = rules_from group n rules in
        let finals = filter is_final entries in
        let others = filter is_not_final (reverse entries) in
        ap (λ (found : Option OrderedRule). place_of found) (find-append t finals others) ∙ place_of_either (find t finals) (find t others)
        ∙ ap (λ one. option_or one (place_of (find t others))) (first_final n rules)
        ∙ ap (option_or (first_where (λ p. p.rule.last && m p) n rules)) (first_other n rules)
        ∙ either_way n rules (first_where (λ p. p.rule.last && m p) n rules) refl

module _ (tables : Tables) (facts : Facts) (ifid : IfId) (dir : Dir) where
  group_first : (n : ℕ) (group : Group) (rules : List PlacedRule) (b : Bool) → applies tables facts ifid dir group ≡ b
      → place_of (find (meets tables facts ifid dir) (finals_first (rules_from group n rules))) ≡ (if b then group_answer tables facts ifid dir n rules else None)
  group_first n group rules true is =
      first_of_group (matches tables facts ifid dir) group (meets tables facts ifid dir) (λ k p. ap (λ b. b && matches tables facts ifid dir p) is) n rules
  group_first n group rules false is =
      first_of_group (λ p. false) group (meets tables facts ifid dir) (λ k p. ap (λ b. b && matches tables facts ifid dir p) is) n rules ∙ none_matches n rules

  first_from : (n : ℕ) (groups : List Group) → verdict tables facts ifid dir n groups ≡ first_match tables facts ifid dir (order_from n groups)
  first_from n [] = refl
  first_from n (group ∷ groups) =
      let rules = finals_first (rules_from group n (rules_of group)) in
      let rest = order_from (n + length (rules_of group)) groups in
      let t = meets tables facts ifid dir in
      let b = applies tables facts ifid dir group in
      ap (option_or (if b then group_answer tables facts ifid dir n (rules_of group) else None)) (first_from (n + length (rules_of group)) groups)
      ∙ ap (λ one. option_or one (place_of (find t rest))) (sym (group_first n group (rules_of group) b refl))
      ∙ sym (place_of_either (find t rules) (find t rest))
      ∙ sym (ap (λ (found : Option OrderedRule). place_of found) (find-append t rules rest))

pub first_match_decides_lem : FirstMatchDecides
first_match_decides_lem tables facts ifid dir groups = first_from tables facts ifid dir 0 groups
