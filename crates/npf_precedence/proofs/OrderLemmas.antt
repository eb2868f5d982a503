-- The order of precedence as it is laid out, from the front to the end.
use Rattle.std.proofs.Common.{◌≡◌, ℕ, suc, ◌+◌, Bool, List, [], ◌∷◌, ◌++◌, length, reverse, refl, sym, ap, ◌∙◌, append_assoc, arith}
use Rattle.std.{specs.List.{filter}, proofs.lemmas.List.{append-nil, length-append, reverse-append, Concat.flat_map-cons, Elements.filter-append, Filters.length-filter_both}}
use Rattle.npf_model.specs.{declared.group.Group.Group, Verdict.{PlacedRule, all_rules, rules_of}}
use Rattle.npf_precedence.specs.Precedence.{OrderedRule, finals_first, is_final, is_not_final, order_from, rules_from}

module _ (group : Group) where
  pub rules_from-append : (n : ℕ) (front behind : List PlacedRule)
      → rules_from group n (front ++ behind) ≡ rules_from group n front ++ rules_from group (n + length front) behind
  rules_from-append n [] behind = ap (λ k. rules_from group k behind) (let e : n ≡ n + 0 = omega arith in e)
  rules_from-append n (p ∷ ps) behind =
      let here : OrderedRule = record { place = n; group_dir = group.dir; group_on = group.on; placed = p } in
      let next : n + 1 + length ps ≡ n + suc (length ps) = omega arith in
      ap (λ rest. here ∷ rest) (rules_from-append (n + 1) ps behind ∙ ap (λ k. rules_from group (n + 1) ps ++ rules_from group k behind) next)

  pub length-rules_from : (n : ℕ) (rules : List PlacedRule) → length (rules_from group n rules) ≡ length rules
  length-rules_from n [] = refl
  length-rules_from n (p ∷ ps) = ap (λ k. suc k) (length-rules_from (n + 1) ps)

length-filter_reverse : {X : Type 0} (p : X → Bool) (xs : List X) → length (filter p (reverse xs)) ≡ length (filter p xs)
length-filter_reverse p [] = refl
length-filter_reverse p (x ∷ xs) =
    let turned = reverse-append (x ∷ []) xs in
    let parts = filter-append p (reverse xs) (x ∷ []) in
    let whole = filter-append p (x ∷ []) xs in
    ap (λ ys. length (filter p ys)) turned ∙ ap length parts ∙ length-append (filter p (reverse xs)) (filter p (x ∷ []))
    ∙ (let rest = length-filter_reverse p xs in let sum = length-append (filter p (x ∷ [])) (filter p xs) in let same = ap length whole in omega arith)

pub length-finals_first : (rules : List OrderedRule) → length (finals_first rules) ≡ length rules
length-finals_first rules =
    length-append (filter is_final rules) (filter is_not_final (reverse rules)) ∙ ap (λ k. length (filter is_final rules) + k) (length-filter_reverse is_not_final rules)
    ∙ length-filter_both is_final is_not_final (λ rule. refl) rules

pub length-order_from : (n : ℕ) (groups : List Group) → length (order_from n groups) ≡ length (all_rules groups)
length-order_from n [] = refl
length-order_from n (g ∷ gs) =
    let rules = rules_from g n (rules_of g) in
    let front = length-finals_first rules ∙ length-rules_from g n (rules_of g) in
    let behind = length-order_from (n + length (rules_of g)) gs in
    let all = ap length (flat_map-cons rules_of g gs) ∙ length-append (rules_of g) (all_rules gs) in
    length-append (finals_first rules) (order_from (n + length (rules_of g)) gs) ∙ (omega arith)

-- one more group behind those that are laid out
pub order_from-push : (n : ℕ) (groups : List Group) (group : Group)
    → order_from n (groups ++ group ∷ []) ≡ order_from n groups ++ finals_first (rules_from group (n + length (all_rules groups)) (rules_of group))
order_from-push n [] group =
    append-nil (finals_first (rules_from group n (rules_of group)))
    ∙ ap (λ k. finals_first (rules_from group k (rules_of group))) (let e : n ≡ n + 0 = omega arith in e)
order_from-push n (g ∷ gs) group =
    let rules = finals_first (rules_from g n (rules_of g)) in
    let behind : ℕ → List OrderedRule = λ k. finals_first (rules_from group k (rules_of group)) in
    let all = ap length (flat_map-cons rules_of g gs) ∙ length-append (rules_of g) (all_rules gs) in
    let next : n + length (rules_of g) + length (all_rules gs) ≡ n + length (all_rules (g ∷ gs)) = omega arith in
    ap (λ rest. rules ++ rest) (order_from-push (n + length (rules_of g)) gs group ∙ ap (λ k. order_from (n + length (rules_of g)) gs ++ behind k) next)
    ∙ sym (append_assoc rules (order_from (n + length (rules_of g)) gs) (behind (n + length (all_rules (g ∷ gs)))))
