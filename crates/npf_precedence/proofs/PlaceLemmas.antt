-- Each rule is in the order of precedence once, at its place.
use Rattle.std.proofs.Common.{◌≡◌, ◌<◌, ◌≤◌, ℕ, suc, zero, ◌+◌, ◌-◌, ◌==◌, Bool, true, false, not, cond, List, [], ◌∷◌, ◌++◌, Option, Some, None, length, map, reverse, slice_get}
use Rattle.std.proofs.Common.{refl, sym, ap, ◌∙◌, ⊎_elim, arith}
use Rattle.std.{specs.{List.filter, Option.{option_map, option_to_list}}, proofs.lemmas.Bool.{cases_lt, Decides.nat_tests}}
use Rattle.std.proofs.lemmas.List.{append-nil, map-append, reverse-append, Concat.flat_map-cons, Elements.filter-append}
use Rattle.std.proofs.lemmas.Option.{slice_get_past}
use Rattle.npf_model.specs.{declared.group.Group.Group, Verdict.{PlacedRule, all_rules, rules_of}}
use Rattle.npf_precedence.specs.{Precedence.{OrderedRule, finals_first, is_final, is_not_final, order_from, rules_from}, PrecedenceLaw.EachRuleOnce}

-- what one filter leaves of what another leaves, in either order
kept_by_both : {X : Type 0} (p f : X → Bool) (x : X) (xs : List X) (a b : Bool) → p x ≡ a → f x ≡ b → filter p (filter f xs) ≡ filter f (filter p xs)
    → filter p (cond b (x ∷ filter f xs) (filter f xs)) ≡ filter f (cond a (x ∷ filter p xs) (filter p xs))
kept_by_both p f x xs true true e h same = rw (e, h) (ap (λ ys. x ∷ ys) same)
kept_by_both p f x xs true false e h same = rw h same
kept_by_both p f x xs false true e h same = rw e same
kept_by_both p f x xs false false e h same = same

filters_meet : {X : Type 0} (p f : X → Bool) (xs : List X) → filter p (filter f xs) ≡ filter f (filter p xs)
filters_meet p f [] = refl
filters_meet p f (x ∷ xs) = kept_by_both p f x xs (p x) (f x) refl refl (filters_meet p f xs)

kept_last : {X : Type 0} (b : Bool) (x : X) (xs : List X) → reverse xs ++ cond b (x ∷ []) [] ≡ reverse (cond b (x ∷ xs) xs)
kept_last true x xs = sym (reverse-append (x ∷ []) xs)
kept_last false x xs = append-nil (reverse xs)

filter_of_turned : {X : Type 0} (p : X → Bool) (xs : List X) → filter p (reverse xs) ≡ reverse (filter p xs)
filter_of_turned p [] = refl
filter_of_turned p (x ∷ xs) =
    ap (filter p) (reverse-append (x ∷ []) xs) ∙ filter-append p (reverse xs) (x ∷ []) ∙ ap (λ ys. ys ++ filter p (x ∷ [])) (filter_of_turned p xs)
    ∙ kept_last (p x) x (filter p xs)

one_kept : (final : Bool) (rule : OrderedRule) → cond final (rule ∷ []) [] ++ cond (not final) (rule ∷ []) [] ≡ rule ∷ []
one_kept true rule = refl
one_kept false rule = refl

divided : (found : Option OrderedRule) → filter is_final (option_to_list found) ++ filter is_not_final (reverse (option_to_list found)) ≡ option_to_list found
divided None = refl
divided (Some rule) = one_kept (is_final rule) rule

-- a rule that is there once is there once with the finals first
stays_once : (test : OrderedRule → Bool) (rules : List OrderedRule) (found : Option OrderedRule) → filter test rules ≡ option_to_list found
    → filter test (finals_first rules) ≡ option_to_list found
stays_once test rules found e =
    filter-append test (filter is_final rules) (filter is_not_final (reverse rules))
    ∙ ap (λ front. front ++ filter test (filter is_not_final (reverse rules))) (filters_meet test is_final rules ∙ ap (filter is_final) e)
    ∙ ap (λ behind. filter is_final (option_to_list found) ++ behind)
    (filters_meet test is_not_final (reverse rules) ∙ ap (filter is_not_final) (filter_of_turned test rules ∙ ap reverse e))
    ∙ divided found

get_front : {X : Type 0} (xs ys : List X) (m : ℕ) → m < length xs → slice_get (xs ++ ys) m ≡ slice_get xs m
get_front [] ys m within = absurd (omega arith)
get_front (x ∷ xs) ys zero within = refl
get_front (x ∷ xs) ys (suc m) within = get_front xs ys m (omega arith)

get_behind : {X : Type 0} (i m : ℕ) (xs ys : List X) → i ≡ length xs + m → slice_get (xs ++ ys) i ≡ slice_get ys m
get_behind i m [] ys e = ap (slice_get ys) (let same : i ≡ m = omega arith in same)
get_behind zero m (x ∷ xs) ys e = absurd (omega arith)
get_behind (suc i) m (x ∷ xs) ys e = get_behind i m xs ys (omega arith)

other_place : (k n : ℕ) → n < k → (k == n) ≡ false
other_place k n below = grind (arith, nat_tests)

module _ (group : Group) where
  abbrev entry : ℕ → PlacedRule → OrderedRule
  entry n placed = record { place = n; group_dir = group.dir; group_on = group.on; placed = placed }

  none_below : (n k : ℕ) (rules : List PlacedRule) → n < k → filter (λ ordered. ordered.place == n) (rules_from group k rules) ≡ []
  none_below n k [] below = refl
  none_below n k (p ∷ ps) below = rw (other_place k n below) (none_below n (k + 1) ps (omega arith))

  one_there : (n k m : ℕ) (rules : List PlacedRule) → n ≡ k + m
      → filter (λ ordered. ordered.place == n) (rules_from group k rules) ≡ option_to_list (option_map (entry n) (slice_get rules m))
  one_there n k m [] e = refl
  one_there n k zero (p ∷ ps) e =
      let here : (k == n) ≡ true = grind (arith, nat_tests) in
      let same : k ≡ n = omega arith in
      rw here (ap (λ rest. entry k p ∷ rest) (none_below n (k + 1) ps (omega arith)) ∙ ap (λ (j : ℕ). entry j p ∷ []) same)
  one_there n k (suc m) (p ∷ ps) e =
      let other : (k == n) ≡ false = grind (arith, nat_tests) in
      rw other (one_there n (k + 1) m ps (omega arith))

  placed_back : (n : ℕ) (found : Option PlacedRule) → map (λ (ordered : OrderedRule). ordered.placed) (option_to_list (option_map (entry n) found)) ≡ option_to_list found
  placed_back n None = refl
  placed_back n (Some placed) = refl

group_below : (n k : ℕ) (group : Group) → n < k → filter (λ ordered. ordered.place == n) (finals_first (rules_from group k (rules_of group))) ≡ []
group_below n k group below = stays_once (λ ordered. ordered.place == n) (rules_from group k (rules_of group)) None (none_below group n k (rules_of group) below)

order_below : (n k : ℕ) (groups : List Group) → n < k → filter (λ ordered. ordered.place == n) (order_from k groups) ≡ []
order_below n k [] below = refl
order_below n k (g ∷ gs) below =
    let behind = order_from (k + length (rules_of g)) gs in
    filter-append (λ ordered. ordered.place == n) (finals_first (rules_from g k (rules_of g))) behind
    ∙ ap (λ front. front ++ filter (λ ordered. ordered.place == n) behind) (group_below n k g below)
    ∙ order_below n (k + length (rules_of g)) gs (omega arith)

order_has : (n k m : ℕ) (groups : List Group) → n ≡ k + m
    → map (λ ordered. ordered.placed) (filter (λ ordered. ordered.place == n) (order_from k groups)) ≡ option_to_list (slice_get (all_rules groups) m)
order_has n k m [] e = refl
order_has n k m (g ∷ gs) e =
    let ps = rules_of g in
    let test : OrderedRule → Bool = λ ordered. ordered.place == n in
    let back : List OrderedRule → List PlacedRule = map (λ ordered. ordered.placed) in
    let front = finals_first (rules_from g k ps) in
    let behind = order_from (k + length ps) gs in
    let parts = ap back (filter-append test front behind) ∙ map-append (λ ordered. ordered.placed) (filter test front) (filter test behind)
    ∙ ap (λ one. back one ++ back (filter test behind)) (stays_once test (rules_from g k ps) (option_map (entry g n) (slice_get ps m)) (one_there g n k m ps e))
    ∙ ap (λ one. one ++ back (filter test behind)) (placed_back g n (slice_get ps m)) in
    let whole = ap (λ rules. slice_get rules m) (flat_map-cons rules_of g gs) in
    let inside : m < length ps → back (filter test (order_from k (g ∷ gs))) ≡ option_to_list (slice_get (all_rules (g ∷ gs)) m) = λ within.
    parts ∙ ap (λ two. option_to_list (slice_get ps m) ++ back two) (order_below n (k + length ps) gs (omega arith)) ∙ append-nil (option_to_list (slice_get ps m))
    ∙ ap option_to_list (sym (whole ∙ get_front ps (all_rules gs) m within)) in
    let beyond : length ps ≤ m → back (filter test (order_from k (g ∷ gs))) ≡ option_to_list (slice_get (all_rules (g ∷ gs)) m) = λ past.
    parts ∙ ap (λ found. option_to_list found ++ back (filter test behind)) (slice_get_past ps m past)
    ∙ order_has n (k + length ps) (m - length ps) gs (omega arith)
    ∙ ap option_to_list (sym (whole ∙ get_behind m (m - length ps) ps (all_rules gs) (omega arith))) in
    ⊎_elim inside beyond (cases_lt m (length ps))

pub each_rule_once_lem : EachRuleOnce
each_rule_once_lem groups place = order_has place 0 place groups (let e : place ≡ 0 + place = omega arith in e)
