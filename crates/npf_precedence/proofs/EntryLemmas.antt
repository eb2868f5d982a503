-- Entries of rules, as they are laid out one behind the other.
use Rattle.std.proofs.Common.{◌≡◌, ◌<◌, ◌≤◌, ℕ, ◌+◌, Bool, true, false, cond, List, [], ◌∷◌, ◌++◌}
use Rattle.std.proofs.Common.{get_or, length, map, reverse, take, take_all, flat_map, refl, sym, ap, ◌∙◌, arith}
use Rattle.std.{specs.List.filter, proofs.lemmas.{Grind.flat_map-append, List.{append-nil, append_assoc, length-append, length-map, map-append, reverse-append, take_more}}}
use Rattle.npf_model.specs.{declared.group.{Group.Group, Item.Item}, Verdict.{PlacedRule, all_rules, rules_at, rules_of}}
use Rattle.npf_precedence.specs.declared.entry.RuleEntry.{RuleEntry}
use Rattle.npf_precedence.specs.{Entry.{entry_is_final, entry_is_not_final, ordered_rule}, Precedence.{OrderedRule, finals_first, is_final, is_not_final, order_from, rules_from}}
use Rattle.npf_precedence.proofs.OrderLemmas.{length-order_from, length-rules_from, order_from-push, rules_from-append}

kept_in_front : {X Y : Type 0} (f : X → Y) (kept : Bool) (x : X) (xs : List X) (ys : List Y) → map f xs ≡ ys → map f (cond kept (x ∷ xs) xs) ≡ cond kept (f x ∷ ys) ys
kept_in_front f true x xs ys same = ap (λ rest. f x ∷ rest) same
kept_in_front f false x xs ys same = same

map-filter : {X Y : Type 0} (f : X → Y) (test : Y → Bool) (xs : List X) → map f (filter (λ x. test (f x)) xs) ≡ filter test (map f xs)
map-filter f test [] = refl
map-filter f test (x ∷ xs) = kept_in_front f (test (f x)) x (filter (λ x. test (f x)) xs) (filter test (map f xs)) (map-filter f test xs)

ordered-reverse : (entries : List RuleEntry) → map ordered_rule (reverse entries) ≡ reverse (map ordered_rule entries)
ordered-reverse [] = refl
ordered-reverse (e ∷ es) =
    ap (map ordered_rule) (reverse-append (e ∷ []) es) ∙ map-append ordered_rule (reverse es) (e ∷ [])
    ∙ ap (λ rules. rules ++ ordered_rule e ∷ []) (ordered-reverse es) ∙ sym (reverse-append (ordered_rule e ∷ []) (map ordered_rule es))

ordered_finals_first : (entries : List RuleEntry)
    → map ordered_rule (filter entry_is_final entries) ++ map ordered_rule (filter entry_is_not_final (reverse entries)) ≡ finals_first (map ordered_rule entries)
ordered_finals_first entries =
    ap (λ front. front ++ map ordered_rule (filter entry_is_not_final (reverse entries))) (map-filter ordered_rule is_final entries)
    ∙ ap (λ behind. filter is_final (map ordered_rule entries) ++ behind)
    (map-filter ordered_rule is_not_final (reverse entries) ∙ ap (filter is_not_final) (ordered-reverse entries))

-- one more group
pub lays_group : (groups : List Group) (i : ℕ) (group : Group) (before middle after rules : List RuleEntry)
    → i < length groups → group ≡ get_or groups i group
    → map ordered_rule before ≡ order_from 0 (take i groups)
    → map ordered_rule rules ≡ rules_from group (length before) (rules_of group)
    → middle ≡ before ++ filter entry_is_final rules
    → after ≡ middle ++ filter entry_is_not_final (reverse rules)
    → map ordered_rule after ≡ order_from 0 (take (i + 1) groups)
lays_group groups i group before middle after rules within at laid of_group front behind =
    let finals = filter entry_is_final rules in
    let others = filter entry_is_not_final (reverse rules) in
    let front_groups = take i groups in
    let count : length before ≡ 0 + length (all_rules front_groups) =
    (let one = length-map before ordered_rule in let two = ap length laid in let three = length-order_from 0 front_groups in omega arith) in
    ap (map ordered_rule) (behind ∙ ap (λ m. m ++ others) front)
    ∙ map-append ordered_rule (before ++ finals) others ∙ ap (λ m. m ++ map ordered_rule others) (map-append ordered_rule before finals)
    ∙ append_assoc (map ordered_rule before) (map ordered_rule finals) (map ordered_rule others)
    ∙ ap (λ m. m ++ (map ordered_rule finals ++ map ordered_rule others)) laid
    ∙ ap (λ m. order_from 0 front_groups ++ m) (ordered_finals_first rules ∙ ap finals_first (of_group ∙ ap (λ k. rules_from group k (rules_of group)) count))
    ∙ sym (order_from-push 0 front_groups group)
    ∙ ap (λ g. order_from 0 (front_groups ++ g ∷ [])) at
    ∙ sym (ap (order_from 0) (take_more groups i group within))

-- one more item of a group
pub lays_item : (group : Group) (first : ℕ) (items : List Item) (i : ℕ) (item : Item) (before after : List RuleEntry)
    → i < length items → item ≡ get_or items i item
    → map ordered_rule before ≡ rules_from group first (flat_map rules_at (take i items))
    → map ordered_rule after ≡ map ordered_rule before ++ rules_from group (first + length before) (rules_at item)
    → map ordered_rule after ≡ rules_from group first (flat_map rules_at (take (i + 1) items))
lays_item group first items i item before after within at laid adds =
    let front = flat_map rules_at (take i items) in
    let count : first + length before ≡ first + length front =
    (let one = length-map before ordered_rule in let two = ap length laid in let three = length-rules_from group first front in omega arith) in
    adds ∙ ap (λ m. m ++ rules_from group (first + length before) (rules_at item)) laid
    ∙ ap (λ k. rules_from group first front ++ rules_from group k (rules_at item)) count
    ∙ sym (rules_from-append group first front (rules_at item))
    ∙ ap (λ rules. rules_from group first (front ++ rules)) (sym (append-nil (rules_at item)))
    ∙ ap (λ one. rules_from group first (front ++ flat_map rules_at (one ∷ []))) at
    ∙ sym (ap (rules_from group first) (ap (flat_map rules_at) (take_more items i item within) ∙ flat_map-append rules_at (take i items) (get_or items i item ∷ [])))

-- one more rule of a ruleset
pub lays_entry : {X : Type 0} (f : X → PlacedRule) (group : Group) (first : ℕ) (rules : List X) (i : ℕ) (rule : X) (start before after : List RuleEntry) (place : ℕ)
    → i < length rules → rule ≡ get_or rules i rule
    → map ordered_rule before ≡ map ordered_rule start ++ rules_from group (first + length start) (map f (take i rules))
    → place ≡ first + length before
    → map ordered_rule after ≡ map ordered_rule before ++ record { place = place; group_dir = group.dir; group_on = group.on; placed = f rule } ∷ []
    → map ordered_rule after ≡ map ordered_rule start ++ rules_from group (first + length start) (map f (take (i + 1) rules))
lays_entry f group first rules i rule start before after place within at laid there adds =
    let from = first + length start in
    let front = map f (take i rules) in
    let one : ℕ → List OrderedRule = λ k. record { place = k; group_dir = group.dir; group_on = group.on; placed = f rule } ∷ [] in
    let count : place ≡ from + length front =
    (let a = length-map before ordered_rule in let b = ap length laid in let c = length-append (map ordered_rule start) (rules_from group from front) in
    let d = length-rules_from group from front in let e = length-map start ordered_rule in omega arith) in
    adds ∙ ap (λ m. m ++ one place) laid
    ∙ append_assoc (map ordered_rule start) (rules_from group from front) (one place)
    ∙ ap (λ k. map ordered_rule start ++ (rules_from group from front ++ one k)) count
    ∙ ap (λ m. map ordered_rule start ++ m)
    (sym (rules_from-append group from front (f rule ∷ [])) ∙ ap (rules_from group from) (sym (map-append f (take i rules) (rule ∷ [])))
    ∙ ap (λ r. rules_from group from (map f (take i rules ++ r ∷ []))) at ∙ sym (ap (λ xs. rules_from group from (map f xs)) (take_more rules i rule within)))

-- all rules of a ruleset
pub lays_all : {X : Type 0} (f : X → PlacedRule) (group : Group) (from : ℕ) (rules : List X) (i : ℕ) (before after : List OrderedRule)
    → length rules ≤ i → after ≡ before ++ rules_from group from (map f (take i rules)) → after ≡ before ++ rules_from group from (map f rules)
lays_all f group from rules i before after past laid = laid ∙ ap (λ xs. before ++ rules_from group from (map f xs)) (take_all i rules past)
