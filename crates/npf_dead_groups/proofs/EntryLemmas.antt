-- Groups, the rules in front of them, and their own entries.
use Rattle.std.proofs.Common.{◌≡◌, ℕ, zero, suc, ◌+◌, ◌-◌, ◌<◌, ◌≤◌, ◌&&◌, ◌||◌, Bool, true, false, cond, List, [], ◌∷◌, ◌++◌, Option, Some, None, is_some}
use Rattle.std.proofs.Common.{find, length, map, get_or, slice_get, take, drop, refl, sym, ap, ◌∙◌, append_assoc, arith}
use Rattle.std.specs.List.{list_any}
use Rattle.std.specs.Option.{option_map}
use Rattle.std.proofs.lemmas.List.{length-append, length-map, map-append, take-append-drop, take-append-le, take-map, take_more, Concat.flat_map-cons}
use Rattle.std.proofs.lemmas.Option.{slice_get-map}
use Rattle.std.proofs.Math.Bool.{and-true}
use Rattle.std.proofs.Math.Seq.{take-append_seam}
use Rattle.npf_types.specs.declared.{direction.Dir.Dir, facts.Facts.Facts, interface.IfId.IfId}
use Rattle.npf_model.specs.{declared.group.Group.Group, Describes.Tables, Verdict.{all_rules, applies, rules_of, verdict}}
use Rattle.npf_precedence.specs.declared.entry.RuleEntry.{RuleEntry}
use Rattle.npf_precedence.specs.{Entry.ordered_rule, Precedence.{OrderedRule, finals_first, in_order, order_from, rules_from}, PrecedenceLaw.meets}
use Rattle.npf_precedence.proofs.OrderLemmas.{length-finals_first, length-rules_from, order_from-push}
use Rattle.npf_precedence.proofs.VerdictLemmas.{first_match_decides_lem}
use Rattle.npf_judge.specs.Order.{meets_entry, passes_here}
use Rattle.npf_lint.specs.Order.{matches_at}
use Rattle.npf_dead_groups.specs.Comes.{applies_at, is_answered_before, some_applies}
use Rattle.npf_dead_groups.specs.Entries.{AreGroupedEntries, group_entry}

-- ---- the rules of the groups in front
order_from-append : (n : ℕ) (front behind : List Group) → order_from n (front ++ behind) ≡ order_from n front ++ order_from (n + length (all_rules front)) behind
order_from-append n [] behind = ap (λ k. order_from k behind) (let e : n ≡ n + 0 = omega arith in e)
order_from-append n (g ∷ gs) behind =
    let rules = finals_first (rules_from g n (rules_of g)) in
    let all = ap length (flat_map-cons rules_of g gs) ∙ length-append (rules_of g) (all_rules gs) in
    let next : n + length (rules_of g) + length (all_rules gs) ≡ n + length (all_rules (g ∷ gs)) = omega (arith, all) in
    ap (λ rest. rules ++ rest) (order_from-append (n + length (rules_of g)) gs behind ∙ ap (λ k. order_from (n + length (rules_of g)) gs ++ order_from k behind) next)
    ∙ sym (append_assoc rules (order_from (n + length (rules_of g)) gs) (order_from (n + length (all_rules (g ∷ gs))) behind))

module _ (groups : List Group) (place : ℕ) where
  parted : in_order groups ≡ in_order (take place groups) ++ order_from (0 + length (all_rules (take place groups))) (drop place groups)
  parted = ap in_order (sym (take-append-drop place groups)) ∙ order_from-append 0 (take place groups) (drop place groups)

  in_front : take (length (in_order (take place groups))) (in_order groups) ≡ in_order (take place groups)
  in_front =
      ap (take (length (in_order (take place groups)))) parted
      ∙ take-append_seam (in_order (take place groups)) (order_from (0 + length (all_rules (take place groups))) (drop place groups))

  pub front_below : length (in_order (take place groups)) ≤ length (in_order groups)
  front_below =
      let whole = ap length parted ∙ length-append (in_order (take place groups)) (order_from (0 + length (all_rules (take place groups))) (drop place groups)) in
      omega (arith, whole)

  -- one more group
  pub front_more : (group : Group) (rules : List RuleEntry) → place < length groups → group ≡ get_or groups place group
      → map ordered_rule rules ≡ rules_from group 0 (rules_of group)
      → length (in_order (take (place + 1) groups)) ≡ length (in_order (take place groups)) + length rules
  front_more group rules low at laid =
      let n = 0 + length (all_rules (take place groups)) in
      ap (λ gs. length (in_order gs)) (take_more groups place group low)
      ∙ ap (λ g. length (in_order (take place groups ++ g ∷ []))) (sym at)
      ∙ ap length (order_from-push 0 (take place groups) group)
      ∙ length-append (in_order (take place groups)) (finals_first (rules_from group n (rules_of group)))
      ∙ ap (λ k. length (in_order (take place groups)) + k)
      (length-finals_first (rules_from group n (rules_of group)) ∙ length-rules_from group n (rules_of group) ∙ sym (length-rules_from group 0 (rules_of group))
      ∙ sym (ap length laid) ∙ length-map rules ordered_rule)

-- ---- whether one of them answers
some_here : {X : Type 0} (b : Bool) (x : X) (rest : Option X) (any : Bool) → is_some rest ≡ any → is_some (cond b (Some x) rest) ≡ (b || any)
some_here true x rest any same = refl
some_here false x rest any same = same

some_found : {X : Type 0} (test : X → Bool) (xs : List X) → is_some (find test xs) ≡ list_any test xs
some_found test [] = refl
some_found test (x ∷ xs) = some_here (test x) x (find test xs) (list_any test xs) (some_found test xs)

some_placed : (o : Option OrderedRule) → is_some (option_map (λ (ordered : OrderedRule). ordered.place) o) ≡ is_some o
some_placed None = refl
some_placed (Some ordered) = refl

module _ (tables : Tables) (facts : Facts) (ifid : IfId) (dir : Dir) where
  any_ordered : (entries : List RuleEntry) → list_any (meets_entry tables facts ifid dir) entries ≡ list_any (meets tables facts ifid dir) (map ordered_rule entries)
  any_ordered [] = refl
  any_ordered (e ∷ es) = ap (λ b. meets_entry tables facts ifid dir e || b) (any_ordered es)

  answered : (groups : List Group) → is_some (verdict tables facts ifid dir 0 groups) ≡ list_any (meets tables facts ifid dir) (in_order groups)
  answered groups =
      ap (λ (o : Option ℕ). is_some o) (first_match_decides_lem tables facts ifid dir groups)
      ∙ some_placed (find (meets tables facts ifid dir) (in_order groups))
      ∙ some_found (meets tables facts ifid dir) (in_order groups)

-- ---- entries
get_behind : {X : Type 0} (xs ys : List X) (i : ℕ) → slice_get (xs ++ ys) (length xs + i) ≡ slice_get ys i
get_behind [] ys i = let same : 0 + i ≡ i = omega arith in ap (slice_get ys) same
get_behind (x ∷ xs) ys i =
    let next : suc (length xs) + i ≡ suc (length xs + i) = omega arith in
    ap (slice_get (x ∷ (xs ++ ys))) next ∙ get_behind xs ys i

group_there : (groups : List Group) (place : ℕ) → place < length groups → (group : Group) × (slice_get groups place ≡ Some group)
group_there [] place low = absurd (omega arith)
group_there (g ∷ gs) zero low = (g, refl)
group_there (g ∷ gs) (suc place) low = group_there gs place (omega arith)

module _ (groups : List Group) (entries : List RuleEntry) (are : AreGroupedEntries groups entries) (place : ℕ) where
  pub entries_count : length entries ≡ length (in_order groups) + length groups
  entries_count =
      ap length are.are
      ∙ length-append are.order (map (group_entry are.every) groups)
      ∙ ap (λ n. n + length (map (group_entry are.every) groups)) (sym (length-map are.order ordered_rule) ∙ ap length are.laid)
      ∙ ap (λ n. length (in_order groups) + n) (length-map groups (group_entry are.every))

  front_taken : map ordered_rule (take (length (in_order (take place groups))) entries) ≡ in_order (take place groups)
  front_taken =
      let front = length (in_order (take place groups)) in
      let behind = map ordered_rule (map (group_entry are.every) groups) in
      sym (take-map ordered_rule front entries)
      ∙ ap (take front) (ap (map ordered_rule) are.are ∙ map-append ordered_rule are.order (map (group_entry are.every) groups) ∙ ap (λ rules. rules ++ behind) are.laid)
      ∙ take-append-le front (in_order groups) behind (front_below groups place)
      ∙ in_front groups place

  module _ (tables : Tables) (facts : Facts) (ifid : IfId) (dir : Dir) where
    -- a rule in front of the group's matches the packet
    pub front_any : list_any (meets_entry tables facts ifid dir) (take (length (in_order (take place groups))) entries) ≡ is_answered_before tables groups place facts ifid dir
    front_any =
        any_ordered tables facts ifid dir (take (length (in_order (take place groups))) entries)
        ∙ ap (list_any (meets tables facts ifid dir)) front_taken
        ∙ sym (answered tables facts ifid dir (take place groups))

    entry_applies : (group : Group) → meets_entry tables facts ifid dir (group_entry are.every group) ≡ applies tables facts ifid dir group
    entry_applies group =
        ap (λ b. applies tables facts ifid dir group && b) (are.all tables facts ifid dir) ∙ and-true (applies tables facts ifid dir group)

    -- the group's own entry matches what the group applies to
    pub own_applies : (at : ℕ) → at ≡ length entries - length groups + place → place < length groups
        → matches_at tables entries at facts ifid dir ≡ applies_at tables groups place facts ifid dir
    own_applies at here low =
        let group = group_there groups place low in
        let same : at ≡ length are.order + place =
        omega (arith, here, entries_count, length-map are.order ordered_rule, ap length are.laid) in
        let entry : slice_get entries at ≡ Some (group_entry are.every group.0) =
        ap (slice_get entries) same ∙ ap (λ all. slice_get all (length are.order + place)) are.are ∙ get_behind are.order (map (group_entry are.every) groups) place
        ∙ slice_get-map (group_entry are.every) groups place ∙ ap (option_map (group_entry are.every)) group.1 in
        ap (passes_here (meets_entry tables facts ifid dir)) entry ∙ entry_applies group.0
        ∙ sym (ap (λ o. some_applies tables facts ifid dir o) group.1)
