-- What is found in the order of precedence is found by the configuration's meaning.
use Rattle.std.proofs.Common.{◌≡◌, ℕ, zero, suc, ◌+◌, ◌<◌, ◌≤◌, ◌==◌, ◌&&◌, ◌||◌, Bool, true, false, not, cond, List, [], ◌∷◌, Option, Some, None, IfSome}
use Rattle.std.proofs.Common.{length, map, get_or, slice_get, take, drop, find, refl, sym, subst, ap, ◌∙◌, inl, inr, arith}
use Rattle.std.specs.List.{filter, list_any}
use Rattle.std.specs.Option.{option_map, option_to_list}
use Rattle.std.proofs.lemmas.Bool.{and_from, and_parts, and_right, cases_Bool, cases_eq, cases_lt, eq-eqb, eqb-true, false≢true, ne_eqb, not-true, or_parts}
use Rattle.std.proofs.lemmas.List.{length-map}
use Rattle.std.proofs.lemmas.List.Folds.{list_any_at, list_any_none}
use Rattle.std.proofs.lemmas.Option.{none-some, same_Some, get_or_from_slice_get, slice_get-get_or, slice_get-map, slice_get_past, slice_get_within}
use Rattle.npf_types.specs.declared.{direction.Dir.Dir, facts.Facts.Facts, interface.IfId.IfId}
use Rattle.npf_model.specs.declared.{group.Group.Group, model.Model.Model}
use Rattle.npf_model.specs.{Describes.Tables, Verdict.{PlacedRule, all_rules, rule_at}}
use Rattle.npf_products.specs.declared.packet.CellPacket.{CellPacket}
use Rattle.npf_treatment.specs.declared.rule.RuleEffect.{RuleEffect}
use Rattle.npf_precedence.specs.declared.entry.RuleEntry.{RuleEntry}
use Rattle.npf_precedence.specs.{Entry.ordered_rule, Precedence.{OrderedRule, in_order}, PrecedenceLaw.{EachRuleOnce, FirstMatchDecides, first_match, meets}}
use Rattle.npf_judge.specs.Order.{decider_in, entry_place, is_first, meets_entry, passes_here}
use Rattle.npf_judge.proofs.AnswerLemmas.{count_same, matches_first, verdict_first}
use Rattle.npf_judge.proofs.PlaceLemmas.{has_places, place_of, place_there, there_is}
use Rattle.npf_lint.specs.declared.found.RuleFinding.{RuleFinding}
use Rattle.npf_lint.specs.declared.found.RuleFinding.TheVariants.{Reached, Redundant, Impossible, Covered}
use Rattle.npf_lint.specs.Finding.{AreFindings, IsAmong, HasForAnswer, IsFinding, IsFindingBy, IsLeftTo, IsOneRuleOf, IsTakenBy, IsUnanswered, RuleReading, effect_at_place, reading_of}
use Rattle.npf_judge.specs.Place.{HasRulePlaces, IsRulePlace}
use Rattle.npf_lint.specs.Order.{HasFindingOf, rules_behind, matches_at, reading_at}
use Rattle.npf_lint.proofs.OrderLemmas.{first_answered}

-- ---- what a filter keeps
module _ {X : Type 0} (test : X → Bool) where
  -- what stands behind the first that passes, where that one isn't kept and all behind it are
  all_kept : (xs : List X) → ((k : ℕ) (d : X) → k < length xs → test (get_or xs k d) ≡ true) → filter test xs ≡ xs
  all_kept [] each = refl
  all_kept (x ∷ xs) each =
      ap (λ b. cond b (x ∷ filter test xs) (filter test xs)) (each 0 x (omega arith)) ∙ ap (λ rest. x ∷ rest) (all_kept xs (λ k d low. each (suc k) d (omega arith)))

skipped : {X : Type 0} (test : X → Bool) (x : X) (rest : List X) → test x ≡ false → (kept : Bool) → find test (cond kept (x ∷ rest) rest) ≡ find test rest
skipped test x rest misses true = ap (λ b. cond b (Some x) (find test rest)) misses
skipped test x rest misses false = refl

find_behind : {X : Type 0} (test keep : X → Bool) (xs : List X) (at : ℕ) → at < length xs → list_any test (take at xs) ≡ false
    → ((d : X) → keep (get_or xs at d) ≡ false) → ((k : ℕ) (d : X) → at < k → k < length xs → keep (get_or xs k d) ≡ true)
    → find test (filter keep xs) ≡ find test (drop (at + 1) xs)
find_behind test keep [] at low none out kept = absurd (omega arith)
find_behind test keep (x ∷ xs) zero low none out kept =
    let one : suc zero ≡ zero + 1 = omega arith in
    ap (λ b. find test (cond b (x ∷ filter keep xs) (filter keep xs))) (out x)
    ∙ ap (find test) (all_kept keep xs (λ k d inside. kept (suc k) d (omega arith) (omega arith)))
    ∙ ap (λ n. find test (drop n (x ∷ xs))) one
find_behind test keep (x ∷ xs) (suc at) low none out kept =
    let next : suc (at + 1) ≡ suc at + 1 = omega arith in
    let parts = or_parts (test x) (list_any test (take at xs)) none in
    skipped test x (filter keep xs) parts.0 (keep x)
    ∙ find_behind test keep xs at (omega arith) parts.1 out (λ k d further inside. kept (suc k) d (omega arith) (omega arith))
    ∙ ap (λ n. find test (drop n (x ∷ xs))) next

filter_step : (keep : OrderedRule → Bool) (x : RuleEntry) (xs : List RuleEntry) (b : Bool)
    → filter keep (map ordered_rule xs) ≡ map ordered_rule (filter (λ entry. keep (ordered_rule entry)) xs)
    → cond b (ordered_rule x ∷ filter keep (map ordered_rule xs)) (filter keep (map ordered_rule xs))
    ≡ map ordered_rule (cond b (x ∷ filter (λ entry. keep (ordered_rule entry)) xs) (filter (λ entry. keep (ordered_rule entry)) xs))
filter_step keep x xs true rest = ap (λ all. ordered_rule x ∷ all) rest
filter_step keep x xs false rest = rest

filter_ordered : (keep : OrderedRule → Bool) (xs : List RuleEntry) → filter keep (map ordered_rule xs) ≡ map ordered_rule (filter (λ entry. keep (ordered_rule entry)) xs)
filter_ordered keep [] = refl
filter_ordered keep (x ∷ xs) = filter_step keep x xs (keep (ordered_rule x)) (filter_ordered keep xs)

-- ---- what stands at a place
passes_get : {X : Type 0} (test : X → Bool) (xs : List X) (i : ℕ) (d : X) (b : Bool) → i < length xs → passes_here test (slice_get xs i) ≡ b → test (get_or xs i d) ≡ b
passes_get test [] i d b low e = absurd (omega arith)
passes_get test (x ∷ xs) zero d b low e = e
passes_get test (x ∷ xs) (suc i) d b low e = passes_get test xs i d b (omega arith) e

any_map : {X Y : Type 0} (f : X → Y) (test : Y → Bool) (xs : List X) → list_any test (map f xs) ≡ list_any (λ x. test (f x)) xs
any_map f test [] = refl
any_map f test (x ∷ xs) = ap (λ b. test (f x) || b) (any_map f test xs)

module _ (model : Model) (order : List RuleEntry) (laid : map ordered_rule order ≡ in_order model.groups) (law : EachRuleOnce) where
  abbrev groups : List Group
  groups = model.groups

  -- ---- what the rule matches
  module _ (tables : Tables) (facts : Facts) (ifid : IfId) (dir : Dir) (at place : ℕ) (here : IsRulePlace order at place) where
    abbrev at_place : RuleEntry → Bool
    at_place entry = entry.place == place && meets_entry tables facts ifid dir entry

    matches_there : matches_at tables order at facts ifid dir ≡ true → list_any at_place order ≡ true
    matches_there matches =
        let there = place_there order at place here in
        let entry = (there_is order at there.0).0 in
        list_any_at at_place order at entry there.0
        (and_from ((get_or order at entry).place == place) (meets_entry tables facts ifid dir (get_or order at entry))
        (eq-eqb (get_or order at entry).place place (there.1 entry)) (passes_get (meets_entry tables facts ifid dir) order at entry true there.0 matches))

    misses_there : matches_at tables order at facts ifid dir ≡ false → list_any at_place order ≡ false
    misses_there misses = list_any_none at_place order (λ k d low. elim (cases_eq (get_or order k d).place place) [
      | inl same ↦
          let is : IsRulePlace order k place = ap entry_place (slice_get-get_or order k d low) ∙ ap Some same in
          let equal : k ≡ at = (has_places model order laid law).once k at place is here in
          and_right ((get_or order k d).place == place) (meets_entry tables facts ifid dir (get_or order k d))
          (passes_get (meets_entry tables facts ifid dir) order k d false low (ap (λ n. matches_at tables order n facts ifid dir) equal ∙ misses))
      | inr other ↦ ap (λ b. b && meets_entry tables facts ifid dir (get_or order k d)) (ne_eqb (get_or order k d).place place other)
    ])

    any_there : list_any at_place order ≡ matches_at tables order at facts ifid dir
    any_there = elim (cases_Bool (matches_at tables order at facts ifid dir)) [
      | inl matches ↦ matches_there matches ∙ sym matches
      | inr misses ↦ misses_there misses ∙ sym misses
    ]

    pub matched_there : list_any (λ (ordered : OrderedRule). ordered.place == place && meets tables facts ifid dir ordered) (in_order groups)
        ≡ matches_at tables order at facts ifid dir
    matched_there =
        sym (ap (list_any (λ (ordered : OrderedRule). ordered.place == place && meets tables facts ifid dir ordered)) laid)
        ∙ any_map ordered_rule (λ (ordered : OrderedRule). ordered.place == place && meets tables facts ifid dir ordered) order
        ∙ any_there

    -- without the rule there, what stands behind it decides on a packet on which it decides
    pub without_there : is_first (meets_entry tables facts ifid dir) order at ≡ true
        → first_match tables facts ifid dir (filter (λ (ordered : OrderedRule). not (ordered.place == place)) (in_order groups))
        ≡ decider_in tables (rules_behind order at) facts ifid dir
    without_there first =
        let there = place_there order at place here in
        let test = meets_entry tables facts ifid dir in
        let keep : RuleEntry → Bool = λ entry. not (entry.place == place) in
        let none = not-true (list_any test (take at order)) (and_parts (passes_here test (slice_get order at)) (not (list_any test (take at order))) first).1 in
        sym (ap (λ all. first_match tables facts ifid dir (filter (λ (ordered : OrderedRule). not (ordered.place == place)) all)) laid)
        ∙ ap (first_match tables facts ifid dir) (filter_ordered (λ (ordered : OrderedRule). not (ordered.place == place)) order)
        ∙ matches_first tables facts ifid dir (filter keep order)
        ∙ ap entry_place (find_behind test keep order at there.0 none
        (λ d. ap not (eq-eqb (get_or order at d).place place (there.1 d)))
        (λ k d further inside. ap not (ne_eqb (get_or order k d).place place (λ same.
        let is : IsRulePlace order k place = ap entry_place (slice_get-get_or order k d inside) ∙ ap Some same in
        let equal = (has_places model order laid law).once k at place is here in
        absurd (omega (arith, further, equal))))))

-- ---- one finding by two readings that agree
module _ (one other : RuleReading) (effect : Option ℕ → RuleEffect) (place : ℕ)
    (same : (facts : Facts) (ifid : IfId) (dir : Dir) → other.matched facts ifid dir ≡ one.matched facts ifid dir)
    (alike : (facts : Facts) (ifid : IfId) (dir : Dir) → other.answer facts ifid dir ≡ one.answer facts ifid dir)
    (left : (facts : Facts) (ifid : IfId) (dir : Dir) → one.answer facts ifid dir ≡ Some place → other.without facts ifid dir ≡ one.without facts ifid dir) where
  taken_same : (rule : ℕ) → IsTakenBy one rule → IsTakenBy other rule
  taken_same rule taken = record {
    facts = taken.facts;
    ifid = taken.ifid;
    dir = taken.dir;
    packet = taken.packet;
    matches = same taken.facts taken.ifid taken.dir ∙ taken.matches;
    answered = alike taken.facts taken.ifid taken.dir ∙ taken.answered;
  }

  unanswered_same : IsUnanswered one place → IsUnanswered other place
  unanswered_same is = λ facts ifid dir packet answered. is facts ifid dir packet (sym (alike facts ifid dir) ∙ answered)

  answered_same : (packet : CellPacket) → HasForAnswer one place packet → HasForAnswer other place packet
  answered_same packet is = record { possible = is.possible; answered = alike packet.facts packet.ifid packet.dir ∙ is.answered }

  answered_back : (packet : CellPacket) → HasForAnswer other place packet → HasForAnswer one place packet
  answered_back packet is = record { possible = is.possible; answered = sym (alike packet.facts packet.ifid packet.dir) ∙ is.answered }

  without_same : (packet : CellPacket) → HasForAnswer one place packet
      → other.without packet.facts packet.ifid packet.dir ≡ one.without packet.facts packet.ifid packet.dir
  without_same packet is = left packet.facts packet.ifid packet.dir is.answered

  left_same : (rule : Option ℕ) → IsLeftTo one place rule → IsLeftTo other place rule
  left_same rule is = record { packet = is.packet; has = answered_same is.packet is.has; left = without_same is.packet is.has ∙ is.left }

  finding_same : (finding : RuleFinding) → IsFindingBy one effect place finding → IsFindingBy other effect place finding
  finding_same (Reached packet) is = record {
    has = answered_same packet is.has;
    otherwise = λ treated. is.otherwise (ap effect (sym (without_same packet is.has)) ∙ treated);
  }
  finding_same (Redundant replacement) is = record {
    has = answered_same replacement.packet is.has;
    alike = λ packet has. let back = answered_back packet has in ap effect (without_same packet back) ∙ is.alike packet back;
    each = λ packet has.
        let back = answered_back packet has in
        subst (IsAmong replacement.others.items replacement.none) (sym (without_same packet back)) (is.each packet back);
    needed = λ k d low. left_same (Some (get_or replacement.others.items k d)) (is.needed k d low);
    none_needed = λ none. left_same None (is.none_needed none);
    ascending = is.ascending;
  }
  finding_same Impossible is = (unanswered_same is.0, λ facts ifid dir packet. same facts ifid dir ∙ is.1 facts ifid dir packet)
  finding_same (Covered others) is = (
    unanswered_same is.0,
    record {
      each = λ facts ifid dir packet matches.
          subst (IsOneRuleOf others.items) (sym (alike facts ifid dir)) (is.1.each facts ifid dir packet (sym (same facts ifid dir) ∙ matches));
      needed = λ k d low. taken_same (get_or others.items k d) (is.1.needed k d low);
      ascending = is.1.ascending;
    },
  )

  some_same : (o : Option RuleFinding) → IfSome o (IsFindingBy one effect place) → IfSome o (IsFindingBy other effect place)
  some_same None is = is
  some_same (Some finding) is = finding_same finding is

-- ---- all findings
module _ (model : Model) (tables : Tables) (order : List RuleEntry) (findings : List RuleFinding) (laid : map ordered_rule order ≡ in_order model.groups)
    (first : FirstMatchDecides) (once : EachRuleOnce) (count : length findings ≡ length order)
    (each : (at : ℕ) → at < length order → HasFindingOf model tables order findings at) where
  finding_of : (place : ℕ) → IfSome (slice_get findings place) (IsFinding (record { model = model; tables = tables }) place)
  finding_of place = elim (cases_lt place (length order)) [
    | inl low ↦
        let there = place_of model order laid once place low in
        let inside = (place_there order there.0 place there.1).0 in
        some_same (reading_at tables order there.0) (reading_of (record { model = model; tables = tables }) place) (effect_at_place model) place
        (λ facts ifid dir. matched_there model order laid once tables facts ifid dir there.0 place there.1)
        (λ facts ifid dir. verdict_first tables facts ifid dir model.groups order laid first)
        (λ facts ifid dir answered. without_there model order laid once tables facts ifid dir there.0 place there.1
        (first_answered model tables order (has_places model order laid once) there.0 place there.1 facts ifid dir answered))
        (slice_get findings place) (each there.0 inside place there.1)
    | inr past ↦ subst (λ o. IfSome o (IsFinding (record { model = model; tables = tables }) place)) (sym (slice_get_past findings place (omega (arith, past, count)))) tt
  ]

  pub are_findings : AreFindings (record { model = model; tables = tables }) findings
  are_findings = record { count = count ∙ count_same model.groups order laid; each = finding_of }
