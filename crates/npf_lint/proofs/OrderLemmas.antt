-- What is found of the rules of an order.
use Rattle.std.proofs.Common.{◌≡◌, ◌≢◌, ℕ, zero, suc, ◌+◌, ◌<◌, ◌≤◌, ◌==◌, ◌&&◌, ◌||◌, Bool, true, false, not, List, [], ◌∷◌, ◌++◌, Option, Some, None}
use Rattle.std.proofs.Common.{Result, Ok, Err, IfOk, IfSome, is_some, length, map, set, slice_get, take, refl, sym, subst, ap, ◌∙◌, inl, inr, arith}
use Rattle.std.specs.{List.{list_any, range_with_len}, List.Sorted.{IsStrictlyIncreasing, IsPermutation}}
use Rattle.std.proofs.lemmas.Bool.{and_from, and_parts, cases_Bool, cases_eq, false≢true}
use Rattle.std.proofs.lemmas.List.Elements.{All-push, Contains-append_left, Contains-push}
use Rattle.std.proofs.lemmas.List.{length-map}
use Rattle.std.proofs.lemmas.List.Sorted.{All-permutation, Contains-permutation}
use Rattle.std.proofs.lemmas.Option.{same_Some}
use Rattle.std.proofs.Math.Bool.{and-true}
use Rattle.npf_types.specs.declared.{direction.Dir.Dir, facts.Facts.Facts, interface.IfId.IfId}
use Rattle.npf_model.specs.{Describes.Tables, declared.model.Model.Model}
use Rattle.npf_precedence.specs.declared.entry.RuleEntry.{RuleEntry}
use Rattle.npf_products.specs.declared.{packet.CellPacket.CellPacket, product.Product.Product, tables.TableSpan.TableSpan}
use Rattle.npf_products.specs.End.{own_tables}
use Rattle.npf_reach.specs.{Kinds.{IsPacket, held, held_at}, Packets.{IsOf, has_packet}, declared.packets.Packets.Packets}
use Rattle.npf_search.specs.{Region.decides, declared.decider.Decider.Decider}
use Rattle.npf_steps.specs.declared.steps.Stopped.{Stopped}
use Rattle.npf_judge.specs.Order.{decider_in, entry_place, is_first, meets_entry, passes_here}
use Rattle.npf_judge.specs.Products.{entry_product}
use Rattle.npf_judge.proofs.FirstLemmas.{decides_from, first_found, some_first}
use Rattle.npf_judge.proofs.QuestionLemmas.{all_tables, self_of}
use Rattle.npf_lint.specs.declared.found.RuleFinding.{RuleFinding}
use Rattle.npf_lint.specs.Finding.{IsCoveredBy, IsFindingBy, IsOneRuleOf, IsTakenBy, IsUnanswered, IsUnmatched, effect_at_place}
use Rattle.npf_judge.specs.Place.{HasRulePlaces, IsRulePlace}
use Rattle.npf_lint.specs.Order.{AreOthers, AreRuleProducts, HasFindingOf, IsFindingAt, IsRuleOrder, matches_at, reading_at}

-- ---- all packets
rule_held : (tables : Tables) (facts : Facts) (ifid : IfId) (dir : Dir) (span : TableSpan) → own_tables span tables ≡ tables → (order : List RuleEntry) (at : ℕ) → at < length order
    → held (slice_get (map (entry_product span) order) at) tables facts ifid dir ≡ passes_here (meets_entry tables facts ifid dir) (slice_get order at)
rule_held tables facts ifid dir span own [] at low = absurd (omega arith)
rule_held tables facts ifid dir span own (e ∷ es) zero low = ap (λ all. meets_entry all facts ifid dir e) own
rule_held tables facts ifid dir span own (e ∷ es) (suc at) low = rule_held tables facts ifid dir span own es at (omega arith)

pub is_rule_order : (tables : Tables) (products : List Product) (order : List RuleEntry) (packets : Packets) → AreRuleProducts tables order products
    → IsOf tables products packets
    → ((facts : Facts) (ifid : IfId) (dir : Dir) → IsPacket facts ifid → has_packet packets facts ifid dir ≡ true)
    → IsRuleOrder order packets
is_rule_order tables products order packets made of all =
    let own : own_tables made.span packets.tables.now ≡ packets.tables.now =
    all_tables packets.tables.now made.span made.first (made.count ∙ sym (ap length of.tables_are)) in
    record {
      of = self_of tables products packets of;
      all = all;
      count = ap length (of.products_are ∙ made.are) ∙ length-map order (entry_product made.span);
      held = λ at facts ifid dir low.
          ap (λ (ps : List Product). held (slice_get ps at) packets.tables.now facts ifid dir) (of.products_are ∙ made.are)
          ∙ rule_held packets.tables.now facts ifid dir made.span own order at low;
    }

-- the place 0 of a list of one item, which has this number
single : (h : ℕ → Bool) (decider : Decider) (number : ℕ) → decider.first ≡ number → decider.count ≡ 1 → decider.place ≡ 0 → decides h decider ≡ h number
single h decider number first count place =
    ap (λ n. (n == decider.count || h (decider.first + n)) && not (list_any h (range_with_len decider.first n))) place
    ∙ ap (λ n. (0 == n || h (decider.first + 0)) && true) count
    ∙ ap (λ n. h (n + 0) && true) first
    ∙ and-true (h (number + 0))
    ∙ (let same : number + 0 ≡ number = omega arith in ap h same)

-- the packets that a rule matches
pub matched_are : (order : List RuleEntry) (packets new : Packets) (decider : Decider) (at : ℕ) → IsRuleOrder order packets → at < length order
    → decider.first ≡ at → decider.count ≡ 1 → decider.place ≡ 0
    → ((facts : Facts) (ifid : IfId) (dir : Dir) → IsPacket facts ifid
    → has_packet new facts ifid dir ≡ (has_packet packets facts ifid dir && decides (held_at packets.tables.now packets.products.now facts ifid dir) decider))
    → (facts : Facts) (ifid : IfId) (dir : Dir) → IsPacket facts ifid → has_packet new facts ifid dir ≡ matches_at packets.tables.now order at facts ifid dir
matched_are order packets new decider at is low first count place narrowed facts ifid dir packet =
    narrowed facts ifid dir packet
    ∙ ap (λ b. b && decides (held_at packets.tables.now packets.products.now facts ifid dir) decider) (is.all facts ifid dir packet)
    ∙ single (held_at packets.tables.now packets.products.now facts ifid dir) decider at first count place
    ∙ is.held at facts ifid dir low

-- those of some packets on which a place decides
module _ (order : List RuleEntry) (packets among left : Packets) (decider : Decider) (at : ℕ) (is : IsRuleOrder order packets)
    (of : IsOf packets.tables.now packets.products.now among) (first : decider.first ≡ 0) (count : decider.count ≡ length order) (place : decider.place ≡ at)
    (narrowed : (facts : Facts) (ifid : IfId) (dir : Dir) → IsPacket facts ifid
    → has_packet left facts ifid dir ≡ (has_packet among facts ifid dir && decides (held_at among.tables.now among.products.now facts ifid dir) decider)) where
  pub left_are : (facts : Facts) (ifid : IfId) (dir : Dir) → IsPacket facts ifid
      → has_packet left facts ifid dir ≡ (has_packet among facts ifid dir && is_first (meets_entry packets.tables.now facts ifid dir) order at)
  left_are facts ifid dir packet =
      narrowed facts ifid dir packet
      ∙ ap (λ ts. has_packet among facts ifid dir && decides (held_at ts among.products.now facts ifid dir) decider) of.tables_are
      ∙ ap (λ ps. has_packet among facts ifid dir && decides (held_at packets.tables.now ps facts ifid dir) decider) of.products_are
      ∙ ap (λ b. has_packet among facts ifid dir && b)
      (decides_from (meets_entry packets.tables.now facts ifid dir) 0 (held_at packets.tables.now packets.products.now facts ifid dir) order decider first count
      (λ k low. let same : 0 + k ≡ k = omega arith in ap (held_at packets.tables.now packets.products.now facts ifid dir) same ∙ is.held k facts ifid dir low)
      ∙ ap (is_first (meets_entry packets.tables.now facts ifid dir) order) place)

  pub left_found : (result : Result (Option CellPacket) Stopped) → IfOk result (λ found. IfSome found (λ packet. IsPacket packet.facts packet.ifid))
      → IfOk result (λ found. IfSome found (λ packet. has_packet left packet.facts packet.ifid packet.dir ≡ true))
      → IfOk result (λ found. IfSome found (λ packet. (has_packet among packet.facts packet.ifid packet.dir
      && is_first (meets_entry packets.tables.now packet.facts packet.ifid packet.dir) order at) ≡ true))
  left_found (Ok (Some found)) packet there = sym (left_are found.facts found.ifid found.dir packet) ∙ there
  left_found (Ok None) packet there = there
  left_found (Err stopped) packet there = there

-- ---- one rule
absorbed : (m q : Bool) → (m && (m && q)) ≡ false → (m && q) ≡ false
absorbed true q e = e
absorbed false q e = e

-- the first that passes stands no further back than one that passes
first_before : {X : Type 0} (test : X → Bool) (xs : List X) (at first : ℕ) → at < length xs → passes_here test (slice_get xs at) ≡ true
    → is_first test xs first ≡ true → first ≤ at
first_before test [] at first low passes is = absurd (omega arith)
first_before test (x ∷ xs) at zero low passes is = omega arith
first_before test (x ∷ xs) zero (suc first) low passes is =
    let none = (and_parts (passes_here test (slice_get xs first)) (not (test x || list_any test (take first xs))) is).1 in
    absurd (false≢true (sym (ap (λ b. not (b || list_any test (take first xs))) passes) ∙ none))
first_before test (x ∷ xs) (suc at) (suc first) low passes is =
    let parts = and_parts (passes_here test (slice_get xs first)) (not (test x || list_any test (take first xs))) is in
    let rest : is_first test xs first ≡ true = and_from (passes_here test (slice_get xs first)) (not (list_any test (take first xs))) parts.0
    (unjoined (test x) (list_any test (take first xs)) parts.1) in
    let low : first ≤ at = first_before test xs at first (omega arith) passes rest in
    omega (arith, low)
  where
    unjoined : (a b : Bool) → not (a || b) ≡ true → not b ≡ true
    unjoined true b e = absurd (false≢true e)
    unjoined false b e = e

module _ (model : Model) (tables : Tables) (order : List RuleEntry) (places : HasRulePlaces model order) (at place : ℕ) (here : IsRulePlace order at place) where
  pub first_answered : (facts : Facts) (ifid : IfId) (dir : Dir) → decider_in tables order facts ifid dir ≡ Some place
      → is_first (meets_entry tables facts ifid dir) order at ≡ true
  first_answered facts ifid dir answered =
      let first = some_first (meets_entry tables facts ifid dir) order in
      let decided : IsRulePlace order first.0 place = sym (ap entry_place (first_found (meets_entry tables facts ifid dir) order first.0 first.2)) ∙ answered in
      let same : first.0 ≡ at = places.once first.0 at place decided here in
      subst (λ k. is_first (meets_entry tables facts ifid dir) order k ≡ true) same first.2

  module _ (none : (facts : Facts) (ifid : IfId) (dir : Dir) → IsPacket facts ifid → is_first (meets_entry tables facts ifid dir) order at ≡ false) where
    pub unanswered : IsUnanswered (reading_at tables order at) place
    unanswered facts ifid dir packet answered = false≢true (sym (none facts ifid dir packet) ∙ first_answered facts ifid dir answered)

    module _ (low : at < length order) (others : List ℕ) (are : AreOthers tables order at at others) where
      covered : (facts : Facts) (ifid : IfId) (dir : Dir) → IsPacket facts ifid → matches_at tables order at facts ifid dir ≡ true
          → IsOneRuleOf others (decider_in tables order facts ifid dir)
      covered facts ifid dir packet matches =
          let test = meets_entry tables facts ifid dir in
          let first = some_first test order in
          let upto : first.0 ≤ at = first_before test order at first.0 low matches first.2 in
          elim (cases_eq first.0 at) [
            | inl same ↦ absurd (false≢true (sym (none facts ifid dir packet) ∙ subst (λ k. is_first test order k ≡ true) same first.2))
            | inr other ↦
                subst (IsOneRuleOf others) (sym (ap entry_place (first_found test order first.0 first.2)))
                (are.each first.0 (omega (arith, upto, other)) facts ifid dir packet matches first.2)
          ]

      pub is_covered : IsStrictlyIncreasing others → IsCoveredBy (reading_at tables order at) others
      is_covered ascending = record { each = covered; needed = are.needed; ascending = ascending }

      pub is_unmatched : others ≡ [] → IsUnmatched (reading_at tables order at)
      is_unmatched nothing facts ifid dir packet = elim (cases_Bool (matches_at tables order at facts ifid dir)) [
        | inl matches ↦ absurd (one_of_none (decider_in tables order facts ifid dir) (subst (λ all. IsOneRuleOf all (decider_in tables order facts ifid dir)) nothing
            (covered facts ifid dir packet matches)))
        | inr misses ↦ misses
      ]
        where
          one_of_none : (answer : Option ℕ) → IsOneRuleOf [] answer → ⊥
          one_of_none None is = is
          one_of_none (Some k) is = absurd (omega (arith, is.1))

-- that none is found
pub not_first : (tables : Tables) (order : List RuleEntry) (at : ℕ) (among : Packets)
    → ((facts : Facts) (ifid : IfId) (dir : Dir) → IsPacket facts ifid → has_packet among facts ifid dir ≡ matches_at tables order at facts ifid dir)
    → ((facts : Facts) (ifid : IfId) (dir : Dir) → IsPacket facts ifid → (has_packet among facts ifid dir && is_first (meets_entry tables facts ifid dir) order at) ≡ false)
    → (facts : Facts) (ifid : IfId) (dir : Dir) → IsPacket facts ifid → is_first (meets_entry tables facts ifid dir) order at ≡ false
not_first tables order at among matched none facts ifid dir packet =
    absorbed (matches_at tables order at facts ifid dir) (not (list_any (meets_entry tables facts ifid dir) (take at order)))
    (ap (λ b. b && is_first (meets_entry tables facts ifid dir) order at) (sym (matched facts ifid dir packet)) ∙ none facts ifid dir packet)

-- ---- what was found
pub none_there : {X : Type 0} (found : Option X) → is_some found ≡ false → found ≡ None
none_there None none = refl
none_there (Some x) none = absurd (false≢true (sym none))

pub none_by : {X : Type 0} (found : Option X) → ((x : X) → found ≡ Some x → ⊥) → found ≡ None
none_by None other = refl
none_by (Some x) other = absurd (other x refl)

pub some_there : {X : Type 0} (P : X → Type 0) (found : Option X) (x : X) → found ≡ Some x → IfSome found P → P x
some_there P found x is holds = subst (λ o. IfSome o P) is holds

-- ---- the others
pub one_of_more : (others more : List ℕ) (answer : Option ℕ) → IsOneRuleOf others answer → IsOneRuleOf (others ++ more) answer
one_of_more others more None is = is
one_of_more others more (Some k) is = Contains-append_left others more k is

pub one_of_permuted : (others sorted : List ℕ) (answer : Option ℕ) → IsPermutation others sorted → IsOneRuleOf others answer → IsOneRuleOf sorted answer
one_of_permuted others sorted None moved is = is
one_of_permuted others sorted (Some k) moved is = Contains-permutation others sorted k moved is

pub no_others : (tables : Tables) (order : List RuleEntry) (at : ℕ) → AreOthers tables order at 0 []
no_others tables order at = record { each = λ k low. absurd (omega arith); needed = λ k d low. absurd (omega arith) }

pub others_sorted : (tables : Tables) (order : List RuleEntry) (at before : ℕ) (others sorted : List ℕ) → IsPermutation others sorted
    → AreOthers tables order at before others → AreOthers tables order at before sorted
others_sorted tables order at before others sorted moved are = record {
  each = λ k low facts ifid dir packet matches first.
      one_of_permuted others sorted (entry_place (slice_get order k)) moved (are.each k low facts ifid dir packet matches first);
  needed = All-permutation (IsTakenBy (reading_at tables order at)) others sorted moved are.needed;
}

module _ (tables : Tables) (order : List RuleEntry) (at before : ℕ) (among : Packets) (others : List ℕ)
    (matched : (facts : Facts) (ifid : IfId) (dir : Dir) → IsPacket facts ifid → has_packet among facts ifid dir ≡ matches_at tables order at facts ifid dir)
    (are : AreOthers tables order at before others) where
  -- another one decides on a packet that the rule matches
  pub others_more : (place : ℕ) (packet : CellPacket) → IsRulePlace order before place → IsPacket packet.facts packet.ifid
      → (has_packet among packet.facts packet.ifid packet.dir && is_first (meets_entry tables packet.facts packet.ifid packet.dir) order before) ≡ true
      → AreOthers tables order at (before + 1) (others ++ place ∷ [])
  others_more place packet here possible found =
      let parts = and_parts (has_packet among packet.facts packet.ifid packet.dir) (is_first (meets_entry tables packet.facts packet.ifid packet.dir) order before) found in
      record {
        each = λ k low facts ifid dir is matches first. elim (cases_eq k before) [
          | inl same ↦ subst (λ n. IsOneRuleOf (others ++ place ∷ []) (entry_place (slice_get order n))) (sym same)
              (subst (IsOneRuleOf (others ++ place ∷ [])) (sym here) (Contains-push others place))
          | inr other ↦ one_of_more others (place ∷ []) (entry_place (slice_get order k)) (are.each k (omega (arith, low, other)) facts ifid dir is matches first)
        ];
        needed = All-push (IsTakenBy (reading_at tables order at)) others place are.needed (record {
          facts = packet.facts;
          ifid = packet.ifid;
          dir = packet.dir;
          packet = possible;
          matches = sym (matched packet.facts packet.ifid packet.dir possible) ∙ parts.0;
          answered = ap entry_place (first_found (meets_entry tables packet.facts packet.ifid packet.dir) order before parts.1) ∙ here;
        });
      }

  pub others_found : (place : ℕ) (found : Option CellPacket) → is_some found ≡ true → IsRulePlace order before place
      → IfSome found (λ packet. IsPacket packet.facts packet.ifid)
      → IfSome found (λ packet. (has_packet among packet.facts packet.ifid packet.dir && is_first (meets_entry tables packet.facts packet.ifid packet.dir) order before) ≡ true)
      → AreOthers tables order at (before + 1) (others ++ place ∷ [])
  others_found place (Some packet) some here possible found = others_more place packet here possible found
  others_found place None some here possible found = absurd (false≢true some)

  -- this one decides on none
  pub others_same : ((facts : Facts) (ifid : IfId) (dir : Dir) → IsPacket facts ifid
      → (has_packet among facts ifid dir && is_first (meets_entry tables facts ifid dir) order before) ≡ false)
      → AreOthers tables order at (before + 1) others
  others_same none = record {
    each = λ k low facts ifid dir is matches first. elim (cases_eq k before) [
      | inl same ↦ absurd (false≢true (sym (none facts ifid dir is)
          ∙ and_from (has_packet among facts ifid dir) (is_first (meets_entry tables facts ifid dir) order before) (matched facts ifid dir is ∙ matches)
          (subst (λ n. is_first (meets_entry tables facts ifid dir) order n ≡ true) same first)))
      | inr other ↦ are.each k (omega (arith, low, other)) facts ifid dir is matches first
    ];
    needed = are.needed;
  }

-- ---- all rules
get_set_same : {X : Type 0} (xs : List X) (i : ℕ) (x : X) → i < length xs → slice_get (set xs i x) i ≡ Some x
get_set_same [] i x low = absurd (omega arith)
get_set_same (y ∷ ys) zero x low = refl
get_set_same (y ∷ ys) (suc i) x low = get_set_same ys i x (omega arith)

get_set_other : {X : Type 0} (xs : List X) (i j : ℕ) (x : X) → j ≢ i → slice_get (set xs i x) j ≡ slice_get xs j
get_set_other [] zero j x other = refl
get_set_other [] (suc i) j x other = refl
get_set_other (y ∷ ys) zero zero x other = absurd (other refl)
get_set_other (y ∷ ys) zero (suc j) x other = refl
get_set_other (y ∷ ys) (suc i) zero x other = refl
get_set_other (y ∷ ys) (suc i) (suc j) x other = get_set_other ys i j x (λ same. other (ap suc same))

module _ (model : Model) (tables : Tables) (order : List RuleEntry) (places : HasRulePlaces model order) (at place : ℕ) (here : IsRulePlace order at place)
    (findings : List RuleFinding) (low : place < length findings) (finding : RuleFinding) (found : IsFindingAt model tables order at finding) where
  pub findings_more : ((k : ℕ) → k < at → HasFindingOf model tables order findings k) → (k : ℕ) → k < at + 1 → HasFindingOf model tables order (set findings place finding) k
  findings_more before k within own is = elim (cases_eq k at) [
    | inl same ↦
        let own_here : IsRulePlace order at own = subst (λ n. IsRulePlace order n own) same is in
        let equal : place ≡ own = same_Some place own (sym here ∙ own_here) in
        subst (λ n. IfSome (slice_get (set findings place finding) own) (IsFindingBy (reading_at tables order n) (effect_at_place model) own)) (sym same)
        (subst (λ o. IfSome o (IsFindingBy (reading_at tables order at) (effect_at_place model) own))
        (sym (ap (slice_get (set findings place finding)) (sym equal) ∙ get_set_same findings place finding low)) (found own own_here))
    | inr other ↦
        subst (λ o. IfSome o (IsFindingBy (reading_at tables order k) (effect_at_place model) own))
        (sym (get_set_other findings place own finding (λ equal. other (places.once k at own is (subst (IsRulePlace order at) (sym equal) here)))))
        (before k (omega (arith, within, other)) own is)
  ]
