-- The packets on which a place of the order decides, and what was found for rules so far.
use Rattle.std.proofs.Common.{◌≡◌, ◌≢◌, ℕ, zero, suc, ◌+◌, ◌<◌, ◌≤◌, ◌==◌, ◌&&◌, ◌||◌, Bool, true, false, not, List, [], ◌∷◌, Option, Some, None, Result, Ok, Err, IfOk}
use Rattle.std.proofs.Common.{IfSome, replicate, length, map, take, drop, get_or, set, slice_get, find, refl, sym, subst, ap, ◌∙◌, inl, inr, get_or-set_other}
use Rattle.std.proofs.Common.{get_or-set_same, arith}
use Rattle.std.specs.{Borrow.Bor, List.{list_any, range_with_len}}
use Rattle.std.proofs.lemmas.Bool.{and_parts, cases_eq, false≢true}
use Rattle.std.proofs.lemmas.List.{length-map, length-set, take_all}
use Rattle.std.proofs.Math.Bool.{and-true}
use Rattle.std.proofs.lemmas.Option.{none-some, same_Some, slice_get_past}
use Rattle.npf_types.specs.declared.{direction.Dir.Dir, facts.Facts.Facts, interface.IfId.IfId}
use Rattle.npf_model.specs.declared.rule.Rule.{Rule}
use Rattle.npf_model.specs.Describes.{Tables, describes}
use Rattle.npf_precedence.specs.declared.entry.RuleEntry.{RuleEntry}
use Rattle.npf_products.specs.declared.{packet.CellPacket.CellPacket, product.Product.Product, tables.TableSpan.TableSpan}
use Rattle.npf_products.specs.{End.own_tables, Product.product_holds}
use Rattle.npf_reach.specs.declared.packets.Packets.{Packets}
use Rattle.npf_reach.specs.Kinds.{IsPacket, held, held_at}
use Rattle.npf_reach.specs.Packets.{IsOf, has_packet}
use Rattle.npf_steps.specs.declared.steps.Stopped.{Stopped}
use Rattle.npf_search.specs.declared.decider.Decider.{Decider}
use Rattle.npf_search.specs.Region.{decides}
use Rattle.npf_judge.specs.declared.deciders.Deciders.{Deciders}
use Rattle.npf_judge.specs.Deciders.{IsClassPacket}
use Rattle.npf_judge.specs.Order.{AreSound, AreWhole, HasWitness, IsDecidedIn, IsNoneFound, IsOrderAnswer, IsQuestion, decider_in, meets_entry, is_first, passes_here, entry_place, put_found}
use Rattle.npf_judge.specs.Products.{class_product, entry_product}
use Rattle.npf_judge.proofs.FirstLemmas.{decides_from, first_found, some_first}

-- ---- products
pub all_tables : (tables : Tables) (span : TableSpan) → span.first ≡ 0 → span.count ≡ length tables → own_tables span tables ≡ tables
all_tables tables span first count =
    ap (λ n. take span.count (drop n tables)) first ∙ take_all span.count tables (omega (arith, count))

module _ (tables : Tables) (facts : Facts) (ifid : IfId) (dir : Dir) (span : TableSpan) (own : own_tables span tables ≡ tables) where
  rule_held : (order : List RuleEntry) (at : ℕ) → at < length order
      → held (slice_get (map (entry_product span) order) at) tables facts ifid dir ≡ passes_here (meets_entry tables facts ifid dir) (slice_get order at)
  rule_held [] at low = absurd (omega arith)
  rule_held (e ∷ es) zero low = ap (λ all. meets_entry all facts ifid dir e) own
  rule_held (e ∷ es) (suc at) low = rule_held es at (omega arith)

  -- behind the class's product the numbers of the rules begin at 1
  pub held_rule : (first : Product) (order : List RuleEntry) (products : List Product) (at : ℕ) → products ≡ first ∷ map (entry_product span) order → at < length order
      → held_at tables products facts ifid dir (1 + at) ≡ passes_here (meets_entry tables facts ifid dir) (slice_get order at)
  held_rule first order products at is low =
      let next : 1 + at ≡ suc at = omega arith in
      ap (λ (all : List Product). held (slice_get all (1 + at)) tables facts ifid dir) is
      ∙ ap (λ n. held (slice_get (first ∷ map (entry_product span) order) n) tables facts ifid dir) next
      ∙ rule_held order at low

  pub held_class : (class : Bor Rule) (order : List RuleEntry) (products : List Product)
      → products ≡ class_product span class ∷ map (entry_product span) order
      → held_at tables products facts ifid dir 0 ≡ describes class.now tables facts ifid dir
  held_class class order products is =
      ap (λ (all : List Product). held (slice_get all 0) tables facts ifid dir) is ∙ ap (λ all. describes class.now all facts ifid dir) own

pub self_of : (tables : Tables) (products : List Product) (packets : Packets) → IsOf tables products packets → IsOf packets.tables.now packets.products.now packets
self_of tables products packets is =
    subst (λ all. IsOf all packets.products.now packets) (sym is.tables_are) (subst (λ all. IsOf tables all packets) (sym is.products_are) is)

-- the place 0 of a list of one item, which has the number 0
single : (h : ℕ → Bool) (decider : Decider) → decider.first ≡ 0 → decider.count ≡ 1 → decider.place ≡ 0 → decides h decider ≡ h 0
single h decider first count place =
    ap (λ n. (n == decider.count || h (decider.first + n)) && not (list_any h (range_with_len decider.first n))) place
    ∙ ap (λ n. (0 == n || h (decider.first + 0)) && true) count
    ∙ ap (λ n. h (n + 0) && true) first
    ∙ and-true (h 0)

-- ---- the packets of a class
pub is_question : (tables : Tables) (products : List Product) (span : TableSpan) (class : Bor Rule) (order : List RuleEntry) (all packets : Packets) (decider : Decider)
    → span.first ≡ 0 → span.count ≡ length tables → decider.first ≡ 0 → decider.count ≡ 1 → decider.place ≡ 0
    → products ≡ class_product span class ∷ map (entry_product span) order
    → IsOf tables products all → IsOf all.tables.now all.products.now packets
    → ((facts : Facts) (ifid : IfId) (dir : Dir) → IsPacket facts ifid → has_packet all facts ifid dir ≡ true)
    → ((facts : Facts) (ifid : IfId) (dir : Dir) → IsPacket facts ifid
    → has_packet packets facts ifid dir ≡ (has_packet all facts ifid dir && decides (held_at all.tables.now all.products.now facts ifid dir) decider))
    → IsQuestion class.now order packets
is_question tables products span class order all packets decider first count dfirst dcount dplace are of_all of whole narrowed =
    let tables_are : packets.tables.now ≡ tables = of.tables_are ∙ of_all.tables_are in
    let products_are : packets.products.now ≡ products = of.products_are ∙ of_all.products_are in
    let own : own_tables span packets.tables.now ≡ packets.tables.now =
    all_tables packets.tables.now span first (count ∙ sym (ap length tables_are)) in
    record {
      of = self_of all.tables.now all.products.now packets of;
      of_class = λ facts ifid dir packet.
          narrowed facts ifid dir packet
          ∙ ap (λ b. b && decides (held_at all.tables.now all.products.now facts ifid dir) decider) (whole facts ifid dir packet)
          ∙ ap (λ ts. decides (held_at ts all.products.now facts ifid dir) decider) (sym of.tables_are)
          ∙ ap (λ ps. decides (held_at packets.tables.now ps facts ifid dir) decider) (sym of.products_are)
          ∙ single (held_at packets.tables.now packets.products.now facts ifid dir) decider dfirst dcount dplace
          ∙ held_class packets.tables.now facts ifid dir span own class order packets.products.now (products_are ∙ are);
      count = (let counted = ap length (products_are ∙ are) in let rules = length-map order (entry_product span) in omega arith);
      held = λ at facts ifid dir low.
          held_rule packets.tables.now facts ifid dir span own (class_product span class) order packets.products.now at (products_are ∙ are) low;
    }

-- ---- a place of the order
module _ (class : Rule) (order : List RuleEntry) (packets : Packets) (is : IsQuestion class order packets) (decider : Decider)
    (one : decider.first ≡ 1) (count : decider.count ≡ length order) (facts : Facts) (ifid : IfId) (dir : Dir) (packet : IsPacket facts ifid) (new : Bool)
    (narrowed : new ≡ (has_packet packets facts ifid dir && decides (held_at packets.tables.now packets.products.now facts ifid dir) decider)) where
  is_narrowed : new ≡ (describes class packets.tables.now facts ifid dir && is_first (meets_entry packets.tables.now facts ifid dir) order decider.place)
  is_narrowed =
      narrowed
      ∙ ap (λ b. b && decides (held_at packets.tables.now packets.products.now facts ifid dir) decider) (is.of_class facts ifid dir packet)
      ∙ ap (λ b. describes class packets.tables.now facts ifid dir && b)
      (decides_from (meets_entry packets.tables.now facts ifid dir) 1 (held_at packets.tables.now packets.products.now facts ifid dir) order decider one count
      (λ k low. is.held k facts ifid dir low))

  -- a packet of the class that isn't left
  pub not_first : new ≡ false → describes class packets.tables.now facts ifid dir ≡ true → is_first (meets_entry packets.tables.now facts ifid dir) order decider.place ≡ false
  not_first none described =
      sym (ap (λ b. b && is_first (meets_entry packets.tables.now facts ifid dir) order decider.place) described) ∙ sym is_narrowed ∙ none

  -- one that is left
  pub described_left : new ≡ true → describes class packets.tables.now facts ifid dir ≡ true
  described_left left =
      (and_parts (describes class packets.tables.now facts ifid dir) (is_first (meets_entry packets.tables.now facts ifid dir) order decider.place) (sym is_narrowed ∙ left)).0

  pub decided_left : new ≡ true → decider_in packets.tables.now order facts ifid dir ≡ entry_place (slice_get order decider.place)
  decided_left left =
      ap entry_place (first_found (meets_entry packets.tables.now facts ifid dir) order decider.place
      (and_parts (describes class packets.tables.now facts ifid dir) (is_first (meets_entry packets.tables.now facts ifid dir) order decider.place) (sym is_narrowed ∙ left)).1)

-- what is found among those that are left
module _ (class : Rule) (order : List RuleEntry) (packets left : Packets) (is : IsQuestion class order packets) (decider : Decider)
    (one : decider.first ≡ 1) (count : decider.count ≡ length order) (at : ℕ) (place : decider.place ≡ at)
    (narrowed : (facts : Facts) (ifid : IfId) (dir : Dir) → IsPacket facts ifid
    → has_packet left facts ifid dir ≡ (has_packet packets facts ifid dir && decides (held_at packets.tables.now packets.products.now facts ifid dir) decider)) where
  pub none_left : ((facts : Facts) (ifid : IfId) (dir : Dir) → IsPacket facts ifid → has_packet left facts ifid dir ≡ false)
      → (facts : Facts) (ifid : IfId) (dir : Dir) → IsClassPacket packets.tables.now class facts ifid dir
      → is_first (meets_entry packets.tables.now facts ifid dir) order at ≡ false
  none_left none facts ifid dir of_class =
      ap (is_first (meets_entry packets.tables.now facts ifid dir) order) (sym place)
      ∙ not_first class order packets is decider one count facts ifid dir of_class.packet (has_packet left facts ifid dir) (narrowed facts ifid dir of_class.packet)
      (none facts ifid dir of_class.packet) of_class.described

  pub left_found : (result : Result (Option CellPacket) Stopped) → IfOk result (λ found. IfSome found (λ packet. IsPacket packet.facts packet.ifid))
      → IfOk result (λ found. IfSome found (λ packet. has_packet left packet.facts packet.ifid packet.dir ≡ true))
      → IfOk result (λ found. IfSome found (IsDecidedIn packets.tables.now class order (entry_place (slice_get order at))))
  left_found (Ok (Some found)) packet there =
      let same = narrowed found.facts found.ifid found.dir packet in
      let has = has_packet left found.facts found.ifid found.dir in
      record {
        of_class = record {
          packet = packet;
          described = described_left class order packets is decider one count found.facts found.ifid found.dir packet has same there;
        };
        decided =
            decided_left class order packets is decider one count found.facts found.ifid found.dir packet has same there
            ∙ ap (λ n. entry_place (slice_get order n)) place;
      }
  left_found (Ok None) packet there = there
  left_found (Err stopped) packet there = there

-- ---- what was found so far
module _ (tables : Tables) (class : Rule) (order : List RuleEntry) where
  -- of each packet of the class on which an entry before this one decides, one of its decider's was found
  abbrev pub AreWholeBefore : ℕ → List (Option CellPacket) → Type 0
  AreWholeBefore at rules = (k : ℕ) → k < at → (facts : Facts) (ifid : IfId) (dir : Dir) → IsClassPacket tables class facts ifid dir
      → is_first (meets_entry tables facts ifid dir) order k ≡ true → HasWitness rules (entry_place (slice_get order k))

  pub whole_at_end : (rules : List (Option CellPacket)) (at : ℕ) → length order ≤ at → AreWholeBefore at rules → AreWhole tables class order rules
  whole_at_end rules at past whole facts ifid dir of_class =
      let first = some_first (meets_entry tables facts ifid dir) order in
      let decided : entry_place (slice_get order first.0) ≡ decider_in tables order facts ifid dir =
      ap entry_place (sym (first_found (meets_entry tables facts ifid dir) order first.0 first.2)) in
      elim (cases_eq first.0 (length order)) [
        | inl last ↦ subst (HasWitness rules) (sym (ap entry_place (slice_get_past order first.0 (omega (arith, last)))) ∙ decided) tt
        | inr other ↦ subst (HasWitness rules) decided (whole first.0 (omega (arith, other, first.1)) facts ifid dir of_class first.2)
      ]

  still_found : (rules : List (Option CellPacket)) (place : ℕ) (packet : CellPacket) (rule : Option ℕ) → place < length rules → HasWitness rules rule
      → HasWitness (set rules place (Some packet)) rule
  still_found rules place packet None low found = tt
  still_found rules place packet (Some k) low found = elim (cases_eq k place) [
    | inl here ↦ (packet, ap (λ n. get_or (set rules place (Some packet)) n None) here ∙ get_or-set_same rules place (Some packet) None low)
    | inr other ↦ (found.0, get_or-set_other rules place k (Some packet) None other ∙ found.1)
  ]

  module _ (rules : List (Option CellPacket)) (at : ℕ) (entry : RuleEntry) (there : slice_get order at ≡ Some entry) (low : entry.place < length rules) where
    pub sound_more : (packet : CellPacket) → AreSound tables class order rules → IsDecidedIn tables class order (entry_place (slice_get order at)) packet
        → AreSound tables class order (set rules entry.place (Some packet))
    sound_more packet sound decided place found is = elim (cases_eq place entry.place) [
      | inl here ↦
          let same : packet ≡ found = same_Some packet found (sym (ap (λ n. get_or (set rules entry.place (Some packet)) n None) here
          ∙ get_or-set_same rules entry.place (Some packet) None low) ∙ is) in
          subst (IsDecidedIn tables class order (Some place)) same
          (subst (λ rule. IsDecidedIn tables class order rule packet) (ap entry_place there ∙ ap Some (sym here)) decided)
      | inr other ↦ sound place found (sym (get_or-set_other rules entry.place place (Some packet) None other) ∙ is)
    ]

    pub whole_more : (packet : CellPacket) → AreWholeBefore at rules → AreWholeBefore (at + 1) (set rules entry.place (Some packet))
    whole_more packet whole k below facts ifid dir of_class first = elim (cases_eq k at) [
      | inl here ↦
          subst (HasWitness (set rules entry.place (Some packet))) (sym (ap (λ n. entry_place (slice_get order n)) here ∙ ap entry_place there))
          (packet, get_or-set_same rules entry.place (Some packet) None low)
      | inr other ↦ still_found rules entry.place packet (entry_place (slice_get order k)) low (whole k (omega (arith, below, other)) facts ifid dir of_class first)
    ]

  pub whole_none : (rules : List (Option CellPacket)) (at : ℕ) → AreWholeBefore at rules
      → ((facts : Facts) (ifid : IfId) (dir : Dir) → IsClassPacket tables class facts ifid dir → is_first (meets_entry tables facts ifid dir) order at ≡ false)
      → AreWholeBefore (at + 1) rules
  whole_none rules at whole none k below facts ifid dir of_class first = elim (cases_eq k at) [
    | inl here ↦ absurd (false≢true (sym (none facts ifid dir of_class) ∙ ap (is_first (meets_entry tables facts ifid dir) order) (sym here) ∙ first))
    | inr other ↦ whole k (omega (arith, below, other)) facts ifid dir of_class first
  ]

  -- what one more place came to is noted
  module _ (rules : List (Option CellPacket)) (at : ℕ) (entry : RuleEntry) (there : slice_get order at ≡ Some entry) (low : entry.place < length rules) where
    pub sound_put : (found : Option CellPacket) → IfSome found (IsDecidedIn tables class order (entry_place (slice_get order at)))
        → AreSound tables class order rules → AreSound tables class order (put_found rules entry.place found)
    sound_put None decided sound = sound
    sound_put (Some packet) decided sound = sound_more rules at entry there low packet sound decided

    pub whole_put : (found : Option CellPacket)
        → (found ≡ None → (facts : Facts) (ifid : IfId) (dir : Dir) → IsClassPacket tables class facts ifid dir
        → is_first (meets_entry tables facts ifid dir) order at ≡ false)
        → AreWholeBefore at rules → AreWholeBefore (at + 1) (put_found rules entry.place found)
    whole_put None none whole = whole_none rules at whole (none refl)
    whole_put (Some packet) none whole = whole_more rules at entry there low packet whole

  pub length_put : (rules : List (Option CellPacket)) (place : ℕ) (found : Option CellPacket) → length (put_found rules place found) ≡ length rules
  length_put rules place None = refl
  length_put rules place (Some packet) = length-set rules place (Some packet)

  -- where no packet is left at the end, some rule decides on each
  pub none_undecided : ((facts : Facts) (ifid : IfId) (dir : Dir) → IsClassPacket tables class facts ifid dir
      → is_first (meets_entry tables facts ifid dir) order (length order) ≡ false)
      → (facts : Facts) (ifid : IfId) (dir : Dir) → IsClassPacket tables class facts ifid dir → decider_in tables order facts ifid dir ≡ None → ⊥
  none_undecided none facts ifid dir of_class undecided =
      let first = some_first (meets_entry tables facts ifid dir) order in
      let decided : entry_place (slice_get order first.0) ≡ None =
      ap entry_place (sym (first_found (meets_entry tables facts ifid dir) order first.0 first.2)) ∙ undecided in
      elim (cases_eq first.0 (length order)) [
        | inl last ↦ false≢true (sym (none facts ifid dir of_class) ∙ ap (is_first (meets_entry tables facts ifid dir) order) (sym last) ∙ first.2)
        | inr other ↦ placed (slice_get order first.0) (some_within order first.0 (omega (arith, other, first.1))) decided
      ]
    where
      some_within : (xs : List RuleEntry) (k : ℕ) → k < length xs → slice_get xs k ≡ None → ⊥
      some_within [] k low e = absurd (omega arith)
      some_within (x ∷ xs) zero low e = none-some x (sym e)
      some_within (x ∷ xs) (suc k) low e = some_within xs k (omega arith) e

      placed : (found : Option RuleEntry) → (found ≡ None → ⊥) → entry_place found ≡ None → ⊥
      placed None some e = some refl
      placed (Some entry) some e = none-some entry.place (sym e)

-- ---- before anything was found
nothing_there : (n place : ℕ) (packet : CellPacket) → get_or (replicate n None) place None ≡ Some packet → ⊥
nothing_there zero place packet is = none-some packet is
nothing_there (suc n) zero packet is = none-some packet is
nothing_there (suc n) (suc place) packet is = nothing_there n place packet is

pub nothing_sound : (tables : Tables) (class : Rule) (order : List RuleEntry) (rules : List (Option CellPacket)) (n : ℕ) → rules ≡ replicate n None → AreSound tables class order rules
nothing_sound tables class order rules n are place packet is =
    absurd (nothing_there n place packet (sym (ap (λ (all : List (Option CellPacket)). get_or all place None) are) ∙ is))

-- ---- the answer
module _ (class : Rule) (order : List RuleEntry) (packets : Packets) where
  nobody_found : (found : Option CellPacket)
      → (found ≡ None → (facts : Facts) (ifid : IfId) (dir : Dir) → IsClassPacket packets.tables.now class facts ifid dir
      → is_first (meets_entry packets.tables.now facts ifid dir) order (length order) ≡ false)
      → IfSome found (IsDecidedIn packets.tables.now class order (entry_place (slice_get order (length order))))
      → IsNoneFound packets.tables.now class order found
  nobody_found None none decided = none_undecided packets.tables.now class order (none refl)
  nobody_found (Some packet) none decided =
      subst (λ rule. IsDecidedIn packets.tables.now class order rule packet) (ap entry_place (slice_get_past order (length order) (omega arith))) decided

  pub order_answer : (tables : Tables) (answer : Deciders) → packets.tables.now ≡ tables → length answer.rules.items ≡ length order
      → AreSound packets.tables.now class order answer.rules.items → AreWhole packets.tables.now class order answer.rules.items
      → (answer.none ≡ None → (facts : Facts) (ifid : IfId) (dir : Dir) → IsClassPacket packets.tables.now class facts ifid dir
      → is_first (meets_entry packets.tables.now facts ifid dir) order (length order) ≡ false)
      → IfSome answer.none (IsDecidedIn packets.tables.now class order (entry_place (slice_get order (length order))))
      → IsOrderAnswer tables class order answer
  order_answer tables answer same count sound whole none decided =
      subst (λ ts. IsOrderAnswer ts class order answer) same
      (record { count = count; sound = sound; whole = whole; none = nobody_found answer.none none decided })
