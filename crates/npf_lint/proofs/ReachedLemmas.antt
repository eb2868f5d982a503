-- What would be done without a rule that decides on some packet.
use Rattle.std.proofs.Common.{◌≡◌, ℕ, zero, suc, ◌+◌, ◌-◌, ◌<◌, ◌≤◌, ◌&&◌, Bool, true, false, List, [], ◌∷◌, ◌++◌, Option, Some, None, Result, Ok, Err, IfOk, IfSome, is_some}
use Rattle.std.proofs.Common.{length, get_or, slice_get, drop, refl, sym, subst, ap, ◌∙◌, inl, inr, arith}
use Rattle.std.specs.{List.Sorted.{IsStrictlyIncreasing, IsPermutation}}
use Rattle.std.proofs.lemmas.Bool.{and_from, and_parts, cases_eq, false≢true}
use Rattle.std.proofs.lemmas.List.{length-drop}
use Rattle.std.proofs.lemmas.List.Elements.{All-push, Contains-push}
use Rattle.std.proofs.lemmas.List.Sorted.{All-permutation}
use Rattle.std.proofs.lemmas.Option.{slice_get_past}
use Rattle.npf_types.specs.declared.{direction.Dir.Dir, facts.Facts.Facts, interface.IfId.IfId}
use Rattle.npf_model.specs.{Describes.Tables, declared.model.Model.Model}
use Rattle.npf_precedence.specs.declared.entry.RuleEntry.{RuleEntry}
use Rattle.npf_products.specs.declared.packet.CellPacket.{CellPacket}
use Rattle.npf_reach.specs.{Kinds.{IsPacket, held_at}, Packets.{IsOf, has_packet}, declared.packets.Packets.Packets}
use Rattle.npf_search.specs.{Region.decides, declared.decider.Decider.Decider}
use Rattle.npf_steps.specs.declared.steps.Stopped.{Stopped}
use Rattle.npf_treatment.specs.Treatment.{rule_effect}
use Rattle.npf_judge.specs.Order.{decider_in, entry_place, is_first, meets_entry, passes_here}
use Rattle.npf_judge.proofs.FirstLemmas.{decides_from, first_found, some_first}
use Rattle.npf_lint.specs.declared.found.Replacement.{Replacement}
use Rattle.npf_lint.specs.Finding.{IsAmong, HasForAnswer, IsLeftTo, IsNeededFor, IsOneRuleOf, IsReplacedBy, effect_at_place}
use Rattle.npf_judge.specs.Place.{HasRulePlaces, IsRulePlace}
use Rattle.npf_lint.specs.Order.{AreSuccessors, AreLeftAlike, AreOwn, IsLeftAt, IsOtherwise, IsRuleOrder, rules_behind, effect_by_entry, reading_at}
use Rattle.npf_lint.proofs.OrderLemmas.{first_answered, one_of_more, one_of_permuted}

-- ---- places behind one
pub get_drop : {X : Type 0} (n : ℕ) (xs : List X) (k : ℕ) → slice_get (drop n xs) k ≡ slice_get xs (n + k)
get_drop zero xs k = let same : k ≡ 0 + k = omega arith in ap (slice_get xs) same
get_drop (suc n) [] k = refl
get_drop (suc n) (x ∷ xs) k = let same : suc (n + k) ≡ suc n + k = omega arith in get_drop n xs k ∙ ap (slice_get (x ∷ xs)) same

pub behind_length : (order : List RuleEntry) (at : ℕ) → length (rules_behind order at) ≡ length order - (at + 1)
behind_length order at = length-drop (at + 1) order

-- what is done by what stands at a place of the order
effect_there : (model : Model) (order : List RuleEntry) → HasRulePlaces model order → (k : ℕ) (found : Option RuleEntry) → slice_get order k ≡ found
    → effect_at_place model (entry_place (slice_get order k)) ≡ effect_by_entry model (slice_get order k)
effect_there model order places k None there =
    ap (λ o. effect_at_place model (entry_place o)) there ∙ ap (effect_by_entry model) (sym there)
effect_there model order places k (Some entry) there =
    ap (λ o. effect_at_place model (entry_place o)) there
    ∙ ap (rule_effect model) (places.rules k entry there)
    ∙ ap (effect_by_entry model) (sym there)

pub effect_behind : (model : Model) (order : List RuleEntry) → HasRulePlaces model order → (at k : ℕ)
    → effect_at_place model (entry_place (slice_get (rules_behind order at) k)) ≡ effect_by_entry model (slice_get (rules_behind order at) k)
effect_behind model order places at k =
    ap (λ o. effect_at_place model (entry_place o)) (get_drop (at + 1) order k)
    ∙ effect_there model order places (at + 1 + k) (slice_get order (at + 1 + k)) refl
    ∙ ap (effect_by_entry model) (sym (get_drop (at + 1) order k))

-- ---- packets
-- those on which a rule decides
pub are_own : (order : List RuleEntry) (packets new : Packets) (decider : Decider) (at : ℕ) → IsRuleOrder order packets → decider.first ≡ 0 → decider.count ≡ length order
    → decider.place ≡ at → IsOf packets.tables.now packets.products.now new
    → ((facts : Facts) (ifid : IfId) (dir : Dir) → IsPacket facts ifid
    → has_packet new facts ifid dir ≡ (has_packet packets facts ifid dir && decides (held_at packets.tables.now packets.products.now facts ifid dir) decider))
    → AreOwn packets order at new
are_own order packets new decider at is first count place of narrowed = record {
  of = of;
  has = λ facts ifid dir packet.
      narrowed facts ifid dir packet
      ∙ ap (λ b. b && decides (held_at packets.tables.now packets.products.now facts ifid dir) decider) (is.all facts ifid dir packet)
      ∙ decides_from (meets_entry packets.tables.now facts ifid dir) 0 (held_at packets.tables.now packets.products.now facts ifid dir) order decider first count
      (λ k low. let same : 0 + k ≡ k = omega arith in ap (held_at packets.tables.now packets.products.now facts ifid dir) same ∙ is.held k facts ifid dir low)
      ∙ ap (is_first (meets_entry packets.tables.now facts ifid dir) order) place;
}

-- those of them that are left to a place behind it
module _ (order : List RuleEntry) (packets own left : Packets) (decider : Decider) (at next : ℕ) (is : IsRuleOrder order packets) (low : at < length order)
    (are : AreOwn packets order at own) (first : decider.first ≡ at + 1) (count : decider.count ≡ length order - at - 1) (place : decider.place ≡ next)
    (narrowed : (facts : Facts) (ifid : IfId) (dir : Dir) → IsPacket facts ifid
    → has_packet left facts ifid dir ≡ (has_packet own facts ifid dir && decides (held_at own.tables.now own.products.now facts ifid dir) decider)) where
  left_has : (facts : Facts) (ifid : IfId) (dir : Dir) → IsPacket facts ifid
      → has_packet left facts ifid dir
      ≡ (is_first (meets_entry packets.tables.now facts ifid dir) order at && is_first (meets_entry packets.tables.now facts ifid dir) (rules_behind order at) next)
  left_has facts ifid dir packet =
      narrowed facts ifid dir packet
      ∙ ap (λ b. b && decides (held_at own.tables.now own.products.now facts ifid dir) decider) (are.has facts ifid dir packet)
      ∙ ap (λ ts. is_first (meets_entry packets.tables.now facts ifid dir) order at && decides (held_at ts own.products.now facts ifid dir) decider) are.of.tables_are
      ∙ ap (λ ps. is_first (meets_entry packets.tables.now facts ifid dir) order at && decides (held_at packets.tables.now ps facts ifid dir) decider) are.of.products_are
      ∙ ap (λ b. is_first (meets_entry packets.tables.now facts ifid dir) order at && b)
      (decides_from (meets_entry packets.tables.now facts ifid dir) (at + 1) (held_at packets.tables.now packets.products.now facts ifid dir) (rules_behind order at) decider first
      (omega (arith, count, behind_length order at))
      (λ k inside.
      is.held (at + 1 + k) facts ifid dir (omega (arith, inside, behind_length order at))
      ∙ ap (passes_here (meets_entry packets.tables.now facts ifid dir)) (sym (get_drop (at + 1) order k)))
      ∙ ap (is_first (meets_entry packets.tables.now facts ifid dir) (rules_behind order at)) place)

  pub none_left : ((facts : Facts) (ifid : IfId) (dir : Dir) → IsPacket facts ifid → has_packet left facts ifid dir ≡ false)
      → (packet : CellPacket) → ¬ IsLeftAt packets.tables.now order at next packet
  none_left none packet is_left =
      false≢true (sym (none packet.facts packet.ifid packet.dir is_left.possible) ∙ left_has packet.facts packet.ifid packet.dir is_left.possible
      ∙ and_from (is_first (meets_entry packets.tables.now packet.facts packet.ifid packet.dir) order at)
      (is_first (meets_entry packets.tables.now packet.facts packet.ifid packet.dir) (rules_behind order at) next) is_left.first is_left.left)

  pub some_left : (result : Result (Option CellPacket) Stopped) → IfOk result (λ found. IfSome found (λ packet. IsPacket packet.facts packet.ifid))
      → IfOk result (λ found. IfSome found (λ packet. has_packet left packet.facts packet.ifid packet.dir ≡ true))
      → IfOk result (λ found. IfSome found (IsLeftAt packets.tables.now order at next))
  some_left (Ok (Some found)) packet there =
      let parts = and_parts (is_first (meets_entry packets.tables.now found.facts found.ifid found.dir) order at)
      (is_first (meets_entry packets.tables.now found.facts found.ifid found.dir) (rules_behind order at) next)
      (sym (left_has found.facts found.ifid found.dir packet) ∙ there) in
      record { possible = packet; first = parts.0; left = parts.1 }
  some_left (Ok None) packet there = there
  some_left (Err stopped) packet there = there

-- ---- what they are left to
pub none_alike : (model : Model) (tables : Tables) (order : List RuleEntry) (at : ℕ) → AreLeftAlike model tables order at 0
none_alike model tables order at k low = absurd (omega arith)

module _ (model : Model) (tables : Tables) (order : List RuleEntry) (at next : ℕ) (before : AreLeftAlike model tables order at next) where
  alike_more : ((packet : CellPacket) → IsLeftAt tables order at next packet → effect_by_entry model (slice_get (rules_behind order at) next) ≡ effect_by_entry model (slice_get order at))
      → AreLeftAlike model tables order at (next + 1)
  alike_more here k low packet is = elim (cases_eq k next) [
    | inl same ↦
        ap (λ n. effect_by_entry model (slice_get (rules_behind order at) n)) same ∙ here packet (subst (λ n. IsLeftAt tables order at n packet) same is)
    | inr other ↦ before k (omega (arith, low, other)) packet is
  ]

  -- it does the same
  pub alike_by_effect : effect_by_entry model (slice_get order (at + 1 + next)) ≡ effect_by_entry model (slice_get order at) → AreLeftAlike model tables order at (next + 1)
  alike_by_effect same = alike_more (λ packet is. ap (effect_by_entry model) (get_drop (at + 1) order next) ∙ same)

  -- no packet is left to it
  pub alike_by_none : ((packet : CellPacket) → ¬ IsLeftAt tables order at next packet) → AreLeftAlike model tables order at (next + 1)
  alike_by_none none = alike_more (λ packet is. absurd (none packet is))

pub is_otherwise : (model : Model) (tables : Tables) (order : List RuleEntry) (at next : ℕ) (found : Option CellPacket)
    → ¬ effect_by_entry model (slice_get order (at + 1 + next)) ≡ effect_by_entry model (slice_get order at)
    → IfSome found (IsLeftAt tables order at next) → IfSome found (IsOtherwise model tables order at)
is_otherwise model tables order at next None other left = left
is_otherwise model tables order at next (Some packet) other left = record {
  next = next;
  left = left;
  otherwise = λ same. other (ap (effect_by_entry model) (sym (get_drop (at + 1) order next)) ∙ same);
}

pub none_are_left : (tables : Tables) (order : List RuleEntry) (at : ℕ) → AreSuccessors tables order at 0 []
none_are_left tables order at = record { each = λ k low. absurd (omega arith); needed = λ k d low. absurd (omega arith) }

pub left_sorted : (tables : Tables) (order : List RuleEntry) (at next : ℕ) (others sorted : List ℕ) → IsPermutation others sorted
    → AreSuccessors tables order at next others → AreSuccessors tables order at next sorted
left_sorted tables order at next others sorted moved are = record {
  each = λ k low packet is. one_of_permuted others sorted (entry_place (slice_get (rules_behind order at) k)) moved (are.each k low packet is);
  needed = All-permutation (λ other. (k : ℕ) × (packet : CellPacket) × IsLeftAt tables order at k packet × (entry_place (slice_get (rules_behind order at) k) ≡ Some other))
      others sorted moved are.needed;
}

module _ (tables : Tables) (order : List RuleEntry) (at next : ℕ) (others : List ℕ) (are : AreSuccessors tables order at next others) where
  pub left_more : (place : ℕ) (found : Option CellPacket) → is_some found ≡ true → IsRulePlace order (at + 1 + next) place → IfSome found (IsLeftAt tables order at next)
      → AreSuccessors tables order at (next + 1) (others ++ place ∷ [])
  left_more place None some here left = absurd (false≢true some)
  left_more place (Some packet) some here left =
      let there : entry_place (slice_get (rules_behind order at) next) ≡ Some place = ap entry_place (get_drop (at + 1) order next) ∙ here in
      record {
        each = λ k low other is. elim (cases_eq k next) [
          | inl same ↦ subst (λ n. IsOneRuleOf (others ++ place ∷ []) (entry_place (slice_get (rules_behind order at) n))) (sym same)
              (subst (IsOneRuleOf (others ++ place ∷ [])) (sym there) (Contains-push others place))
          | inr unlike ↦ one_of_more others (place ∷ []) (entry_place (slice_get (rules_behind order at) k)) (are.each k (omega (arith, low, unlike)) other is)
        ];
        needed = All-push (λ other. (k : ℕ) × (packet : CellPacket) × IsLeftAt tables order at k packet × (entry_place (slice_get (rules_behind order at) k) ≡ Some other))
            others place are.needed (next, packet, left, there);
      }

  pub left_same : ((packet : CellPacket) → ¬ IsLeftAt tables order at next packet) → AreSuccessors tables order at (next + 1) others
  left_same none = record {
    each = λ k low packet is. elim (cases_eq k next) [
      | inl same ↦ absurd (none packet (subst (λ n. IsLeftAt tables order at n packet) same is))
      | inr unlike ↦ are.each k (omega (arith, low, unlike)) packet is
    ];
    needed = are.needed;
  }

-- ---- the finding
among_one : (others : List ℕ) (none : Bool) (answer : Option ℕ) → IsOneRuleOf others answer → IsAmong others none answer
among_one others none None is = absurd is
among_one others none (Some place) is = is

module _ (model : Model) (tables : Tables) (order : List RuleEntry) (places : HasRulePlaces model order) (at place : ℕ) (here : IsRulePlace order at place) where
  own_effect : effect_at_place model (Some place) ≡ effect_by_entry model (slice_get order at)
  own_effect = ap (effect_at_place model) (sym here) ∙ effect_there model order places at (slice_get order at) refl

  -- the packet is left to that place
  left_without : (next : ℕ) (packet : CellPacket) → IsLeftAt tables order at next packet
      → decider_in tables (rules_behind order at) packet.facts packet.ifid packet.dir ≡ entry_place (slice_get (rules_behind order at) next)
  left_without next packet is = ap entry_place (first_found (meets_entry tables packet.facts packet.ifid packet.dir) (rules_behind order at) next is.left)

  left_answered : (next : ℕ) (packet : CellPacket) → IsLeftAt tables order at next packet → HasForAnswer (reading_at tables order at) place packet
  left_answered next packet is = record {
    possible = is.possible;
    answered = ap entry_place (first_found (meets_entry tables packet.facts packet.ifid packet.dir) order at is.first) ∙ here;
  }

  pub is_needed : (packet : CellPacket) → IsOtherwise model tables order at packet → IsNeededFor (reading_at tables order at) (effect_at_place model) place packet
  is_needed packet is = record {
    has = left_answered is.next packet is.left;
    otherwise = λ same.
        is.otherwise (sym (effect_behind model order places at is.next) ∙ ap (effect_at_place model) (sym (left_without is.next packet is.left)) ∙ same ∙ own_effect);
  }

  -- where a packet that the rule answers is left
  left_there : (packet : CellPacket) → HasForAnswer (reading_at tables order at) place packet
      → (next : ℕ) × (next ≤ length (rules_behind order at)) × IsLeftAt tables order at next packet
  left_there packet is =
      let next = some_first (meets_entry tables packet.facts packet.ifid packet.dir) (rules_behind order at) in (
        next.0,
        next.1,
        record {
          possible = is.possible;
          first = first_answered model tables order places at place here packet.facts packet.ifid packet.dir is.answered;
          left = next.2;
        },
      )

  left_to : (next : ℕ) (packet : CellPacket) (other : Option ℕ) → IsLeftAt tables order at next packet → entry_place (slice_get (rules_behind order at) next) ≡ other
      → IsLeftTo (reading_at tables order at) place other
  left_to next packet other is there = record {
    packet = packet;
    has = left_answered next packet is;
    left = left_without next packet is ∙ there;
  }

  module _ (replacement : Replacement) (found : Option CellPacket)
      (possible : IsPacket replacement.packet.facts replacement.packet.ifid)
      (first : is_first (meets_entry tables replacement.packet.facts replacement.packet.ifid replacement.packet.dir) order at ≡ true)
      (alike : AreLeftAlike model tables order at (length (rules_behind order at) + 1))
      (left : AreSuccessors tables order at (length (rules_behind order at)) replacement.others.items) (ascending : IsStrictlyIncreasing replacement.others.items)
      (says : replacement.none ≡ is_some found)
      (none : found ≡ None → (packet : CellPacket) → ¬ IsLeftAt tables order at (length (rules_behind order at)) packet)
      (some : IfSome found (IsLeftAt tables order at (length (rules_behind order at)))) where
    past : entry_place (slice_get (rules_behind order at) (length (rules_behind order at))) ≡ None
    past = ap entry_place (slice_get_past (rules_behind order at) (length (rules_behind order at)) (omega arith))

    answered_alike : (packet : CellPacket) → HasForAnswer (reading_at tables order at) place packet
        → effect_at_place model (decider_in tables (rules_behind order at) packet.facts packet.ifid packet.dir) ≡ effect_at_place model (Some place)
    answered_alike packet is =
        let there = left_there packet is in
        ap (effect_at_place model) (left_without there.0 packet there.2)
        ∙ effect_behind model order places at there.0
        ∙ alike there.0 (omega (arith, there.1)) packet there.2
        ∙ sym own_effect

    none_true : (o : Option CellPacket) → (o ≡ None → ⊥) → is_some o ≡ true
    none_true None other = absurd (other refl)
    none_true (Some packet) other = refl

    answered_among : (packet : CellPacket) → HasForAnswer (reading_at tables order at) place packet
        → IsAmong replacement.others.items replacement.none (decider_in tables (rules_behind order at) packet.facts packet.ifid packet.dir)
    answered_among packet is =
        let there = left_there packet is in
        subst (IsAmong replacement.others.items replacement.none) (sym (left_without there.0 packet there.2)) (elim (cases_eq there.0 (length (rules_behind order at))) [
          | inl last ↦
              let is_last : IsLeftAt tables order at (length (rules_behind order at)) packet = subst (λ n. IsLeftAt tables order at n packet) last there.2 in
              subst (IsAmong replacement.others.items replacement.none) (sym (ap (λ n. entry_place (slice_get (rules_behind order at) n)) last ∙ past))
              (says ∙ none_true found (λ nobody. none nobody packet is_last))
          | inr inside ↦
              among_one replacement.others.items replacement.none (entry_place (slice_get (rules_behind order at) there.0))
              (left.each there.0 (omega (arith, there.1, inside)) packet there.2)
        ])

    left_to_none : (o : Option CellPacket) → is_some o ≡ true → IfSome o (IsLeftAt tables order at (length (rules_behind order at)))
        → IsLeftTo (reading_at tables order at) place None
    left_to_none None e is = absurd (false≢true e)
    left_to_none (Some packet) e is = left_to (length (rules_behind order at)) packet None is past

    pub is_replaced : IsReplacedBy (reading_at tables order at) (effect_at_place model) place replacement
    is_replaced = record {
      has = record {
        possible = possible;
        answered = ap entry_place (first_found (meets_entry tables replacement.packet.facts replacement.packet.ifid replacement.packet.dir) order at first) ∙ here;
      };
      alike = answered_alike;
      each = answered_among;
      needed = λ k d inside.
          let other = left.needed k d inside in
          left_to other.0 other.1 (Some (get_or replacement.others.items k d)) other.2 other.3;
      none_needed = λ e. left_to_none found (sym says ∙ e) some;
      ascending = ascending;
    }
