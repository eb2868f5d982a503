-- The same of rules in their order of precedence.
use Rattle.std.specs.Prelude.{◌≡◌, ◌<◌, ◌+◌, ℕ, Bool, true, Option, Some, None, List, All, IfSome, length, map, nat_eq, slice_get, drop}
use Rattle.std.specs.List.{IsDistinct}
use Rattle.npf_types.specs.declared.direction.Dir.{Dir}
use Rattle.npf_types.specs.declared.facts.Facts.{Facts}
use Rattle.npf_types.specs.declared.interface.IfId.{IfId}
use Rattle.npf_model.specs.declared.model.Model.{Model}
use Rattle.npf_model.specs.Describes.{Tables}
use Rattle.npf_precedence.specs.declared.entry.RuleEntry.{RuleEntry}
use Rattle.npf_products.specs.declared.packet.CellPacket.{CellPacket}
use Rattle.npf_products.specs.declared.product.Product.{Product}
use Rattle.npf_products.specs.declared.tables.TableSpan.{TableSpan}
use Rattle.npf_reach.specs.declared.packets.Packets.{Packets}
use Rattle.npf_reach.specs.Kinds.{IsPacket, held_at}
use Rattle.npf_reach.specs.Packets.{IsOf, has_packet}
use Rattle.npf_judge.specs.Order.{decider_in, entry_place, is_first, meets_entry, passes_here}
use Rattle.npf_judge.specs.Place.{IsRulePlace}
use Rattle.npf_judge.specs.Products.{entry_product}
use Rattle.npf_lint.specs.declared.found.RuleFinding.{RuleFinding}
use Rattle.npf_treatment.specs.declared.rule.RuleEffect.{RuleEffect}
use Rattle.npf_treatment.specs.Treatment.{rule_effect}
use Rattle.npf_lint.specs.Finding.{RuleReading, IsFindingBy, IsOneRuleOf, IsTakenBy, effect_at_place}

-- the rule at this place of the order matches the packet
abbrev pub matches_at : Tables → List RuleEntry → ℕ → Facts → IfId → Dir → Bool
matches_at tables order at facts ifid dir = passes_here (meets_entry tables facts ifid dir) (slice_get order at)

-- the rules behind it
abbrev pub rules_behind : List RuleEntry → ℕ → List RuleEntry
rules_behind order at = drop (at + 1) order

-- they are places of rules in front of this place of the order, each of another rule
pub record AreNamedOnce (order : List RuleEntry) (before : ℕ) (others : List ℕ) : Type 0 where
  pub named : All (λ other. (k : ℕ) × (k < before) × IsRulePlace order k other) others
  pub once : IsDistinct nat_eq others

-- what is done by a rule, or where none decides
abbrev pub effect_by_entry : Model → Option RuleEntry → RuleEffect
effect_by_entry model None = rule_effect model None
effect_by_entry model (Some entry) = rule_effect model (Some entry.rule.now)

-- of a packet on which the rule at this place of the order decides, those behind it decide without it
abbrev pub reading_at : Tables → List RuleEntry → ℕ → RuleReading
reading_at tables order at = record { matched = matches_at tables order at; answer = decider_in tables order; without = decider_in tables (rules_behind order at) }

abbrev pub IsFindingAt : Model → Tables → List RuleEntry → ℕ → RuleFinding → Type 0
IsFindingAt model tables order at finding =
    (place : ℕ) → IsRulePlace order at place → IsFindingBy (reading_at tables order at) (effect_at_place model) place finding

-- something is found of the rule at this place of the order
abbrev pub HasFindingOf : Model → Tables → List RuleEntry → List RuleFinding → ℕ → Type 0
HasFindingOf model tables order findings at =
    (place : ℕ) → IsRulePlace order at place → IfSome (slice_get findings place) (IsFindingBy (reading_at tables order at) (effect_at_place model) place)

-- Of the rule at the place `at` of the order: each packet that it matches and on which a rule in front of `before` decides has one of these for its answer,
-- and each of these is the answer of one that it matches.
pub record AreOthers (tables : Tables) (order : List RuleEntry) (at before : ℕ) (others : List ℕ) : Type 0 where
  pub each : (k : ℕ) → k < before → (facts : Facts) (ifid : IfId) (dir : Dir) → IsPacket facts ifid → matches_at tables order at facts ifid dir ≡ true
      → is_first (meets_entry tables facts ifid dir) order k ≡ true → IsOneRuleOf others (entry_place (slice_get order k))
  pub needed : All (IsTakenBy (reading_at tables order at)) others

-- ---- a rule that decides on a packet
-- the packet can be, the rule at the place `at` decides on it, and without that rule what stands at the place `next` behind it
pub record IsLeftAt (tables : Tables) (order : List RuleEntry) (at next : ℕ) (packet : CellPacket) : Type 0 where
  pub possible : IsPacket packet.facts packet.ifid
  pub first : is_first (meets_entry tables packet.facts packet.ifid packet.dir) order at ≡ true
  pub left : is_first (meets_entry tables packet.facts packet.ifid packet.dir) (rules_behind order at) next ≡ true

-- they are those on which the rule at this place decides
pub record AreOwn (packets : Packets) (order : List RuleEntry) (at : ℕ) (own : Packets) : Type 0 where
  pub of : IsOf packets.tables.now packets.products.now own
  pub has : (facts : Facts) (ifid : IfId) (dir : Dir) → IsPacket facts ifid
      → has_packet own facts ifid dir ≡ is_first (meets_entry packets.tables.now facts ifid dir) order at

-- what the packet is left to treats it otherwise
pub record IsOtherwise (model : Model) (tables : Tables) (order : List RuleEntry) (at : ℕ) (packet : CellPacket) : Type 0 where
  pub next : ℕ
  pub left : IsLeftAt tables order at next packet
  pub otherwise : ¬ effect_by_entry model (slice_get (rules_behind order at) next) ≡ effect_by_entry model (slice_get order at)

-- what stands in front of `next` behind the rule treats packets that are left to it as the rule does
abbrev pub AreLeftAlike : Model → Tables → List RuleEntry → ℕ → ℕ → Type 0
AreLeftAlike model tables order at next = (k : ℕ) → k < next → (packet : CellPacket) → IsLeftAt tables order at k packet
    → effect_by_entry model (slice_get (rules_behind order at) k) ≡ effect_by_entry model (slice_get order at)

-- each rule in front of `next` behind the rule to which a packet is left is one of these, and each of these is one
pub record AreSuccessors (tables : Tables) (order : List RuleEntry) (at next : ℕ) (others : List ℕ) : Type 0 where
  pub each : (k : ℕ) → k < next → (packet : CellPacket) → IsLeftAt tables order at k packet → IsOneRuleOf others (entry_place (slice_get (rules_behind order at) k))
  pub needed : All (λ other. (k : ℕ) × (packet : CellPacket) × IsLeftAt tables order at k packet × (entry_place (slice_get (rules_behind order at) k) ≡ Some other)) others

-- ---- all packets
-- all packets, and the products of these rules
pub record IsRuleOrder (order : List RuleEntry) (packets : Packets) : Type 0 where
  pub of : IsOf packets.tables.now packets.products.now packets
  pub all : (facts : Facts) (ifid : IfId) (dir : Dir) → IsPacket facts ifid → has_packet packets facts ifid dir ≡ true
  pub count : length packets.products.now ≡ length order
  pub held : (at : ℕ) (facts : Facts) (ifid : IfId) (dir : Dir) → at < length order
      → held_at packets.tables.now packets.products.now facts ifid dir at ≡ matches_at packets.tables.now order at facts ifid dir

-- the products of these rules with all of the tables
pub record AreRuleProducts (tables : Tables) (order : List RuleEntry) (products : List Product) : Type 0 where
  pub span : TableSpan
  pub first : span.first ≡ 0
  pub count : span.count ≡ length tables
  pub are : products ≡ map (entry_product span) order
