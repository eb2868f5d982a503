-- The rules of each configuration in their order of precedence.
use Rattle.std.specs.Prelude.{◌≡◌, ◌<◌, ◌≤◌, ◌+◌, ◌++◌, ℕ, Bool, true, Option, Some, None, List, All, AllPairs, if◌then◌else◌, length, map, nat_lt, slice_get, slice_index}
use Rattle.std.specs.Option.{option_map}
use Rattle.npf_types.specs.declared.direction.Dir.{Dir}
use Rattle.npf_types.specs.declared.facts.Facts.{Facts}
use Rattle.npf_types.specs.declared.interface.IfId.{IfId}
use Rattle.npf_model.specs.Configuration.{Configuration}
use Rattle.npf_model.specs.Describes.{Tables}
use Rattle.npf_precedence.specs.declared.entry.RuleEntry.{RuleEntry}
use Rattle.npf_precedence.specs.{Entry.ordered_rule, Precedence.in_order}
use Rattle.npf_products.specs.declared.packet.CellPacket.{CellPacket}
use Rattle.npf_products.specs.declared.product.Product.{Product}
use Rattle.npf_products.specs.declared.tables.TableSpan.{TableSpan}
use Rattle.npf_reach.specs.declared.packets.Packets.{Packets}
use Rattle.npf_reach.specs.Kinds.{IsPacket, held_at}
use Rattle.npf_reach.specs.Packets.{IsOf, has_packet}
use Rattle.npf_treatment.specs.declared.rule.RuleEffect.{RuleEffect}
use Rattle.npf_treatment.specs.Treatment.{rule_effect}
use Rattle.npf_judge.specs.Order.{is_first, meets_entry, passes_here}
use Rattle.npf_judge.specs.Place.{IsRulePlace}
use Rattle.npf_judge.specs.Products.{entry_product}
use Rattle.npf_compare.specs.declared.side.RuleSide.{RuleSide}

-- ---- one configuration
abbrev pub side_config : RuleSide → Configuration
side_config side = record { model = side.model.now; tables = side.tables.now }

-- the rule at this place of the order matches the packet; behind all stands none, which each packet may come to
abbrev pub meets_at : RuleSide → ℕ → Facts → IfId → Dir → Bool
meets_at side at facts ifid dir = passes_here (meets_entry side.tables.now facts ifid dir) (slice_get side.order.now at)

-- and it is the first
abbrev pub is_first_at : RuleSide → ℕ → Facts → IfId → Dir → Bool
is_first_at side at facts ifid dir = is_first (meets_entry side.tables.now facts ifid dir) side.order.now at

-- what is done by it
abbrev pub effect_at : RuleSide → ℕ → RuleEffect
effect_at side at = rule_effect side.model.now (option_map (λ entry. entry.rule.now) (slice_get side.order.now at))

-- a place in the order of inspection of so many rules, behind which stands none
abbrev pub rule_or_none : ℕ → ℕ → Option ℕ
rule_or_none count place = if nat_lt place count then Some place else None

abbrev pub place_in : RuleSide → ℕ → Option ℕ
place_in side place = rule_or_none (length side.order.now) place

-- the place in the order of precedence of each rule, by its place in the order of inspection, and behind them that of none
pub record AreOrderPlaces (order : List RuleEntry) (at : List ℕ) : Type 0 where
  pub count : length at ≡ length order + 1
  pub within : All (λ k. k ≤ length order) at
  pub last : slice_index at (length order) ≡ length order
  pub rules : (k place : ℕ) → IsRulePlace order k place → slice_index at place ≡ k

-- the rules are those of the model
pub record IsSideOf (side : RuleSide) : Type 0 where
  pub laid : map ordered_rule side.order.now ≡ in_order side.model.now.groups
  pub places : AreOrderPlaces side.order.now side.at.now

-- ---- both
-- all packets, with the products of both: the old rules', and behind them the new ones'
pub record AreOfBoth (old new : RuleSide) (packets : Packets) : Type 0 where
  pub of : IsOf packets.tables.now packets.products.now packets
  pub all : (facts : Facts) (ifid : IfId) (dir : Dir) → IsPacket facts ifid → has_packet packets facts ifid dir ≡ true
  pub count : length packets.products.now ≡ length old.order.now + length new.order.now
  pub old_held : (at : ℕ) (facts : Facts) (ifid : IfId) (dir : Dir) → at < length old.order.now
      → held_at packets.tables.now packets.products.now facts ifid dir at ≡ meets_at old at facts ifid dir
  pub new_held : (at : ℕ) (facts : Facts) (ifid : IfId) (dir : Dir) → at < length new.order.now
      → held_at packets.tables.now packets.products.now facts ifid dir (length old.order.now + at) ≡ meets_at new at facts ifid dir

-- the products of both, with the tables of both one behind the other
pub record AreJoined (old new : RuleSide) (tables : Tables) (products : List Product) : Type 0 where
  pub old_span : TableSpan
  pub new_span : TableSpan
  pub old_first : old_span.first ≡ 0
  pub old_count : old_span.count ≡ length old.tables.now
  pub new_first : new_span.first ≡ length old.tables.now
  pub new_count : new_span.count ≡ length new.tables.now
  pub tables_are : tables ≡ old.tables.now ++ new.tables.now
  pub products_are : products ≡ map (entry_product old_span) old.order.now ++ map (entry_product new_span) new.order.now

-- they are those that this old rule matches
pub record AreMatched (old : RuleSide) (all : Packets) (at : ℕ) (packets : Packets) : Type 0 where
  pub of : IsOf all.tables.now all.products.now packets
  pub has : (facts : Facts) (ifid : IfId) (dir : Dir) → IsPacket facts ifid → has_packet packets facts ifid dir ≡ meets_at old at facts ifid dir

module _ (old new : RuleSide) where
  -- the packet can be, and in each order the rule at this place is the first that matches it
  pub record AreBothFirst (at other : ℕ) (packet : CellPacket) : Type 0 where
    pub possible : IsPacket packet.facts packet.ifid
    pub by_old : is_first_at old at packet.facts packet.ifid packet.dir ≡ true
    pub by_new : is_first_at new other packet.facts packet.ifid packet.dir ≡ true

  -- and what they do isn't the same
  pub record AreUnlike (at other : ℕ) (packet : CellPacket) : Type 0 where
    pub first : AreBothFirst at other packet
    pub otherwise : ¬ effect_at old at ≡ effect_at new other

  -- ---- rules that both have
  -- they match the same packets, and do the same
  pub record AreFellows (at other : ℕ) : Type 0 where
    pub old_within : at ≤ length old.order.now
    pub new_within : other ≤ length new.order.now
    pub held : (facts : Facts) (ifid : IfId) (dir : Dir) → IsPacket facts ifid → meets_at old at facts ifid dir ≡ meets_at new other facts ifid dir
    pub effect : effect_at old at ≡ effect_at new other

  -- some rules of both orders, each with its fellow, in order
  pub record AreCommon (rules fellows : List ℕ) : Type 0 where
    pub pairs : List (ℕ × ℕ)
    pub rules_are : rules ≡ map (λ pair. pair.0) pairs
    pub fellows_are : fellows ≡ map (λ pair. pair.1) pairs
    pub alike : All (λ pair. AreFellows pair.0 pair.1) pairs
    pub rising : AllPairs (λ one next. (one.0 < next.0) × (one.1 < next.1)) pairs

  -- all of which stand in front of these places
  pub record AreCommonBefore (at other : ℕ) (rules fellows : List ℕ) : Type 0 where
    pub common : AreCommon rules fellows
    pub before : All (λ pair. (pair.0 < at) × (pair.1 < other)) common.pairs
