-- The differences that are told so far: pairs of an old rule and a new one, in the order of inspection.
use Rattle.std.specs.Prelude.{◌≡◌, ◌<◌, ◌≤◌, ◌⊎◌, ◌+◌, ℕ, false, List, All, AllPairs, Contains, length, map, slice_index, slice_index_or, if◌then◌else◌}
use Rattle.npf_products.specs.declared.packet.CellPacket.{CellPacket}
use Rattle.npf_compare.specs.declared.asked.AskedPlaces.{AskedPlaces}
use Rattle.npf_compare.specs.declared.difference.RuleDifference.{RuleDifference}
use Rattle.npf_compare.specs.declared.side.RuleSide.{RuleSide}
use Rattle.npf_compare.specs.Difference.{IsEarlierDifference, IsEarlierPair, IsEarlierRule, rule_pair}
use Rattle.npf_compare.specs.Side.{AreBothFirst, AreUnlike, effect_at, place_in}

-- the new rules that are asked of a packet of this old one: those that aren't common where that one is
abbrev pub asked_of : AskedPlaces → ℕ → List ℕ
asked_of asked at = if slice_index_or asked.common.items at false then asked.rest.items else asked.all.items

module _ (old new : RuleSide) where
  -- the difference is of the rules at these places in the order of inspection
  pub record IsToldOf (difference : RuleDifference) : Type 0 where
    pub place : ℕ
    pub other : ℕ
    pub old_within : place ≤ length old.order.now
    pub new_within : other ≤ length new.order.now
    pub old_is : difference.old ≡ place_in old place
    pub new_is : difference.new ≡ place_in new other
    pub unlike : AreUnlike old new (slice_index old.at.now place) (slice_index new.at.now other) difference.packet

  -- a packet on which these decide is treated alike, or they are told
  abbrev pub IsToldOrAlike : List RuleDifference → ℕ → ℕ → Type 0
  IsToldOrAlike differences place other = (packet : CellPacket) → AreBothFirst old new (slice_index old.at.now place) (slice_index new.at.now other) packet
      → (effect_at old (slice_index old.at.now place) ≡ effect_at new (slice_index new.at.now other))
      ⊎ Contains (map rule_pair differences) (place_in old place, place_in new other)

  -- all told differences are of old rules in front of this place
  pub record AreToldBefore (place : ℕ) (differences : List RuleDifference) : Type 0 where
    pub each : All IsToldOf differences
    pub ordered : AllPairs IsEarlierDifference differences
    pub earlier : (next : ℕ) → place ≤ next → next ≤ length old.order.now → All (λ difference. IsEarlierRule difference.old (place_in old next)) differences

  -- the differences grew by those of the old rule at this place, and of some of these new ones in front of the place `upto`
  pub record AreToldUpto (place : ℕ) (others : List ℕ) (upto : ℕ) (before after : List RuleDifference) : Type 0 where
    pub each : All IsToldOf after
    pub ordered : AllPairs IsEarlierDifference after
    pub earlier : (next : ℕ) → place < next → next ≤ length old.order.now → All (λ difference. IsEarlierRule difference.old (place_in old next)) after
    pub in_front : (k : ℕ) → upto ≤ k → k < length others
        → All (λ difference. IsEarlierPair (rule_pair difference) (place_in old place, place_in new (slice_index others k))) after
    pub kept : (one : ℕ) (other : ℕ) → IsToldOrAlike before one other → IsToldOrAlike after one other
    pub settled : (k : ℕ) → k < upto → k < length others → IsToldOrAlike after place (slice_index others k)

  -- each pair that isn't asked is of two common rules: what they do to a packet on which they decide is the same
  pub record IsAskedWhole (asked : AskedPlaces) : Type 0 where
    pub within : (at : ℕ) → All (λ other. other ≤ length new.order.now) (asked_of asked at)
    pub rising : (at : ℕ) → AllPairs (λ one next. one < next) (asked_of asked at)
    pub whole : (at other : ℕ) → other ≤ length new.order.now
        → Contains (asked_of asked at) other
        ⊎ ((packet : CellPacket) → AreBothFirst old new at (slice_index new.at.now other) packet → effect_at old at ≡ effect_at new (slice_index new.at.now other))

  -- all pairs that are asked are settled
  pub record AreToldOfAll (asked : AskedPlaces) (differences : List RuleDifference) : Type 0 where
    pub told : AreToldBefore (length old.order.now + 1) differences
    pub settled : (place other : ℕ) → place ≤ length old.order.now → Contains (asked_of asked (slice_index old.at.now place)) other → IsToldOrAlike differences place other
