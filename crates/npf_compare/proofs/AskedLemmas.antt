-- What isn't asked is settled by rules that both have.
use Rattle.std.proofs.Common.{◌≡◌, ◌⊎◌, ℕ, ◌+◌, ◌<◌, ◌≤◌, Bool, true, false, cond, List, [], length, map, get_or, slice_index, slice_index_or, sym, subst, inl, inr, arith}
use Rattle.std.specs.List.{All, AllPairs, Contains}
use Rattle.std.proofs.lemmas.Bool.{cases_Bool}
use Rattle.std.proofs.lemmas.List.{length-map, get_or-map}
use Rattle.npf_products.specs.declared.packet.CellPacket.{CellPacket}
use Rattle.npf_compare.specs.declared.asked.AskedPlaces.{AskedPlaces}
use Rattle.npf_compare.specs.declared.side.RuleSide.{RuleSide}
use Rattle.npf_compare.specs.Side.{AreBothFirst, AreCommon, effect_at}
use Rattle.npf_compare.specs.Told.{IsAskedWhole, asked_of}
use Rattle.npf_compare.proofs.CommonLemmas.{common_same}

all_mapped : (f : ℕ × ℕ → ℕ) (pairs : List (ℕ × ℕ)) (count : ℕ) → ((k : ℕ) → k < length pairs → f (get_or pairs k (0, 0)) ≤ count)
    → All (λ place. place < count + 1) (map f pairs)
all_mapped f pairs count each k d low =
    let inside : k < length pairs = omega (arith, low, length-map pairs f) in
    let here = each k inside in
    omega (arith, here, get_or-map f pairs k (0, 0) d inside)

module _ (old new : RuleSide) (rules fellows : List ℕ) (are : AreCommon old new rules fellows) where
  pub rules_below : All (λ place. place < length old.order.now + 1) rules
  rules_below = subst (All (λ place. place < length old.order.now + 1)) (sym are.rules_are)
      (all_mapped (λ (pair : ℕ × ℕ). pair.0) are.pairs (length old.order.now) (λ k low. (are.alike k (0, 0) low).old_within))

  pub fellows_below : All (λ place. place < length new.order.now + 1) fellows
  fellows_below = subst (All (λ place. place < length new.order.now + 1)) (sym are.fellows_are)
      (all_mapped (λ (pair : ℕ × ℕ). pair.1) are.pairs (length new.order.now) (λ k low. (are.alike k (0, 0) low).new_within))

  module _ (asked : AskedPlaces) (fellow_marks no_marks : List Bool) (count : length new.at.now ≡ length new.order.now + 1)
      (common : (k : ℕ) → slice_index_or asked.common.items k false ≡ true → Contains rules k)
      (fellow : (k : ℕ) → slice_index_or fellow_marks k false ≡ true → Contains fellows k)
      (nothing : (k : ℕ) → slice_index_or no_marks k false ≡ true → Contains [] k)
      (rest_within : All (λ place. place < length new.at.now) asked.rest.items) (rest_rising : AllPairs (λ one next. one < next) asked.rest.items)
      (rest_whole : (k : ℕ) → k < length new.at.now → (slice_index_or fellow_marks (slice_index new.at.now k) false ≡ true) ⊎ Contains asked.rest.items k)
      (all_within : All (λ place. place < length new.at.now) asked.all.items) (all_rising : AllPairs (λ one next. one < next) asked.all.items)
      (all_whole : (k : ℕ) → k < length new.at.now → (slice_index_or no_marks (slice_index new.at.now k) false ≡ true) ⊎ Contains asked.all.items k) where
    asked_when : (P : List ℕ → Type 0) (at : ℕ) → P asked.rest.items → P asked.all.items → P (asked_of asked at)
    asked_when P at rest all = elim (cases_Bool (slice_index_or asked.common.items at false)) [
      | inl is ↦ subst (λ b. P (cond b asked.rest.items asked.all.items)) (sym is) rest
      | inr isnt ↦ subst (λ b. P (cond b asked.rest.items asked.all.items)) (sym isnt) all
    ]

    upto : (places : List ℕ) → All (λ place. place < length new.at.now) places → All (λ place. place ≤ length new.order.now) places
    upto places all k d low = let here = all k d low in omega (arith, here, count)

    asked_or_same : (at other : ℕ) → other ≤ length new.order.now
        → Contains (asked_of asked at) other
        ⊎ ((packet : CellPacket) → AreBothFirst old new at (slice_index new.at.now other) packet → effect_at old at ≡ effect_at new (slice_index new.at.now other))
    asked_or_same at other within = elim (cases_Bool (slice_index_or asked.common.items at false)) [
      | inl is ↦ elim (rest_whole other (omega (arith, within, count))) [
        | inl marked ↦ inr (common_same old new rules fellows at (slice_index new.at.now other) are (common at is) (fellow (slice_index new.at.now other) marked))
        | inr there ↦ inl (subst (λ b. Contains (cond b asked.rest.items asked.all.items) other) (sym is) there)
      ]
      | inr isnt ↦ elim (all_whole other (omega (arith, within, count))) [
        | inl marked ↦ let no = nothing (slice_index new.at.now other) marked in absurd (omega (arith, no.1))
        | inr there ↦ inl (subst (λ b. Contains (cond b asked.rest.items asked.all.items) other) (sym isnt) there)
      ]
    ]

    pub asked_whole : IsAskedWhole old new asked
    asked_whole = record {
      within = λ at. asked_when (All (λ other. other ≤ length new.order.now)) at (upto asked.rest.items rest_within) (upto asked.all.items all_within);
      rising = λ at. asked_when (AllPairs (λ one next. one < next)) at rest_rising all_rising;
      whole = asked_or_same;
    }
