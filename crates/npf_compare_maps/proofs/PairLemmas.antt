-- Packets to which a pair of maps applies.
use Rattle.std.proofs.Common.{◌≡◌, ℕ, zero, suc, ◌+◌, ◌<◌, ◌≤◌, ◌&&◌, Bool, true, false, not, cond, List, [], ◌∷◌, Option, Some, None, Result, Ok, Err, IfOk, IfSome}
use Rattle.std.proofs.Common.{◌⊎◌, ◌||◌, length, take, slice_get, refl, sym, subst, ap, ◌∙◌, inl, inr, arith}
use Rattle.std.specs.{List.list_any, Option.{option_and_then, option_map}}
use Rattle.std.proofs.lemmas.Bool.{and_from, and_parts, cases_lt, false≢true}
use Rattle.std.proofs.lemmas.Option.{none-some, same_Some, slice_get_past}
use Rattle.npf_types.specs.declared.{direction.Dir.{Dir, TheVariants.{In, Out}}, facts.Facts.Facts, interface.IfId.IfId}
use Rattle.npf_model.specs.declared.map.Map.{Map}
use Rattle.npf_model.specs.{Configuration.{map_place_of}, MapOf.map_applies, Place.is_dir, Verdict.first_where}
use Rattle.npf_products.specs.declared.packet.CellPacket.{CellPacket}
use Rattle.npf_products.specs.Product.{applies_in}
use Rattle.npf_reach.specs.declared.packets.Packets.{Packets}
use Rattle.npf_reach.specs.{Kinds.IsPacket, Packets.has_packet}
use Rattle.npf_treatment.specs.Treatment.{map_effect}
use Rattle.npf_judge.specs.Order.{is_first, passes_here}
use Rattle.npf_judge.proofs.FirstLemmas.{some_first}
use Rattle.npf_steps.specs.declared.steps.Stopped.{Stopped}
use Rattle.npf_compare_maps.specs.declared.{comparison.MapComparison.MapComparison, side.RankedConfig.RankedConfig}
use Rattle.npf_compare_maps.specs.MapDifference.{IsEarlierMap, map_effect_on}
use Rattle.npf_compare_maps.specs.Side.{IsAlikeAmong, IsComparison, IsPairDifference, config_after, config_before, config_of, is_translated, map_at, map_count, written_at}

-- ---- places of a list, where the place behind the last is none
abbrev pub place_of : {X : Type 0} → List X → ℕ → ℕ → Option ℕ
place_of xs n at = option_map (λ x. n) (slice_get xs at)

some_place : {X : Type 0} (xs : List X) (n at : ℕ) → at < length xs → place_of xs n at ≡ Some n
some_place [] n at low = absurd (omega arith)
some_place (x ∷ xs) n zero low = refl
some_place (x ∷ xs) n (suc at) low = some_place xs n at (omega arith)

no_place : {X : Type 0} (xs : List X) (n at : ℕ) → length xs ≤ at → place_of xs n at ≡ None
no_place xs n at past = ap (option_map (λ x. n)) (slice_get_past xs at past)

pub same_place : {X : Type 0} (xs : List X) (one other : ℕ) → one ≤ length xs → other ≤ length xs → place_of xs one one ≡ place_of xs other other → one ≡ other
same_place xs one other low below same = elim (cases_lt one (length xs)) [
  | inl within ↦ elim (cases_lt other (length xs)) [
    | inl inside ↦ same_Some one other (sym (some_place xs one one within) ∙ same ∙ some_place xs other other inside)
    | inr past ↦ absurd (none-some one (sym (no_place xs other other past) ∙ sym same ∙ some_place xs one one within))
  ]
  | inr out ↦ elim (cases_lt other (length xs)) [
    | inl inside ↦ absurd (none-some other (sym (no_place xs one one out) ∙ same ∙ some_place xs other other inside))
    | inr past ↦ omega (arith, low, below, out, past)
  ]
]

-- a place in front is that of an earlier map, or of one where the other is none
earlier_of : {X : Type 0} (xs : List X) (one other : ℕ) → one < other → (found : Option ℕ) → place_of xs other other ≡ found → IsEarlierMap (Some one) found
earlier_of xs one other less None there = tt
earlier_of xs one other less (Some n) there = elim (cases_lt other (length xs)) [
  | inl within ↦ subst (λ k. one < k) (same_Some other n (sym (some_place xs other other within) ∙ there)) less
  | inr past ↦ absurd (none-some n (sym (no_place xs other other past) ∙ there))
]

pub earlier_place : {X : Type 0} (xs : List X) (one other : ℕ) → one < other → other ≤ length xs → IsEarlierMap (place_of xs one one) (place_of xs other other)
earlier_place xs one other less low =
    subst (λ o. IsEarlierMap o (place_of xs other other)) (sym (some_place xs one one (omega (arith, less, low)))) (earlier_of xs one other less (place_of xs other other) refl)

-- ---- the first that passes, with its place
module _ {X : Type 0} (test : X → Bool) where
  where_passing : (b : Bool) (n : ℕ) (rest : Option ℕ) → b ≡ true → cond b (Some n) rest ≡ Some n
  where_passing true n rest e = refl
  where_passing false n rest e = absurd (false≢true e)

  where_failing : (b : Bool) (n : ℕ) (rest : Option ℕ) → b ≡ false → cond b (Some n) rest ≡ rest
  where_failing true n rest e = absurd (false≢true (sym e))
  where_failing false n rest e = refl

  unjoined : (a b : Bool) → not (a || b) ≡ true → (a ≡ false) × (not b ≡ true)
  unjoined true b e = absurd (false≢true e)
  unjoined false b e = (refl, e)

  first_place : (xs : List X) (n at : ℕ) → is_first test xs at ≡ true → first_where test n xs ≡ place_of xs (n + at) at
  first_place [] n at is = refl
  first_place (x ∷ xs) n zero is =
      let same : n ≡ n + 0 = omega arith in
      where_passing (test x) n (first_where test (n + 1) xs) (and_parts (test x) (not (list_any test [])) is).0 ∙ ap Some same
  first_place (x ∷ xs) n (suc at) is =
      let both = and_parts (passes_here test (slice_get xs at)) (not (test x || list_any test (take at xs))) is in
      let none = unjoined (test x) (list_any test (take at xs)) both.1 in
      let same : n + 1 + at ≡ n + suc at = omega arith in
      where_failing (test x) n (first_where test (n + 1) xs) none.0
      ∙ first_place xs (n + 1) at (and_from (passes_here test (slice_get xs at)) (not (list_any test (take at xs))) both.0 none.1)
      ∙ ap (λ k. place_of xs k at) same

-- ---- the map that applies
same_dir : (asked dir : Dir) → is_dir asked dir ≡ true → asked ≡ dir
same_dir In In is = refl
same_dir Out Out is = refl
same_dir In Out is = absurd (false≢true is)
same_dir Out In is = absurd (false≢true is)

module _ (config : RankedConfig) (facts : Facts) (ifid : IfId) where
  abbrev applies : Dir → Map → Bool
  applies dir map = map_applies config.tables.now facts ifid dir map

  -- in its own direction a packet is translated by the first map that applies
  translated_first : (dir : Dir) (at : ℕ) → is_translated config dir at facts ifid dir ≡ is_first (applies dir) config.model.now.maps at
  translated_first dir at = ap (λ b. is_first (λ map. b && applies dir map) config.model.now.maps at) (own dir)
    where
      own : (dir : Dir) → is_dir dir dir ≡ true
      own In = refl
      own Out = refl

  -- a map is asked only for packets of its direction
  dir_of_some : (asked dir : Dir) (at : ℕ) (found : Option Map) → slice_get config.model.now.maps at ≡ found → is_translated config asked at facts ifid dir ≡ true
      → (asked ≡ dir) ⊎ (found ≡ None)
  dir_of_some asked dir at None there is = inr refl
  dir_of_some asked dir at (Some map) there is =
      let test : Map → Bool = λ map. applies_in asked map config.tables.now facts ifid dir in
      let here = (and_parts (passes_here test (slice_get config.model.now.maps at)) (not (list_any test (take at config.model.now.maps))) is).0 in
      inl (same_dir asked dir (and_parts (is_dir asked dir) (applies dir map) (ap (passes_here test) (sym there) ∙ here)).0)

  pub place_translated : (dir : Dir) (at : ℕ) → is_translated config dir at facts ifid dir ≡ true → map_place_of (config_of config) facts ifid dir ≡ map_at config at
  place_translated dir at is =
      let same : 0 + at ≡ at = omega arith in
      first_place (applies dir) config.model.now.maps 0 at (sym (translated_first dir at) ∙ is) ∙ ap (λ k. place_of config.model.now.maps k at) same

  -- each packet has its place
  pub some_translated : (dir : Dir) → (at : ℕ) × (at ≤ map_count config) × (is_translated config dir at facts ifid dir ≡ true)
  some_translated dir =
      let first = some_first (applies dir) config.model.now.maps in
      (first.0, first.1, translated_first dir first.0 ∙ first.2)

  pub translated_place : (dir : Dir) (at : ℕ) → at ≤ map_count config → map_place_of (config_of config) facts ifid dir ≡ map_at config at
      → is_translated config dir at facts ifid dir ≡ true
  translated_place dir at low place =
      let some = some_translated dir in
      let same : some.0 ≡ at = same_place config.model.now.maps some.0 at some.1 low (sym (place_translated dir some.0 some.2) ∙ place) in
      subst (λ k. is_translated config dir k facts ifid dir ≡ true) same some.2

  -- what is written by the map of a place
  found_there : (at : ℕ) (found : Option Map) → slice_get config.model.now.maps at ≡ found
      → option_and_then (slice_get config.model.now.maps) (option_map (λ (map : Map). at) found) ≡ found
  found_there at None there = refl
  found_there at (Some map) there = there

  pub written_by : (dir : Dir) (at : ℕ) → map_place_of (config_of config) facts ifid dir ≡ map_at config at
      → map_effect_on (config_of config) facts ifid dir ≡ written_at config dir at
  written_by dir at place =
      ap (option_map (λ map. map_effect map dir))
      (ap (option_and_then (slice_get config.model.now.maps)) place ∙ found_there at (slice_get config.model.now.maps at) refl)

-- ---- a pair
module _ (comparison : MapComparison) (asked : Dir) (old new : ℕ) where
  abbrev before : RankedConfig
  before = comparison.before.config

  abbrev after : RankedConfig
  after = comparison.after.config

  -- what they write is the same
  pub none_differ : written_at before asked old ≡ written_at after asked new → (packet : CellPacket) → packet.dir ≡ asked → ¬ IsPairDifference comparison old new packet
  none_differ same packet dir is =
      is.otherwise (written_by before packet.facts packet.ifid packet.dir old is.by_old
      ∙ subst (λ d. written_at before d old ≡ written_at after d new) (sym dir) same
      ∙ sym (written_by after packet.facts packet.ifid packet.dir new is.by_new))

  module _ (by_old by_both : Packets) (is : IsComparison comparison) (other : ¬ written_at before asked old ≡ written_at after asked new)
      (first : (facts : Facts) (ifid : IfId) (dir : Dir) → IsPacket facts ifid
      → has_packet by_old facts ifid dir ≡ (has_packet comparison.packets facts ifid dir && is_translated before asked old facts ifid dir))
      (second : (facts : Facts) (ifid : IfId) (dir : Dir) → IsPacket facts ifid
      → has_packet by_both facts ifid dir ≡ (has_packet by_old facts ifid dir && is_translated after asked new facts ifid dir)) where
    -- the packet passes in this direction, as one of the maps is none's
    own_dir : (packet : CellPacket) → is_translated before asked old packet.facts packet.ifid packet.dir ≡ true
        → is_translated after asked new packet.facts packet.ifid packet.dir ≡ true → asked ≡ packet.dir
    own_dir packet one two = elim (dir_of_some before packet.facts packet.ifid asked packet.dir old (slice_get before.model.now.maps old) refl one) [
      | inl same ↦ same
      | inr nothing ↦ elim (dir_of_some after packet.facts packet.ifid asked packet.dir new (slice_get after.model.now.maps new) refl two) [
        | inl same ↦ same
        | inr neither ↦ absurd (other (ap (option_map (λ map. map_effect map asked)) nothing ∙ sym (ap (option_map (λ map. map_effect map asked)) neither)))
      ]
    ]

    pub pair_of : (packet : CellPacket) → IsAlikeAmong (config_before comparison) (config_after comparison) by_both packet → IsPairDifference comparison old new packet
    pair_of packet alike =
        let possible = alike.alike.possible in
        let parts = and_parts (has_packet by_old packet.facts packet.ifid packet.dir) (is_translated after asked new packet.facts packet.ifid packet.dir)
        (sym (second packet.facts packet.ifid packet.dir possible) ∙ alike.has) in
        let one = (and_parts (has_packet comparison.packets packet.facts packet.ifid packet.dir) (is_translated before asked old packet.facts packet.ifid packet.dir)
        (sym (first packet.facts packet.ifid packet.dir possible) ∙ parts.0)).1 in
        let dir : asked ≡ packet.dir = own_dir packet one parts.1 in
        let by_old = place_translated before packet.facts packet.ifid packet.dir old
        (subst (λ d. is_translated before d old packet.facts packet.ifid packet.dir ≡ true) dir one) in
        let by_new = place_translated after packet.facts packet.ifid packet.dir new
        (subst (λ d. is_translated after d new packet.facts packet.ifid packet.dir ≡ true) dir parts.1) in
        record {
          passed = alike.alike;
          by_old = by_old;
          by_new = by_new;
          otherwise = λ same. other (subst (λ d. written_at before d old ≡ written_at after d new) (sym dir)
              (sym (written_by before packet.facts packet.ifid packet.dir old by_old) ∙ same ∙ written_by after packet.facts packet.ifid packet.dir new by_new));
        }

    pub pair_found : (result : Result (Option CellPacket) Stopped)
        → IfOk result (λ found. IfSome found (IsAlikeAmong (config_before comparison) (config_after comparison) by_both))
        → IfOk result (λ found. IfSome found (IsPairDifference comparison old new))
    pair_found (Ok (Some packet)) alike = pair_of packet alike
    pair_found (Ok None) alike = alike
    pair_found (Err stopped) alike = alike

    pub pair_none : old ≤ map_count before → new ≤ map_count after
        → ((packet : CellPacket) → ¬ IsAlikeAmong (config_before comparison) (config_after comparison) by_both packet)
        → (packet : CellPacket) → packet.dir ≡ asked → ¬ IsPairDifference comparison old new packet
    pair_none low below none packet dir differs =
        let possible = differs.passed.possible in
        let one : is_translated before asked old packet.facts packet.ifid packet.dir ≡ true =
        subst (λ d. is_translated before d old packet.facts packet.ifid packet.dir ≡ true) dir
        (translated_place before packet.facts packet.ifid packet.dir old low differs.by_old) in
        let two : is_translated after asked new packet.facts packet.ifid packet.dir ≡ true =
        subst (λ d. is_translated after d new packet.facts packet.ifid packet.dir ≡ true) dir
        (translated_place after packet.facts packet.ifid packet.dir new below differs.by_new) in
        none packet (record {
          has = second packet.facts packet.ifid packet.dir possible
              ∙ and_from (has_packet by_old packet.facts packet.ifid packet.dir) (is_translated after asked new packet.facts packet.ifid packet.dir)
              (first packet.facts packet.ifid packet.dir possible
              ∙ and_from (has_packet comparison.packets packet.facts packet.ifid packet.dir) (is_translated before asked old packet.facts packet.ifid packet.dir)
              (is.all packet.facts packet.ifid packet.dir possible) one) two;
          alike = differs.passed;
        })

-- in one direction or the other
pub none_either : (comparison : MapComparison) (old new : ℕ) → ((packet : CellPacket) → packet.dir ≡ Out → ¬ IsPairDifference comparison old new packet)
    → ((packet : CellPacket) → packet.dir ≡ In → ¬ IsPairDifference comparison old new packet) → (packet : CellPacket) → ¬ IsPairDifference comparison old new packet
none_either comparison old new outward inward packet is = by packet.dir refl where
  by : (dir : Dir) → packet.dir ≡ dir → ⊥
  by Out same = outward packet same is
  by In same = inward packet same is
