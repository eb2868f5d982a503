-- The differences so far, pair by pair.
use Rattle.std.proofs.Common.{◌≡◌, ℕ, ◌+◌, ◌<◌, ◌≤◌, List, [], ◌∷◌, ◌++◌, Option, None, map, get_or, slice_get, refl, sym, subst, ap, ap₂, ◌∙◌, ◌⊎◌, inl, inr, arith}
use Rattle.std.specs.{List.{Contains}, Option.{option_and_then, option_map}}
use Rattle.std.proofs.lemmas.Bool.{cases_eq}
use Rattle.std.proofs.lemmas.List.{map-append}
use Rattle.std.proofs.lemmas.List.Elements.{All-nil, All-push, All-weaker, Contains-append_left, Contains-push}
use Rattle.std.proofs.lemmas.List.Quantifiers.{all_pairs_push}
use Rattle.npf_types.specs.declared.{direction.Dir.Dir, facts.Facts.Facts, interface.IfId.IfId}
use Rattle.npf_model.specs.{Configuration.{Configuration}, MapOf.map_of}
use Rattle.npf_treatment.specs.Treatment.{map_effect}
use Rattle.npf_products.specs.declared.packet.CellPacket.{CellPacket}
use Rattle.npf_compare_maps.specs.declared.{comparison.MapComparison.MapComparison, difference.MapDifference.MapDifference, side.RankedConfig.RankedConfig}
use Rattle.npf_compare_maps.specs.MapDifference.{AreMapDifferences, IsEarlierMap, IsMapDifference, IsToldBefore, map_effect_on, map_pair}
use Rattle.npf_compare_maps.specs.Side.{AreToldUpTo, IsInFront, IsPairBefore, IsPairDifference, config_after, config_before, map_at, map_count}
use Rattle.npf_compare_maps.proofs.PairLemmas.{earlier_place, place_translated, some_translated}

-- a pair in front of the next one of a row is in front of this one, or is this one
before_next : (i j old new : ℕ) → IsPairBefore i j old (new + 1) → IsPairBefore i j old new ⊎ ((i ≡ old) × (j ≡ new))
before_next i j old new (inl less) = inl (inl less)
before_next i j old new (inr (same, low)) = elim (cases_eq j new) [
  | inl here ↦ inr (same, here)
  | inr other ↦ inl (inr (same, omega (arith, low, other)))
]

still_before : (i j old new : ℕ) → IsPairBefore i j old new → IsPairBefore i j old (new + 1)
still_before i j old new (inl less) = inl less
still_before i j old new (inr (same, low)) = inr (same, omega (arith, low))

module _ (comparison : MapComparison) where
  abbrev before : RankedConfig
  before = comparison.before.config

  abbrev after : RankedConfig
  after = comparison.after.config

  pub told_nothing : AreToldUpTo comparison 0 0 []
  told_nothing = record {
    each = All-nil _;
    front = All-nil _;
    whole = λ i j packet front low is. absurd (none i j front);
    ordered = λ i j d less low. absurd (omega (arith, low));
  }
    where
      none : (i j : ℕ) → IsPairBefore i j 0 0 → ⊥
      none i j (inl less) = omega (arith, less)
      none i j (inr (same, less)) = omega (arith, less)

  in_front_next : (old new : ℕ) (difference : MapDifference) → IsInFront comparison old new difference → IsInFront comparison old (new + 1) difference
  in_front_next old new difference is = record {
    i = is.i;
    j = is.j;
    front = still_before is.i is.j old new is.front;
    old_within = is.old_within;
    new_within = is.new_within;
    old_is = is.old_is;
    new_is = is.new_is;
  }

  -- one of a pair in front is told before one of this pair
  told_before : (old new : ℕ) → old ≤ map_count before → new ≤ map_count after → (one other : MapDifference) → IsInFront comparison old new one
      → other.old ≡ map_at before old → other.new ≡ map_at after new → IsToldBefore one other
  told_before old new low below one other is old_is new_is = by is.front where
    by : IsPairBefore is.i is.j old new → IsToldBefore one other
    by (inl less) =
        inl (subst (λ o. IsEarlierMap o other.old) (sym is.old_is)
        (subst (IsEarlierMap (map_at before is.i)) (sym old_is) (earlier_place before.model.now.maps is.i old less low)))
    by (inr (same, less)) = inr (
      is.old_is ∙ ap (map_at before) same ∙ sym old_is,
      subst (λ o. IsEarlierMap o other.new) (sym is.new_is)
          (subst (IsEarlierMap (map_at after is.j)) (sym new_is) (earlier_place after.model.now.maps is.j new less below)),
    )

  module _ (old new : ℕ) (low : old ≤ map_count before) (below : new ≤ map_count after) (differences : List MapDifference)
      (told : AreToldUpTo comparison old new differences) where
    -- there is none of this pair
    pub told_none : ((packet : CellPacket) → ¬ IsPairDifference comparison old new packet) → AreToldUpTo comparison old (new + 1) differences
    told_none none = record {
      each = told.each;
      front = All-weaker _ _ (in_front_next old new) differences told.front;
      whole = λ i j packet front within is. elim (before_next i j old new front) [
        | inl earlier ↦ told.whole i j packet earlier within is
        | inr (same, here) ↦ absurd (none packet (subst (λ m. IsPairDifference comparison m new packet) same (subst (λ n. IsPairDifference comparison i n packet) here is)))
      ];
      ordered = told.ordered;
    }

    -- one of this pair is told
    pub told_more : (packet : CellPacket) → IsPairDifference comparison old new packet
        → AreToldUpTo comparison old (new + 1) (differences ++ record { old = map_at before old; new = map_at after new; packet = packet } ∷ [])
    told_more packet differs =
        let one : MapDifference = record { old = map_at before old; new = map_at after new; packet = packet } in
        let pushed : map map_pair (differences ++ one ∷ []) ≡ map map_pair differences ++ map_pair one ∷ [] = map-append map_pair differences (one ∷ []) in
        record {
          each = All-push (IsMapDifference (config_before comparison) (config_after comparison)) differences one told.each differs;
          front = All-push (IsInFront comparison old (new + 1)) differences one (All-weaker _ _ (in_front_next old new) differences told.front) (record {
            i = old;
            j = new;
            front = inr (refl, omega arith);
            old_within = low;
            new_within = below;
            old_is = refl;
            new_is = refl;
          });
          whole = λ i j other front within is. subst (λ all. Contains all (map_at before i, map_at after j)) (sym pushed) (elim (before_next i j old new front) [
            | inl earlier ↦ Contains-append_left (map map_pair differences) (map_pair one ∷ []) (map_at before i, map_at after j) (told.whole i j other earlier within is)
            | inr (same, here) ↦ subst (Contains (map map_pair differences ++ map_pair one ∷ [])) (sym (ap₂ (λ m n. (map_at before m, map_at after n)) same here))
                (Contains-push (map map_pair differences) (map_pair one))
          ]);
          ordered = all_pairs_push IsToldBefore differences one told.ordered
              (λ k d inside. told_before old new low below (get_or differences k d) one (told.front k d inside) refl refl);
        }

    pub told_pushed : (packet : CellPacket) (one other : Option ℕ) (pushed : List MapDifference) → one ≡ map_at before old → other ≡ map_at after new
        → pushed ≡ differences ++ record { old = one; new = other; packet = packet } ∷ [] → IsPairDifference comparison old new packet
        → AreToldUpTo comparison old (new + 1) pushed
    told_pushed packet one other pushed is too items differs =
        subst (AreToldUpTo comparison old (new + 1)) (sym (items ∙ ap₂ (λ m n. differences ++ record { old = m; new = n; packet = packet } ∷ []) is too)) (told_more packet differs)

  -- a row is told
  pub told_row : (old new : ℕ) (differences : List MapDifference) → map_count after < new → AreToldUpTo comparison old new differences
      → AreToldUpTo comparison (old + 1) 0 differences
  told_row old new differences past told = record {
    each = told.each;
    front = All-weaker (IsInFront comparison old new) (IsInFront comparison (old + 1) 0) in_front_row differences told.front;
    whole = λ i j packet front within is. told.whole i j packet (back i j within front) within is;
    ordered = told.ordered;
  }
    where
      next : (i j : ℕ) → IsPairBefore i j old new → IsPairBefore i j (old + 1) 0
      next i j (inl less) = inl (omega (arith, less))
      next i j (inr (same, less)) = inl (omega (arith, same))

      in_front_row : (difference : MapDifference) → IsInFront comparison old new difference → IsInFront comparison (old + 1) 0 difference
      in_front_row difference is = record {
        i = is.i;
        j = is.j;
        front = next is.i is.j is.front;
        old_within = is.old_within;
        new_within = is.new_within;
        old_is = is.old_is;
        new_is = is.new_is;
      }

      back : (i j : ℕ) → j ≤ map_count after → IsPairBefore i j (old + 1) 0 → IsPairBefore i j old new
      back i j within (inr (same, less)) = absurd (omega (arith, less))
      back i j within (inl less) = elim (cases_eq i old) [
        | inl here ↦ inr (here, omega (arith, within, past))
        | inr other ↦ inl (omega (arith, less, other))
      ]

  -- all rows are
  pub told_all : (old : ℕ) (differences : List MapDifference) → map_count before < old → AreToldUpTo comparison old 0 differences
      → AreMapDifferences (config_before comparison) (config_after comparison) differences
  told_all old differences past told = record {
    each = told.each;
    whole = λ facts ifid dir passed otherwise.
        let one = some_translated before facts ifid dir in
        let other = some_translated after facts ifid dir in
        let by_old = place_translated before facts ifid dir one.0 one.2 in
        let by_new = place_translated after facts ifid dir other.0 other.2 in
        subst (Contains (map map_pair differences)) (ap₂ (λ m n. (m, n)) (sym by_old) (sym by_new))
        (told.whole one.0 other.0 (record { facts = facts; ifid = ifid; dir = dir }) (inl (omega (arith, one.1, past))) other.1
        (record { passed = passed; by_old = by_old; by_new = by_new; otherwise = otherwise }));
    ordered = told.ordered;
  }

-- ---- where neither has maps
unwritten : (config : Configuration) → config.model.maps ≡ [] → (facts : Facts) (ifid : IfId) (dir : Dir) → map_effect_on config facts ifid dir ≡ None
unwritten config none facts ifid dir =
    ap (λ maps. option_map (λ map. map_effect map dir) (option_and_then (slice_get maps) (map_of config.tables facts ifid dir maps))) none

pub no_differences : (old new : Configuration) → old.model.maps ≡ [] → new.model.maps ≡ [] → AreMapDifferences old new []
no_differences old new none neither = record {
  each = All-nil _;
  whole = λ facts ifid dir passed otherwise. absurd (otherwise (unwritten old none facts ifid dir ∙ sym (unwritten new neither facts ifid dir)));
  ordered = λ i j d less low. absurd (omega (arith, low));
}
