-- How far the sets of a class are found follows each key, and what is found of all is what is decided.
use Rattle.std.proofs.Common.{◌≡◌, ℕ, ◌+◌, ◌-◌, ◌<◌, ◌≤◌, ◌∙◌, refl, sym, ap, subst, ⊎_elim, List, [], ◌∷◌, ◌++◌, length, drop, get_or, length-drop, arith}
use Rattle.std.{specs.{Prelude.{All, Contains, map, slice_range}, List.Sorted.IsPermutation}, proofs.lemmas.Bool.cases_lt}
use Rattle.std.proofs.lemmas.List.{get_or-drop, get_or-take, get_or_default, length-take, Elements.{All-append, All-nil, Contains-get_or}}
use Rattle.std.proofs.lemmas.List.Sorted.{Contains-permutation}
use Rattle.npf_pieces.specs.{declared.arrived.{Arrived.Arrived, SetAt.SetAt}, Sets.{Set, StandsIn, set_at, sets_from}}
use Rattle.npf_reass_sets.specs.{declared.class.ClassSets.ClassSets, Among.IsSetAmong, Class.{DecidesClass, IsInSet, IsRunOfKey, class_sets}, Found.HasFound}
use Rattle.npf_reass_sets.{specs.{Key.of_key, Order.SortsByKey}, proofs.{CoverLemmas.{all_in_sets, in_left, in_right}, RunLemmas.{run_is_key, splits_behind}}}

some : (xs : List Arrived) → 0 < length xs → Arrived
some [] h = absurd (omega (arith, h))
some (a ∷ xs) h = a

module _ (old all : List Arrived) (sorts : SortsByKey old all) (from to : ℕ) (sets more : List Set) (found : HasFound old all from sets)
    (run : IsRunOfKey all from to) (is : more ≡ sets ++ sets_from [] (slice_range all from to)) where
  module _ (d : Arrived) where
    key_run : slice_range all from to ≡ of_key (get_or all from d).piece.key old
    key_run = sym (run_is_key all sorts.sorted from to found.splits run d) ∙ sorts.stable (get_or all from d).piece.key

    own_sets : All (IsSetAmong old) (sets_from [] (slice_range all from to))
    own_sets k e h =
        let own = sets_from [] (slice_range all from to) in
        let there = Contains-get_or own k e h in
        let set : IsSetAmong old (get_or own k e) = record {
          key = (get_or all from d).piece.key;
          is = subst (λ (list : List Arrived). Contains (sets_from [] list) (get_or own k e)) key_run there;
        } in set

  in_run : (k : ℕ) (d : Arrived) → from ≤ k → k < to → IsInSet (sets_from [] (slice_range all from to)) (get_or all k d)
  in_run k d low high = all_in_sets (slice_range all from to) [] (get_or all k d) (among k d low high)
    where
      among : (k : ℕ) (d : Arrived) → from ≤ k → k < to → Contains (slice_range all from to) (get_or all k d)
      among k d low high =
          let x = get_or all k d in
          let at : from + (k - from) ≡ k = omega (arith, low) in
          let below : k - from < to - from = omega (arith, low, high) in
          let long : k - from < length (slice_range all from to) =
          omega (arith, below, length-take (to - from) (drop from all), length-drop from all, run.within, high, low) in (
            k - from,
            long,
            get_or-take (to - from) (drop from all) (k - from) x below ∙ get_or-drop from all (k - from) x
                ∙ ap (λ (n : ℕ). get_or all n x) at ∙ get_or_default all k x d (omega (arith, high, run.within)),
          )

  pub found_more : HasFound old all to more
  found_more = record {
    within = run.within;
    splits = splits_behind all sorts.sorted from to found.splits run;
    sound = rw is (All-append (IsSetAmong old) sets (sets_from [] (slice_range all from to)) found.sound (own_sets (some all (omega (arith, run.order, run.within)))));
    each = λ k e h. rw is (⊎_elim
        (λ (lt : k < from). in_left sets (sets_from [] (slice_range all from to)) (get_or all k e) (found.each k e lt))
        (λ (le : from ≤ k). in_right sets (sets_from [] (slice_range all from to)) (get_or all k e) (in_run k e le h))
        (cases_lt k from));
  }

-- nothing is found in front of the first
pub found_none : (old all : List Arrived) → HasFound old all 0 []
found_none old all = record {
  within = omega arith;
  splits = λ i j d below behind h. absurd (omega (arith, below));
  sound = All-nil (IsSetAmong old);
  each = λ k d h. absurd (omega (arith, h));
}

-- what is found of all is what is decided
pub decided : (old all : List Arrived) (sets : List SetAt) → IsPermutation old all → SortsByKey old all
    → ((from : List Arrived) → SortsByKey from all → HasFound from all (length all) (map (set_at all) sets)) → All (StandsIn (length all)) sets
    → (class : ClassSets) → class.arrived.items ≡ all → class.sets.items ≡ sets → DecidesClass old class
decided old all sets same sorts found places class arrived is =
    let f = found old sorts in
    let is_all : class_sets class ≡ map (set_at all) sets = rw arrived (rw is refl) in
    record {
      same = rw arrived same;
      places = rw arrived (rw is places);
      sets = rw is_all f.sound;
      each = rw is_all (λ k d h.
          let there = Contains-permutation old all (get_or old k d) same (Contains-get_or old k d h) in
          subst (IsInSet (map (set_at all) sets)) there.2 (f.each there.0 (get_or old k d) there.1));
    }
