-- Pieces that are sorted by their keys and, where these are the same, by their places: those of one key are in the order in which
-- they came, if the places tell it.
use Rattle.std.proofs.Common.{◌≡◌, ℕ, ◌+◌, ◌<◌, ◌≤◌, ◌==◌, ◌∙◌, ⊎_elim, Bool, true, false, refl, sym, ap, List, length, get_or, arith}
use Rattle.std.specs.{Prelude.{IsPermutation, filter}, Cmp.{IsTotalOrder, Lexicographic.slice_cmp}, List.Sorted.{IsNonDecreasingBy, IsSortedBy, IsSortedByKey}}
use Rattle.std.specs.{Ordering.{is_lt, nat_cmp, ordering_then}, declared.cmp.Ordering.{Ordering, TheVariants.{Less, Equal, Greater}}}
use Rattle.std.proofs.lemmas.{Bool.cases_lt, Cmp.{nat_cmp_total, nat_list_cmp_total, on_total, then_total}, List.Elements.{All-get_or, filter_passes}}
use Rattle.std.proofs.lemmas.List.{Kept.IsSortedBy-filter, Sorted.{IsNonDecreasingBy-from_all_adjacent, ranks_by}}
use Rattle.npf_shelf.proofs.BoolLemmas.{is_lt-nat_cmp}
use Rattle.npf_pieces.specs.declared.{arrived.Arrived.Arrived, piece.FragKey.FragKey}
use Rattle.npf_reass_sets.specs.{Class.same_key, Key.{key_numbers, of_key}, Order.{AreByPlace, SortsByKey, is_key_below}}
use Rattle.npf_reass_sets.proofs.{FilterLemmas.{few_same, filters_swap}, KeyLemmas.key_cmp}
use Rattle.npf_reass_sets.proofs.{RiseLemmas.{dont_fall, one_at_most, one_order, rise_filter, rise_from_pairs}, RunLemmas.{equal_of, same_on}}

-- the numbers by which pieces are sorted, and their order
abbrev pub sort_numbers : Arrived → List ℕ × ℕ
sort_numbers a = (key_numbers a.piece.key, a.place)

abbrev pub sort_cmp : List ℕ × ℕ → List ℕ × ℕ → Ordering
sort_cmp x y = ordering_then (slice_cmp nat_cmp x.0 y.0) (nat_cmp x.1 y.1)

sort_total : IsTotalOrder sort_cmp
sort_total =
    then_total
    (on_total (λ (x : List ℕ × ℕ). x.0) nat_list_cmp_total) (on_total (λ (x : List ℕ × ℕ). x.1) nat_cmp_total)

not_first : (o p : Ordering) → is_lt (ordering_then o p) ≡ false → is_lt o ≡ false
not_first Less p h = h
not_first Equal p h = refl
not_first Greater p h = refl

not_second : (o p : Ordering) → o ≡ Equal → is_lt (ordering_then o p) ≡ false → is_lt p ≡ false
not_second Less p e h = absurd (grind (arith, e))
not_second Equal p e h = h
not_second Greater p e h = absurd (grind (arith, e))

not_less : (m n : ℕ) → is_lt (nat_cmp m n) ≡ false → n ≤ m
not_less m n h =
    ⊎_elim (λ (less : m < n). absurd (grind (arith, sym (is_lt-nat_cmp m n less) ∙ h)))
    (λ (most : n ≤ m). most)
    (cases_lt m n)

abbrev place_of : Arrived → ℕ
place_of a = a.place

module _ (old new : List Arrived) (same : IsPermutation old new) (sorted : IsSortedByKey sort_numbers sort_cmp new) (order : AreByPlace old) where
  by_key : IsSortedBy is_key_below new
  by_key k d low h =
      let x = get_or new (k + 1) d in
      let y = get_or new k d in
      not_first (key_cmp x y) (nat_cmp x.place y.place) (sorted k d low h)

  module _ (key : FragKey) where
    abbrev one : Arrived
    one = record { place = 0; time = 0; piece = record { key = key; from = 0; last = false; ip_at = 0; next_at = 0; next = 0; head_end = 0; data_at = 0; end = 0 } }

    abbrev test : Arrived → Bool
    test = same_key one

    abbrev below : Arrived → Arrived → Bool
    below x y = is_lt (sort_cmp (sort_numbers x) (sort_numbers y))

    mine_sorted : IsSortedBy below (of_key key new)
    mine_sorted = IsSortedBy-filter below (ranks_by sort_total sort_numbers) test new sorted

    places_up : IsNonDecreasingBy place_of (of_key key new)
    places_up = IsNonDecreasingBy-from_all_adjacent place_of (of_key key new) (λ k d h.
        let mine = of_key key new in
        let x = get_or mine (k + 1) d in
        let y = get_or mine k d in
        let passes = λ (i : ℕ) (below : i < length mine). All-get_or (λ (a : Arrived). test a ≡ true) mine i d below (filter_passes test new) in
        let x_is : same_key one x ≡ true = passes (k + 1) h in
        let y_is : same_key one y ≡ true = passes k (omega (arith, h)) in
        let equal = equal_of x y (sym (same_on one x y x_is) ∙ y_is) in
        not_less x.place y.place (not_second (key_cmp x y) (nat_cmp x.place y.place) equal (mine_sorted k d (omega arith) h)))

    stays : of_key key new ≡ of_key key old
    stays =
        let rise = rise_from_pairs place_of old order in
        one_order place_of (of_key key new) (of_key key old) (dont_fall place_of (of_key key new) places_up) (rise_filter place_of test old rise) (λ n.
        let at = λ (a : Arrived). a.place == n in
        filters_swap at test new
        ∙ ap (filter test) (few_same at old new same (one_at_most place_of n old rise))
        ∙ sym (filters_swap at test old))

  pub sorted_in_place : SortsByKey old new
  sorted_in_place = record { sorted = by_key; stable = stays }
