-- The order of keys, and their sameness.
use Rattle.std.{proofs.Common.{◌≡◌, ℕ, ◌∙◌, true, false, refl, ap, nat_eq, List, arith}, specs.Cmp.Lexicographic.{pointwise, slice_cmp}}
use Rattle.std.specs.{Ordering.{is_eq, is_gt, is_lt, nat_cmp, ordering_reverse}, declared.cmp.Ordering.{Ordering, TheVariants.{Less, Equal, Greater}}}
use Rattle.std.proofs.lemmas.{Bool.Decides.nat_tests, Cmp.{nat_list_cmp_total, same_from_slice_cmp}}
use Rattle.npf_pieces.specs.declared.arrived.Arrived.{Arrived}
use Rattle.npf_reass_sets.specs.{Class.same_key, Key.key_numbers, Order.is_key_below}

-- how the keys of two pieces stand
abbrev pub key_cmp : Arrived → Arrived → Ordering
key_cmp a b = slice_cmp nat_cmp (key_numbers a.piece.key) (key_numbers b.piece.key)

equal_lists : (xs ys : List ℕ) → is_eq (slice_cmp nat_cmp xs ys) ≡ pointwise nat_eq xs ys
equal_lists xs ys =
    same_from_slice_cmp nat_cmp is_eq (pointwise nat_eq) refl (λ _ _. refl) (λ _ _. refl)
    (λ x y xs ys o h. grind (arith, nat_tests)) xs ys (slice_cmp nat_cmp xs ys) refl

pub same_is_equal : (a b : Arrived) → is_eq (key_cmp a b) ≡ same_key a b
same_is_equal a b = equal_lists (key_numbers a.piece.key) (key_numbers b.piece.key)

turned : (r : Ordering) → is_gt (ordering_reverse r) ≡ is_lt r
turned Less = refl
turned Equal = refl
turned Greater = refl

pub above_is_below : (a b : Arrived) → is_gt (key_cmp a b) ≡ is_key_below b a
above_is_below a b =
    ap is_gt (nat_list_cmp_total.antisymm (key_numbers a.piece.key) (key_numbers b.piece.key)) ∙ turned (key_cmp b a)

pub between : (r : Ordering) → is_lt r ≡ false → is_gt r ≡ false → is_eq r ≡ true
between Less h k = grind (arith, h)
between Equal h k = refl
between Greater h k = grind (arith, k)
