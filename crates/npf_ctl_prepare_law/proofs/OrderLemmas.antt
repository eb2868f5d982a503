-- A list is sorted by keys in one way, where elements with one key stay as they stood.
use Rattle.std.proofs.Common.{◌≡◌, ◌<◌, ◌≤◌, ℕ, Bool, true, false, inl, inr, List, [], ◌∷◌, length, refl, sym, ap, ◌∙◌, arith}
use Rattle.std.specs.{Prelude.{⊤, cond, nat_lt, ◌==◌, ◌⊎◌, suc, slice_index_or}, List.{filter, Sorted.{IsNonDecreasingBy, IsSortedByKey, IsStableByKey, ties}}}
use Rattle.std.{specs.{Ordering.{is_lt, nat_cmp}, declared.cmp.Ordering.TheVariants.{Less, Equal, Greater}}, proofs.lemmas.Bool.{cases_order, ltb-true}}
use Rattle.std.proofs.lemmas.List.Sorted.{IsNonDecreasingBy-from_sort, IsNonDecreasingBy-drop}
use Rattle.npf_shelf.proofs.BoolLemmas.{is_lt-nat_cmp}

-- elements of one key tie, and none ties with one of a greater key
module _ {X : Type 0} (key : X → ℕ) (tie : X → X → Bool) (same_key : (x y : X) → key x ≡ key y → tie x y ≡ true) (apart : (x y : X) → key x < key y → tie x y ≡ false) where
  -- each key of the list is at least this
  abbrev AreFrom : ℕ → List X → Type 0
  AreFrom low [] = ⊤
  AreFrom low (x ∷ xs) = (low ≤ key x) × AreFrom low xs

  -- and so from each element on
  abbrev pub Rise : List X → Type 0
  Rise [] = ⊤
  Rise (x ∷ xs) = AreFrom (key x) xs × Rise xs

  passed_by : (x : X) (ys : List X) (low : ℕ) → key x < low → AreFrom low ys → filter (tie x) ys ≡ []
  passed_by x [] low less from = refl
  passed_by x (y ∷ ys) low less from = ap (λ (passes : Bool). cond passes (y ∷ filter (tie x) ys) (filter (tie x) ys)) (apart x y (omega (arith, less, from.0))) ∙ passed_by x ys low less from.1

  kept : (x y : X) (ys : List X) → key x ≡ key y → filter (tie x) (y ∷ ys) ≡ y ∷ filter (tie x) ys
  kept x y ys same = ap (λ (passes : Bool). cond passes (y ∷ filter (tie x) ys) (filter (tie x) ys)) (same_key x y same)

  head : (x y : X) (xs ys : List X) → x ∷ xs ≡ y ∷ ys → x ≡ y
  head x y xs ys same = cc

  tail : (x y : X) (xs ys : List X) → x ∷ xs ≡ y ∷ ys → xs ≡ ys
  tail x y xs ys same = cc

  -- without an element in front, which passes in both or in neither
  rest : (x : X) (xs ys : List X) (z : X) → filter (tie z) (x ∷ xs) ≡ filter (tie z) (x ∷ ys) → filter (tie z) xs ≡ filter (tie z) ys
  rest x xs ys z = by (tie z x)
    where
      by : (passes : Bool) → cond passes (x ∷ filter (tie z) xs) (filter (tie z) xs) ≡ cond passes (x ∷ filter (tie z) ys) (filter (tie z) ys) → filter (tie z) xs ≡ filter (tie z) ys
      by true same = tail x x _ _ same
      by false same = same

  never : (x : X) (xs ys : List X) → filter (tie x) (x ∷ xs) ≡ filter (tie x) ys → filter (tie x) ys ≡ [] → ⊥
  never x xs ys same none = let empty : x ∷ filter (tie x) xs ≡ [] = sym (kept x x xs refl) ∙ same ∙ none in cc

  -- lists whose keys rise are one where they have the same elements of each key, in the same order
  one_order : (xs ys : List X) → Rise xs → Rise ys → ((z : X) → filter (tie z) xs ≡ filter (tie z) ys) → xs ≡ ys
  one_order [] [] rise rises same = refl
  one_order [] (y ∷ ys) rise rises same = absurd (never y ys [] (sym (same y)) refl)
  one_order (x ∷ xs) [] rise rises same = absurd (never x xs [] (same x) refl)
  one_order (x ∷ xs) (y ∷ ys) rise rises same =
      by (cases_order (key x) (key y)) (λ behind. one_order xs ys rise.1 rises.1 behind)
    where
      by : (key x ≡ key y) ⊎ ((key x < key y) ⊎ (key y < key x)) → (((z : X) → filter (tie z) xs ≡ filter (tie z) ys) → xs ≡ ys) → x ∷ xs ≡ y ∷ ys
      by (inl one) then_behind =
          let first : x ≡ y = head x y _ _ (sym (kept x x xs refl) ∙ same x ∙ kept x y ys one) in
          let behind : xs ≡ ys = then_behind (λ z. rest x xs ys z (same z ∙ ap (λ (w : X). filter (tie z) (w ∷ ys)) (sym first))) in
          ap (λ (w : X). w ∷ xs) first ∙ ap (λ (zs : List X). y ∷ zs) behind
      by (inr (inl less)) _ = absurd (never x xs (y ∷ ys) (same x) (passed_by x (y ∷ ys) (key y) less (omega arith, rises.0)))
      by (inr (inr more)) _ = absurd (never y ys (x ∷ xs) (sym (same y)) (passed_by y (x ∷ xs) (key x) more (omega arith, rise.0)))

  -- and so from a list whose numbers don't fall
  from_all : (low : ℕ) (xs : List X) → ((j : ℕ) (d : X) → j < length xs → low ≤ key (slice_index_or xs j d)) → AreFrom low xs
  from_all low [] all = tt
  from_all low (x ∷ xs) all = (all 0 x (omega arith), from_all low xs (λ j d below. all (suc j) d (omega (arith, below))))

  rises : (xs : List X) → IsNonDecreasingBy key xs → Rise xs
  rises [] up = tt
  rises (x ∷ xs) up = (from_all (key x) xs (λ j d below. up 0 (suc j) d (omega arith) (omega (arith, below))), rises xs (IsNonDecreasingBy-drop key 1 (x ∷ xs) up))

not_below : (test : Bool) → is_lt (cond test Equal Greater) ≡ false
not_below true = refl
not_below false = refl

not_less : (m n : ℕ) → n ≤ m → is_lt (nat_cmp m n) ≡ false
not_less m n most = by (nat_lt m n) refl most
  where
    by : (test : Bool) → nat_lt m n ≡ test → n ≤ m → is_lt (cond test Less (cond (m == n) Equal Greater)) ≡ false
    by true is most = absurd (omega (arith, ltb-true m n is, most))
    by false is most = not_below (m == n)

module _ {X : Type 0} (key : X → ℕ) where
  abbrev tie : X → X → Bool
  tie = ties (λ x y. is_lt (nat_cmp (key x) (key y)))

  same_key : (x y : X) → key x ≡ key y → tie x y ≡ true
  same_key x y same = rw (not_less (key x) (key y) (omega (arith, same)), not_less (key y) (key x) (omega (arith, same))) refl

  apart : (x y : X) → key x < key y → tie x y ≡ false
  apart x y less = rw (is_lt-nat_cmp (key x) (key y) less) refl

  -- what a stable sort by numbers makes of a list is one
  pub one_sorting : (xs ys zs : List X) → IsSortedByKey key nat_cmp ys → IsSortedByKey key nat_cmp zs → IsStableByKey key nat_cmp xs ys
      → IsStableByKey key nat_cmp xs zs → ys ≡ zs
  one_sorting xs ys zs sorted sorts stable stays =
      one_order key tie same_key apart ys zs (rises key tie same_key apart ys (IsNonDecreasingBy-from_sort key ys sorted))
      (rises key tie same_key apart zs (IsNonDecreasingBy-from_sort key zs sorts)) (λ x. stable x ∙ sym (stays x))
