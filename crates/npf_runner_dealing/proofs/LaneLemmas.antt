-- Items that go to lanes, one after the other.
use Rattle.std.proofs.Common.{◌≡◌, ℕ, ◌==◌, ◌<◌, Bool, true, false, List, [], ◌∷◌, ◌++◌, All, refl, sym, ap, subst, ◌∙◌, map, drop, set, get_or, length, arith, suc, zero}
use Rattle.std.proofs.lemmas.{Bool.Decides.Decides-eqb, List.{append_assoc, get_or-set_same, get_or-set_other, length-set, get_or_default}}
use Rattle.std.proofs.lemmas.List.Elements.{All-head, All-tail}
use Rattle.npf_runner_dealing.specs.Lanes.{of_lane, IsDealt}

pub get_or-map : {X Y : Type 0} (f : X → Y) (xs : List X) (i : ℕ) (d : X) (e : Y) → i < length xs → get_or (map f xs) i e ≡ f (get_or xs i d)
get_or-map f [] i d e low = absurd (omega arith)
get_or-map f (x ∷ xs) zero d e low = refl
get_or-map f (x ∷ xs) (suc i) d e low = get_or-map f xs i d e (omega arith)

not_equal : (m n : ℕ) → (m == n) ≡ false → ¬ (n ≡ m)
not_equal m n is e = let yes : (m == n) ≡ true = (Decides-eqb m n).1 (sym e) in let no : true ≡ false = sym yes ∙ is in absurd cc

module _ {X : Type 0} where
  pub of_lane-yes : (v w : ℕ) (o : List ℕ) (x : X) (xs : List X) → (v == w) ≡ true → of_lane w (v ∷ o) (x ∷ xs) ≡ x ∷ of_lane w o xs
  of_lane-yes v w o x xs is = rw is refl

  pub of_lane-no : (v w : ℕ) (o : List ℕ) (x : X) (xs : List X) → (v == w) ≡ false → of_lane w (v ∷ o) (x ∷ xs) ≡ of_lane w o xs
  of_lane-no v w o x xs is = rw is refl

  pub of_lane-same : (v : ℕ) (o : List ℕ) (x : X) (xs : List X) → of_lane v (v ∷ o) (x ∷ xs) ≡ x ∷ of_lane v o xs
  of_lane-same v o x xs = of_lane-yes v v o x xs ((Decides-eqb v v).1 refl)

  -- one more item goes to the end of its lane
  pub dealt_more : (v : ℕ) (o : List ℕ) (x : X) (xs : List X) (lanes : List (List X)) (lane : List X) → v < length lanes → lane ≡ get_or lanes v lane →
      (w : ℕ) (d : List X) → get_or lanes w d ++ of_lane w (v ∷ o) (x ∷ xs) ≡ get_or (set lanes v (lane ++ x ∷ [])) w d ++ of_lane w o xs
  dealt_more v o x xs lanes lane low at w d = by_test (v == w) refl
    where
      by_test : (test : Bool) → (v == w) ≡ test → get_or lanes w d ++ of_lane w (v ∷ o) (x ∷ xs) ≡ get_or (set lanes v (lane ++ x ∷ [])) w d ++ of_lane w o xs
      by_test true is =
          let same : v ≡ w = (Decides-eqb v w).0 is in
          let old : get_or lanes v d ≡ lane = get_or_default lanes v d lane low ∙ sym at in
          let new : get_or (set lanes v (lane ++ x ∷ [])) v d ≡ lane ++ x ∷ [] = get_or-set_same lanes v (lane ++ x ∷ []) d low in
          subst (λ k. get_or lanes k d ++ of_lane k (v ∷ o) (x ∷ xs) ≡ get_or (set lanes v (lane ++ x ∷ [])) k d ++ of_lane k o xs) same
          (ap (λ z. z ++ of_lane v (v ∷ o) (x ∷ xs)) old
          ∙ (ap (λ z. lane ++ z) (of_lane-same v o x xs)
          ∙ (sym (append_assoc lane (x ∷ []) (of_lane v o xs)) ∙ ap (λ z. z ++ of_lane v o xs) (sym new))))
      by_test false is =
          ap (λ z. get_or lanes w d ++ z) (of_lane-no v w o x xs is)
          ∙ ap (λ z. z ++ of_lane w o xs) (sym (get_or-set_other lanes v w (lane ++ x ∷ []) d (not_equal v w is)))

  pub dealt_low : (v : ℕ) (o : List ℕ) (xs : List X) (lanes : List (List X)) → IsDealt (v ∷ o) xs lanes → v < length lanes
  dealt_low v o xs lanes h = All-head (λ lane. lane < length lanes) v o h.fits

  -- the first item is the first of its lane
  pub dealt_first : (v : ℕ) (o : List ℕ) (xs : List X) (lanes : List (List X)) (lane : List X) → IsDealt (v ∷ o) xs lanes → lane ≡ get_or lanes v lane → 0 < length lane
  dealt_first v o [] lanes lane h at = absurd (let n = h.count in omega arith)
  dealt_first v o (x ∷ xs) lanes lane h at =
      let items : lane ≡ x ∷ of_lane v o xs = at ∙ (h.each v lane (dealt_low v o (x ∷ xs) lanes h) ∙ of_lane-same v o x xs) in
      rw items (omega arith)

  -- and the rest is dealt to what is left
  pub dealt_rest : (v : ℕ) (o : List ℕ) (xs : List X) (lanes : List (List X)) (lane left : List X) (y : X) → IsDealt (v ∷ o) xs lanes → lane ≡ get_or lanes v lane → lane ≡ y ∷ left →
      (ys : List X) × (xs ≡ y ∷ ys) × IsDealt o ys (set lanes v left)
  dealt_rest v o [] lanes lane left y h at pops = absurd (let n = h.count in omega arith)
  dealt_rest v o (x ∷ xs) lanes lane left y h at pops = (xs, ap (λ z. z ∷ xs) (sym first), record { count = count; fits = fits; each = each })
    where
      low : v < length lanes
      low = dealt_low v o (x ∷ xs) lanes h

      items : y ∷ left ≡ x ∷ of_lane v o xs
      items = sym pops ∙ (at ∙ (h.each v lane low ∙ of_lane-same v o x xs))

      first : y ≡ x
      first = ap (λ z. get_or z 0 y) items

      size : length (set lanes v left) ≡ length lanes
      size = length-set lanes v left

      count : length xs ≡ length o
      count = let n = h.count in omega arith

      fits : All (λ lane. lane < length (set lanes v left)) o
      fits = rw size (All-tail (λ lane. lane < length lanes) v o h.fits)

      each : (w : ℕ) (d : List X) → w < length (set lanes v left) → get_or (set lanes v left) w d ≡ of_lane w o xs
      each w d less = by_test (v == w) refl
        where
          by_test : (test : Bool) → (v == w) ≡ test → get_or (set lanes v left) w d ≡ of_lane w o xs
          by_test true is = subst (λ k. get_or (set lanes v left) k d ≡ of_lane k o xs) ((Decides-eqb v w).0 is) (get_or-set_same lanes v left d low ∙ ap (drop 1) items)
          by_test false is = get_or-set_other lanes v w left d (not_equal v w is) ∙ (h.each w d (rw size at less) ∙ of_lane-no v w o x xs is)

  -- where all go to the first lane, it has them all
  of_lane-all : (order : List ℕ) (xs : List X) → length xs ≡ length order → All (λ lane. lane < 1) order → of_lane 0 order xs ≡ xs
  of_lane-all [] [] n fits = refl
  of_lane-all [] (x ∷ xs) n fits = absurd (omega (arith, n))
  of_lane-all (v ∷ o) [] n fits = refl
  of_lane-all (v ∷ o) (x ∷ xs) n fits =
      let first : v ≡ 0 = let low = All-head (λ lane. lane < 1) v o fits in omega (arith, low) in
      of_lane-yes v 0 o x xs ((Decides-eqb v 0).1 first) ∙ ap (λ ys. x ∷ ys) (of_lane-all o xs (omega (arith, n)) (All-tail (λ lane. lane < 1) v o fits))

  pub dealt_to_one : (order : List ℕ) (xs : List X) → length xs ≡ length order → All (λ lane. lane < 1) order → IsDealt order xs (xs ∷ [])
  dealt_to_one order xs n fits = record { count = n; fits = fits; each = each }
    where
      each : (w : ℕ) (d : List X) → w < 1 → get_or (xs ∷ []) w d ≡ of_lane w order xs
      each zero d low = sym (of_lane-all order xs n fits)
      each (suc w) d low = absurd (omega (arith, low))

  pub one_has_all : (order : List ℕ) (xs lane : List X) → IsDealt order xs (lane ∷ []) → lane ≡ xs
  one_has_all order xs lane h = h.each 0 [] (omega arith) ∙ of_lane-all order xs h.count h.fits
