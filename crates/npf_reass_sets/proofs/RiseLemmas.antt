-- Lists whose numbers rise: of the elements that they have there is one order.
use Rattle.std.proofs.Common.{◌≡◌, ◌≢◌, ◌⊎◌, ℕ, ◌<◌, ◌≤◌, ◌==◌, ◌∙◌, Bool, cond, true, false}
use Rattle.std.{proofs.Common.{inl, inr, ⊎_elim, suc, refl, sym, ap, arith, List, [], ◌∷◌, length, get_or}, specs.Prelude.{⊤, AllPairs, filter}}
use Rattle.std.{specs.List.Sorted.IsNonDecreasingBy, proofs.lemmas.{Bool.{cases_eq, cases_order, eq-eqb, eqb-true, ne_eqb}, List.Sorted.IsNonDecreasingBy-drop}}
use Rattle.npf_reass_sets.proofs.FilterLemmas.{filter_kept, filter_left}

heads : {X : Type 0} (a b : X) (us vs : List X) → a ∷ us ≡ b ∷ vs → a ≡ b
heads a b us vs e = cc

tails : {X : Type 0} (a b : X) (us vs : List X) → a ∷ us ≡ b ∷ vs → us ≡ vs
tails a b us vs e = cc

module _ {X : Type 0} (number : X → ℕ) where
  -- those of a number
  abbrev pub of_number : ℕ → List X → List X
  of_number n = filter (λ x. number x == n)

  -- each number is above the one before
  abbrev pub AreAbove : ℕ → List X → Type 0
  AreAbove low [] = ⊤
  AreAbove low (x ∷ xs) = (low < number x) × AreAbove low xs

  abbrev pub Rise : List X → Type 0
  Rise [] = ⊤
  Rise (x ∷ xs) = AreAbove (number x) xs × Rise xs

  -- none is below this one
  abbrev AreFrom : ℕ → List X → Type 0
  AreFrom low [] = ⊤
  AreFrom low (x ∷ xs) = (low ≤ number x) × AreFrom low xs

  abbrev pub DontFall : List X → Type 0
  DontFall [] = ⊤
  DontFall (x ∷ xs) = AreFrom (number x) xs × DontFall xs

  kept : (n : ℕ) (x : X) (xs : List X) → number x ≡ n
      → of_number n (x ∷ xs) ≡ x ∷ of_number n xs
  kept n x xs e = filter_kept (λ (y : X). number y == n) x xs (eq-eqb (number x) n e)

  left : (n : ℕ) (x : X) (xs : List X) → number x ≢ n → of_number n (x ∷ xs) ≡ of_number n xs
  left n x xs other = filter_left (λ (y : X). number y == n) x xs (ne_eqb (number x) n other)

  none_above : (n low : ℕ) (xs : List X) → n ≤ low → AreAbove low xs → of_number n xs ≡ []
  none_above n low [] h above = refl
  none_above n low (x ∷ xs) h above =
      left n x xs (λ e. omega (arith, h, above.0, e)) ∙ none_above n low xs h above.1

  none_from : (n low : ℕ) (xs : List X) → n < low → AreFrom low xs → of_number n xs ≡ []
  none_from n low [] h from = refl
  none_from n low (x ∷ xs) h from =
      left n x xs (λ e. omega (arith, h, from.0, e)) ∙ none_from n low xs h from.1

  most_more : (n : ℕ) (x : X) (xs : List X) → AreAbove (number x) xs
      → (b : Bool) → (number x == n) ≡ b → length (of_number n xs) ≤ 1
      → length (cond b (x ∷ of_number n xs) (of_number n xs)) ≤ 1
  most_more n x xs above true e more =
      let none = none_above n (number x) xs (omega (arith, eqb-true (number x) n e)) above in
      omega (arith, ap length none)
  most_more n x xs above false e more = more

  pub one_at_most : (n : ℕ) (xs : List X) → Rise xs → length (of_number n xs) ≤ 1
  one_at_most n [] rise = omega arith
  one_at_most n (x ∷ xs) rise =
      most_more n x xs rise.0 (number x == n) refl (one_at_most n xs rise.1)

  never : (x : X) (xs ys : List X) → of_number (number x) (x ∷ xs) ≡ of_number (number x) ys
      → of_number (number x) ys ≡ [] → ⊥
  never x xs ys same none =
      omega (arith, ap length (sym (kept (number x) x xs refl) ∙ same ∙ none))

  -- behind one that both have in front
  rest_same : (x : X) (xs ys : List X) (n : ℕ)
      → of_number n (x ∷ xs) ≡ of_number n (x ∷ ys) → of_number n xs ≡ of_number n ys
  rest_same x xs ys n same = ⊎_elim
      (λ (e : number x ≡ n). tails x x (of_number n xs) (of_number n ys)
      (sym (kept n x xs e) ∙ same ∙ kept n x ys e))
      (λ (other : number x ≢ n). sym (left n x xs other) ∙ same ∙ left n x ys other)
      (cases_eq (number x) n)

  module _ (x y : X) (xs ys : List X) (falls : DontFall (x ∷ xs)) (rise : Rise (y ∷ ys))
      (same : (n : ℕ) → of_number n (x ∷ xs) ≡ of_number n (y ∷ ys))
      (behind : ((n : ℕ) → of_number n xs ≡ of_number n ys) → xs ≡ ys) where
    at_one : number x ≡ number y → x ∷ xs ≡ y ∷ ys
    at_one e =
        let one : x ≡ y = heads x y (of_number (number x) xs) (of_number (number x) ys)
        (sym (kept (number x) x xs refl) ∙ same (number x) ∙ kept (number x) y ys (sym e)) in
        let more = λ (n : ℕ). rest_same x xs ys n
        (same n ∙ ap (λ (z : X). of_number n (z ∷ ys)) (sym one)) in
        ap (λ (z : X). z ∷ xs) one ∙ ap (λ (zs : List X). y ∷ zs) (behind more)

    by_number : (number x ≡ number y) ⊎ ((number x < number y) ⊎ (number y < number x))
        → x ∷ xs ≡ y ∷ ys
    by_number (inl e) = at_one e
    by_number (inr (inl less)) =
        absurd (never x xs (y ∷ ys) (same (number x))
        (left (number x) y ys (λ e. omega (arith, less, e))
        ∙ none_above (number x) (number y) ys (omega (arith, less)) rise.0))
    by_number (inr (inr more)) =
        absurd (never y ys (x ∷ xs) (sym (same (number y)))
        (left (number y) x xs (λ e. omega (arith, more, e))
        ∙ none_from (number y) (number x) xs more falls.0))

  -- numbers that don't fall and numbers that rise are in one order
  pub one_order : (xs ys : List X) → DontFall xs → Rise ys
      → ((n : ℕ) → of_number n xs ≡ of_number n ys) → xs ≡ ys
  one_order [] [] falls rise same = refl
  one_order [] (y ∷ ys) falls rise same = absurd (never y ys [] (sym (same (number y))) refl)
  one_order (x ∷ xs) [] falls rise same = absurd (never x xs [] (same (number x)) refl)
  one_order (x ∷ xs) (y ∷ ys) falls rise same =
      by_number x y xs ys falls rise same
      (λ behind. one_order xs ys falls.1 rise.1 behind) (cases_order (number x) (number y))

  from_all : (low : ℕ) (xs : List X)
      → ((j : ℕ) (d : X) → j < length xs → low ≤ number (get_or xs j d)) → AreFrom low xs
  from_all low [] all = tt
  from_all low (x ∷ xs) all =
      (all 0 x (omega arith), from_all low xs (λ j d below. all (suc j) d (omega (arith, below))))

  pub dont_fall : (xs : List X) → IsNonDecreasingBy number xs → DontFall xs
  dont_fall [] up = tt
  dont_fall (x ∷ xs) up = (
    from_all (number x) xs (λ j d below. up 0 (suc j) d (omega arith) (omega (arith, below))),
    dont_fall xs (IsNonDecreasingBy-drop number 1 (x ∷ xs) up),
  )

  above_more : (low : ℕ) (x : X) (kept : List X) → low < number x → (b : Bool)
      → AreAbove low kept → AreAbove low (cond b (x ∷ kept) kept)
  above_more low x kept less true more = (less, more)
  above_more low x kept less false more = more

  rise_more : (x : X) (kept : List X) → AreAbove (number x) kept → (b : Bool) → Rise kept
      → Rise (cond b (x ∷ kept) kept)
  rise_more x kept above true more = (above, more)
  rise_more x kept above false more = more

  above_filter : (p : X → Bool) (low : ℕ) (xs : List X) → AreAbove low xs
      → AreAbove low (filter p xs)
  above_filter p low [] above = tt
  above_filter p low (x ∷ xs) above =
      above_more low x (filter p xs) above.0 (p x) (above_filter p low xs above.1)

  pub rise_filter : (p : X → Bool) (xs : List X) → Rise xs → Rise (filter p xs)
  rise_filter p [] rise = tt
  rise_filter p (x ∷ xs) rise =
      rise_more x (filter p xs) (above_filter p (number x) xs rise.0) (p x) (rise_filter p xs rise.1)

  above_all : (low : ℕ) (xs : List X)
      → ((j : ℕ) (d : X) → j < length xs → low < number (get_or xs j d)) → AreAbove low xs
  above_all low [] all = tt
  above_all low (x ∷ xs) all =
      (all 0 x (omega arith), above_all low xs (λ j d below. all (suc j) d (omega (arith, below))))

  -- a list each of whose numbers is below those behind it
  pub rise_from_pairs : (xs : List X) → AllPairs (λ x y. number x < number y) xs → Rise xs
  rise_from_pairs [] pairs = tt
  rise_from_pairs (x ∷ xs) pairs = (
    above_all (number x) xs (λ j d below. pairs 0 (suc j) d (omega arith) (omega (arith, below))),
    rise_from_pairs xs (λ i j d less below. pairs (suc i) (suc j) d (omega (arith, less)) (omega (arith, below))),
  )
