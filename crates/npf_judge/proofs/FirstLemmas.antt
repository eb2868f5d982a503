-- The first item of a list that passes a test, and which place of a list decides.
use Rattle.std.proofs.Common.{◌≡◌, ℕ, zero, suc, ◌+◌, ◌<◌, ◌≤◌, ◌==◌, ◌&&◌, ◌||◌, Bool, true, false, not, cond, List, [], ◌∷◌, Option, Some, None, length, slice_get}
use Rattle.std.proofs.Common.{take, find, refl, sym, subst, ap, ◌∙◌, inl, inr, arith}
use Rattle.std.specs.List.{list_any, range_with_len}
use Rattle.std.proofs.lemmas.Bool.{and_from, and_parts, cases_Bool, cases_eq, eq-eqb, false≢true, ne_eqb, not_from_false, or_from, or_parts}
use Rattle.std.proofs.lemmas.Option.{slice_get_past}
use Rattle.npf_search.specs.declared.decider.Decider.{Decider}
use Rattle.npf_search.specs.Region.{decides, own_decides}
use Rattle.npf_judge.specs.Order.{is_first, passes_here}

unturned : (b : Bool) → not b ≡ true → b ≡ false
unturned true e = absurd (false≢true e)
unturned false e = refl

found_when : {X : Type 0} (b : Bool) (x : X) (rest : Option X) → b ≡ true → cond b (Some x) rest ≡ Some x
found_when true x rest e = refl
found_when false x rest e = absurd (false≢true e)

not_found_when : {X : Type 0} (b : Bool) (x : X) (rest : Option X) → b ≡ false → cond b (Some x) rest ≡ rest
not_found_when true x rest e = absurd (false≢true (sym e))
not_found_when false x rest e = refl

module _ {X : Type 0} (test : X → Bool) where
  -- what stands there is what is found
  pub first_found : (xs : List X) (at : ℕ) → is_first test xs at ≡ true → find test xs ≡ slice_get xs at
  first_found [] at is = refl
  first_found (x ∷ xs) zero is = found_when (test x) x (find test xs) (and_parts (test x) (not (list_any test [])) is).0
  first_found (x ∷ xs) (suc at) is =
      let both = and_parts (passes_here test (slice_get xs at)) (not (test x || list_any test (take at xs))) is in
      let none = or_parts (test x) (list_any test (take at xs)) (unturned (test x || list_any test (take at xs)) both.1) in
      not_found_when (test x) x (find test xs) none.0
      ∙ first_found xs at (and_from (passes_here test (slice_get xs at)) (not (list_any test (take at xs))) both.0 (not_from_false (list_any test (take at xs)) none.1))

  -- there is one, or none passes
  pub some_first : (xs : List X) → (at : ℕ) × (at ≤ length xs) × (is_first test xs at ≡ true)
  some_first [] = (0, omega arith, refl)
  some_first (x ∷ xs) = elim (cases_Bool (test x)) [
    | inl passing ↦ (0, omega arith, and_from (test x) true passing refl)
    | inr failing ↦
        let rest = some_first xs in
        let both = and_parts (passes_here test (slice_get xs rest.0)) (not (list_any test (take rest.0 xs))) rest.2 in (
          suc rest.0,
          omega (arith, rest.1),
          and_from (passes_here test (slice_get xs rest.0)) (not (test x || list_any test (take rest.0 xs))) both.0
              (not_from_false (test x || list_any test (take rest.0 xs)) (or_from (test x) (list_any test (take rest.0 xs)) failing (unturned (list_any test (take rest.0 xs)) both.1))),
        )
  ]

  any_first : (h : ℕ → Bool) (first at : ℕ) (xs : List X) → at ≤ length xs
      → ((k : ℕ) → k < at → h (first + k) ≡ passes_here test (slice_get xs k)) → list_any h (range_with_len first at) ≡ list_any test (take at xs)
  any_first h first zero xs low same = refl
  any_first h first (suc at) [] low same = absurd (omega arith)
  any_first h first (suc at) (x ∷ xs) low same =
      let here : first + 0 ≡ first = omega arith in
      ap (λ b. b || list_any h (range_with_len (first + 1) at)) (subst (λ (n : ℕ). h n ≡ test x) here (same 0 (omega arith)))
      ∙ ap (λ b. test x || b)
      (any_first h (first + 1) at xs (omega arith) (λ k below.
      let next : first + suc k ≡ first + 1 + k = omega arith in
      subst (λ (n : ℕ). h n ≡ passes_here test (slice_get xs k)) next (same (suc k) (omega arith))))

  -- the place of a list that decides is the first that passes, where the list's items have the numbers from this one on
  pub decides_from : (number : ℕ) (h : ℕ → Bool) (xs : List X) (decider : Decider) → decider.first ≡ number → decider.count ≡ length xs
      → ((k : ℕ) → k < length xs → h (number + k) ≡ passes_here test (slice_get xs k)) → decides h decider ≡ is_first test xs decider.place
  decides_from number h xs decider first count same =
      let earlier = any_first h decider.first decider.place xs (omega (arith, decider.within, count))
      (λ k low. ap (λ n. h (n + k)) first ∙ same k (omega (arith, low, decider.within, count))) in
      ap (λ b. b && not (list_any h (range_with_len decider.first decider.place))) own
      ∙ ap (λ b. passes_here test (slice_get xs decider.place) && not b) earlier
    where
      own : own_decides h decider ≡ passes_here test (slice_get xs decider.place)
      own = elim (cases_eq decider.place decider.count) [
        | inl last ↦
            ap (λ b. b || h (decider.first + decider.place)) (eq-eqb decider.place decider.count last)
            ∙ sym (ap (passes_here test) (slice_get_past xs decider.place (omega (arith, last, count))))
        | inr other ↦
            ap (λ b. b || h (decider.first + decider.place)) (ne_eqb decider.place decider.count other)
            ∙ ap (λ n. h (n + decider.place)) first ∙ same decider.place (omega (arith, other, decider.within, count))
      ]
