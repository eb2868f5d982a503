-- Sums over seats, and lists that are read by places.
use Rattle.std.proofs.Common.{◌≡◌, ◌≢◌, ◌⊎◌, ℕ, zero, suc, ◌+◌, ◌<◌, ◌≤◌, Bool, eqb, eq-eqb, ne_eqb, cond, List, [], ◌∷◌, ◌++◌, map, length, set}
use Rattle.std.proofs.{Common.{slice_index, sum_by, refl, sym, ap, ◌∙◌, ⊎_elim, inl, inr, arith, length-append}, lemmas.{Bool.cases_eq, List.map-set}}
use Rattle.std.proofs.lemmas.List.Sums.{sum_by-cons, sum_by_push}
use mathlib.Core.Option.{some, some-injective, some-ne-none}
use lib.ListN.{get_elem?}
use Rattle.atomic_table.proofs.Lists.{set_again, at_map}
use Rattle.npf_seats.specs.Sums.{occurs, numbers_below}

module _ {X : Type 0} where
  pub sum-set : (f : X → ℕ) (xs : List X) (j : ℕ) (x y : X) → get_elem? xs j ≡ some x → sum_by f (set xs j y) + f x ≡ sum_by f xs + f y
  sum-set f [] j x y e = absurd (some-ne-none x (sym e))
  sum-set f (z ∷ zs) zero x y e =
      let same : f z ≡ f x = ap f (some-injective z x e) in
      let a = sum_by-cons f y zs in
      let b = sum_by-cons f z zs in
      omega (arith, same, a, b)
  sum-set f (z ∷ zs) (suc j) x y e =
      let more = sum-set f zs j x y e in
      let a = sum_by-cons f z (set zs j y) in
      let b = sum_by-cons f z zs in
      omega (arith, more, a, b)

  pub one_of_sum : (f : X → ℕ) (xs : List X) (j : ℕ) (x : X) → get_elem? xs j ≡ some x → f x ≤ sum_by f xs
  one_of_sum f [] j x e = absurd (some-ne-none x (sym e))
  one_of_sum f (z ∷ zs) zero x e =
      let same : f z ≡ f x = ap f (some-injective z x e) in
      let a = sum_by-cons f z zs in
      omega (arith, same, a)
  one_of_sum f (z ∷ zs) (suc j) x e =
      let more = one_of_sum f zs j x e in
      let a = sum_by-cons f z zs in
      omega (arith, more, a)

  pub two_of_sum : (f : X → ℕ) (xs : List X) (i j : ℕ) (x y : X) → get_elem? xs i ≡ some x → get_elem? xs j ≡ some y → i ≢ j → f x + f y ≤ sum_by f xs
  two_of_sum f [] i j x y e d ne = absurd (some-ne-none x (sym e))
  two_of_sum f (z ∷ zs) zero zero x y e d ne = absurd (ne refl)
  two_of_sum f (z ∷ zs) zero (suc j) x y e d ne =
      let same : f z ≡ f x = ap f (some-injective z x e) in
      let more = one_of_sum f zs j y d in
      let a = sum_by-cons f z zs in
      omega (arith, same, more, a)
  two_of_sum f (z ∷ zs) (suc i) zero x y e d ne =
      let same : f z ≡ f y = ap f (some-injective z y d) in
      let more = one_of_sum f zs i x e in
      let a = sum_by-cons f z zs in
      omega (arith, same, more, a)
  two_of_sum f (z ∷ zs) (suc i) (suc j) x y e d ne =
      let more = two_of_sum f zs i j x y e d (λ h. ne (ap suc h)) in
      let a = sum_by-cons f z zs in
      omega (arith, more, a)

  sum_none : (f : X → ℕ) (xs : List X) → ((i : ℕ) (y : X) → get_elem? xs i ≡ some y → f y ≡ 0) → sum_by f xs ≡ 0
  sum_none f [] none = refl
  sum_none f (z ∷ zs) none =
      let here = none 0 z refl in
      let more = sum_none f zs (λ i y e. none (suc i) y e) in
      let a = sum_by-cons f z zs in
      omega (arith, here, more, a)

  -- where the others have none, one has the whole sum
  pub sum_alone : (f : X → ℕ) (xs : List X) (j : ℕ) (x : X) → get_elem? xs j ≡ some x → ((i : ℕ) (y : X) → i ≢ j → get_elem? xs i ≡ some y → f y ≡ 0) → sum_by f xs ≡ f x
  sum_alone f [] j x e others = absurd (some-ne-none x (sym e))
  sum_alone f (z ∷ zs) zero x e others =
      let same : f z ≡ f x = ap f (some-injective z x e) in
      let more = sum_none f zs (λ i y d. others (suc i) y (λ h. omega (arith, h)) d) in
      let a = sum_by-cons f z zs in
      omega (arith, same, more, a)
  sum_alone f (z ∷ zs) (suc j) x e others =
      let here = others 0 z (λ h. omega (arith, h)) refl in
      let more = sum_alone f zs j x e (λ i y ne d. others (suc i) y (λ h. ne (omega (arith, h))) d) in
      let a = sum_by-cons f z zs in
      omega (arith, here, more, a)

  pub set_there : (xs : List X) (j : ℕ) (x y : X) → get_elem? xs j ≡ some x → get_elem? (set xs j y) j ≡ some y
  set_there [] j x y e = absurd (some-ne-none x (sym e))
  set_there (z ∷ zs) zero x y e = refl
  set_there (z ∷ zs) (suc j) x y e = set_there zs j x y e

  -- two looks at one place see one thing
  pub one_there : (xs : List X) (i j : ℕ) (x y : X) → get_elem? xs i ≡ some x → get_elem? xs j ≡ some y → j ≡ i → y ≡ x
  one_there xs i j x y e d h = some-injective y x (sym d ∙ ap (λ n. get_elem? xs n) h ∙ e)

  pub there_within : (xs : List X) (j : ℕ) (x : X) → get_elem? xs j ≡ some x → j < length xs
  there_within [] j x e = absurd (some-ne-none x (sym e))
  there_within (z ∷ zs) zero x e = omega arith
  there_within (z ∷ zs) (suc j) x e = let below = there_within zs j x e in omega (arith, below)

  pub there_pushed : (xs : List X) (y x : X) (j : ℕ) → get_elem? (xs ++ y ∷ []) j ≡ some x → (get_elem? xs j ≡ some x) ⊎ ((j ≡ length xs) × (y ≡ x))
  there_pushed [] y x zero e = inr (refl, some-injective y x e)
  there_pushed [] y x (suc j) e = absurd (some-ne-none x (sym e))
  there_pushed (z ∷ zs) y x zero e = inl e
  there_pushed (z ∷ zs) y x (suc j) e = ⊎_elim (λ h. inl h) (λ h. inr (ap suc h.0, h.1)) (there_pushed zs y x j e)

  module _ {Y : Type 0} where
    -- what stands in a mapped list came from there
    pub from_map : (f : X → Y) (xs : List X) (j : ℕ) (y : Y) → get_elem? (map f xs) j ≡ some y → (x : X) × (get_elem? xs j ≡ some x) × (f x ≡ y)
    from_map f [] j y e = absurd (some-ne-none y (sym e))
    from_map f (z ∷ zs) zero y e = (z, refl, some-injective (f z) y e)
    from_map f (z ∷ zs) (suc j) y e = from_map f zs j y e

    -- a change that a side doesn't see
    pub side_same : (f : X → Y) (xs : List X) (i : ℕ) (x y : X) → get_elem? xs i ≡ some x → f y ≡ f x → map f (set xs i y) ≡ map f xs
    side_same f xs i x y e same =
        map-set f xs i y ∙ (ap (λ z. set (map f xs) i z) same ∙ set_again (map f xs) i (f x) (at_map f xs i x e))

abbrev one_if_so : Bool → ℕ
one_if_so b = cond b 1 0

itself_once : (n : ℕ) → one_if_so (eqb n n) ≡ 1
itself_once n = ap one_if_so (eq-eqb n n refl)

-- a list begins with what stands in it
pub first_occurs : (xs : List ℕ) → 1 ≤ length xs → 1 ≤ occurs (slice_index xs 0) xs
first_occurs [] h = absurd (omega (arith, h))
first_occurs (x ∷ xs) h =
    let a = sum_by-cons (λ (y : ℕ). one_if_so (eqb y x)) x xs in
    let b = itself_once x in
    omega (arith, a, b)

pub occurs_beyond : (n p : ℕ) → n ≤ p → occurs p (numbers_below n) ≡ 0
occurs_beyond zero p h = refl
occurs_beyond (suc n) p h =
    let a = sum_by_push (λ (y : ℕ). one_if_so (eqb y p)) (numbers_below n) n in
    let b : one_if_so (eqb n p) ≡ 0 = ap one_if_so (ne_eqb n p (λ e. absurd (omega (arith, h, e)))) in
    let c = occurs_beyond n p (omega (arith, h)) in
    omega (arith, a, b, c)

pub occurs_below : (n p : ℕ) → p < n → occurs p (numbers_below n) ≡ 1
occurs_below zero p h = absurd (omega (arith, h))
occurs_below (suc n) p h =
    let a = sum_by_push (λ (y : ℕ). one_if_so (eqb y p)) (numbers_below n) n in
    ⊎_elim
    (λ (e : n ≡ p).
    let b : one_if_so (eqb n p) ≡ 1 = ap one_if_so (eq-eqb n p e) in
    let c = occurs_beyond n p (omega (arith, e)) in
    omega (arith, a, b, c))
    (λ (ne : n ≢ p).
    let b : one_if_so (eqb n p) ≡ 0 = ap one_if_so (ne_eqb n p ne) in
    let c = occurs_below n p (omega (arith, h, ne)) in
    omega (arith, a, b, c))
    (cases_eq n p)

pub length-numbers_below : (n : ℕ) → length (numbers_below n) ≡ n
length-numbers_below zero = refl
length-numbers_below (suc n) =
    let more = length-numbers_below n in
    let a = length-append (numbers_below n) (n ∷ []) in
    omega (arith, more, a)

pub below_next : (n : ℕ) → numbers_below (n + 1) ≡ numbers_below n ++ n ∷ []
below_next n = let on : n + 1 ≡ suc n = omega arith in ap numbers_below on
