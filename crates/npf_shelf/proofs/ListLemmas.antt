-- What is in a list that has a first element, what a filter keeps, and what lists are that are made of others.
use Rattle.std.specs.List.{AllZip, Contains, filter}
use Rattle.std.proofs.Common.{◌≡◌, ◌⊎◌, ℕ, ◌<◌, zero, suc, Bool, true, false, cond, List, [], ◌∷◌, ◌++◌, map, set, length, get_or, refl, sym, ap, ◌∙◌, subst, ⊎_elim, inl, inr, arith}
use Rattle.std.proofs.lemmas.List.{map-append, map-set}

pub Contains-nil : {X : Type 0} (x : X) → Contains [] x → ⊥
Contains-nil x c = let below = c.1 in omega (arith, below)

pub Contains-first : {X : Type 0} (x : X) (xs : List X) → Contains (x ∷ xs) x
Contains-first x xs = (zero, omega arith, refl)

pub Contains-later : {X : Type 0} (x y : X) (xs : List X) → Contains xs y → Contains (x ∷ xs) y
Contains-later x y xs c = (suc c.0, omega (arith, c.1), c.2)

pub Contains-cons_cases : {X : Type 0} (x y : X) (xs : List X) → Contains (x ∷ xs) y → (x ≡ y) ⊎ Contains xs y
Contains-cons_cases x y xs c = cases_at c.0 c.1 c.2
  where
    cases_at : (k : ℕ) → k < length (x ∷ xs) → get_or (x ∷ xs) k y ≡ y → (x ≡ y) ⊎ Contains xs y
    cases_at zero h e = inl e
    cases_at (suc k) h e = inr (k, omega (arith, h), e)

-- where a filter keeps nothing the first item fails its test, and it keeps nothing of the others
pub filter-cons_nil : {X : Type 0} (p : X → Bool) (x : X) (xs : List X) → filter p (x ∷ xs) ≡ [] → (p x ≡ false) × (filter p xs ≡ [])
filter-cons_nil p x xs e = at_test (p x) refl e
  where
    at_test : (keep : Bool) → p x ≡ keep → cond keep (x ∷ filter p xs) (filter p xs) ≡ [] → (p x ≡ false) × (filter p xs ≡ [])
    at_test true t e = absurd cc
    at_test false t e = (t, e)

pub Contains-filter_parts : {X : Type 0} (p : X → Bool) (xs : List X) (x : X) → Contains (filter p xs) x → Contains xs x × (p x ≡ true)
Contains-filter_parts p [] x c = absurd (Contains-nil x c)
Contains-filter_parts {X} p (y ∷ ys) x c = by_test (λ d. Contains-filter_parts p ys x d) (p y) refl c
  where
    by_test : (Contains (filter p ys) x → Contains ys x × (p x ≡ true)) → (test : Bool) → p y ≡ test → Contains (cond test (y ∷ filter p ys) (filter p ys)) x → Contains (y ∷ ys) x × (p x ≡ true)
    by_test rest true e d = ⊎_elim
        (λ (same : y ≡ x). (subst (λ (z : X). Contains (y ∷ ys) z) same (Contains-first y ys), ap p (sym same) ∙ e))
        (λ (f : Contains (filter p ys) x). let r = rest f in (Contains-later y x ys r.0, r.1))
        (Contains-cons_cases y x (filter p ys) d)
    by_test rest false e d = let r = rest d in (Contains-later y x ys r.0, r.1)

pub Contains-filter_from : {X : Type 0} (p : X → Bool) (xs : List X) (x : X) → Contains xs x → p x ≡ true → Contains (filter p xs) x
Contains-filter_from p [] x c e = absurd (Contains-nil x c)
Contains-filter_from {X} p (y ∷ ys) x c e = by_test (λ d. Contains-filter_from p ys x d e) (p y) refl
  where
    by_test : (Contains ys x → Contains (filter p ys) x) → (test : Bool) → p y ≡ test → Contains (cond test (y ∷ filter p ys) (filter p ys)) x
    by_test rest true is = ⊎_elim
        (λ (same : y ≡ x). subst (λ (z : X). Contains (y ∷ filter p ys) z) same (Contains-first y (filter p ys)))
        (λ (d : Contains ys x). Contains-later y x (filter p ys) (rest d))
        (Contains-cons_cases y x ys c)
    by_test rest false is = ⊎_elim
        (λ (same : y ≡ x). absurd (let no : true ≡ false = sym e ∙ (ap p (sym same) ∙ is) in cc))
        rest
        (Contains-cons_cases y x ys c)

pub map-set_push : {X Y : Type 0} (f : X → Y) (xs : List X) (i : ℕ) (x y : X) → map f (set xs i x ++ y ∷ []) ≡ set (map f xs) i (f x) ++ f y ∷ []
map-set_push f xs i x y = map-append f (set xs i x) (y ∷ []) ∙ ap (λ z. z ++ f y ∷ []) (map-set f xs i x)

pub map-set_set : {X Y : Type 0} (f : X → Y) (xs : List X) (i j : ℕ) (x y : X) → map f (set (set xs i x) j y) ≡ set (set (map f xs) i (f x)) j (f y)
map-set_set f xs i j x y = map-set f (set xs i x) j y ∙ ap (λ z. set z j (f y)) (map-set f xs i x)

-- the kit's AllZip-push for lists of two types
pub AllZip-push_two : {X Y : Type 0} (R : X → Y → Type 0) (xs : List X) (ys : List Y) (x : X) (y : Y) → AllZip R xs ys → R x y → AllZip R (xs ++ x ∷ []) (ys ++ y ∷ [])
AllZip-push_two R [] [] x y z r = (r, tt)
AllZip-push_two R [] (b ∷ ys) x y z r = absurd z
AllZip-push_two R (a ∷ xs) [] x y z r = absurd z
AllZip-push_two R (a ∷ xs) (b ∷ ys) x y z r = (z.0, AllZip-push_two R xs ys x y z.1 r)

pub nil_from_append_left : {X : Type 0} (xs ys : List X) → xs ++ ys ≡ [] → xs ≡ []
nil_from_append_left [] ys none = refl
nil_from_append_left (x ∷ xs) ys none = cc

pub nil_from_append_right : {X : Type 0} (xs ys : List X) → xs ++ ys ≡ [] → ys ≡ []
nil_from_append_right [] ys none = none
nil_from_append_right (x ∷ xs) ys none = cc

-- a list of one item has no other last item
pub same_from_push : {X : Type 0} (x last : X) (xs : List X) → x ∷ [] ≡ xs ++ last ∷ [] → x ≡ last
same_from_push x last [] e = cc
same_from_push x last (y ∷ []) e = absurd cc
same_from_push x last (y ∷ z ∷ xs) e = absurd cc
