-- Two lists of one length, place by place.
use Rattle.std.proofs.Common.{◌≡◌, ℕ, ◌<◌, List, [], ◌∷◌, All, map, get_or, length, refl, sym, ap, subst, ◌∙◌, ⊎_elim, arith, suc, zero}
use Rattle.std.{specs.List.{AllZip, Contains}, proofs.lemmas.List.Elements.{All-head, All-tail}}
use Rattle.npf_shelf.proofs.ListLemmas.{Contains-nil, Contains-cons_cases}

-- these stand at the place in the one list and in the other
abbrev pub At : {X Y : Type 0} → List X → List Y → ℕ → X → Y → Type 0
At [] ys i x y = ⊥
At (a ∷ xs) [] i x y = ⊥
At (a ∷ xs) (b ∷ ys) zero x y = (a ≡ x) × (b ≡ y)
At (a ∷ xs) (b ∷ ys) (suc i) x y = At xs ys i x y

pub at_zip : {X Y : Type 0} (R : X → Y → Type 0) (xs : List X) (ys : List Y) (i : ℕ) (x : X) (y : Y) → AllZip R xs ys → At xs ys i x y → R x y
at_zip R [] ys i x y z at = absurd at
at_zip R (a ∷ xs) [] i x y z at = absurd at
at_zip R (a ∷ xs) (b ∷ ys) zero x y z at = subst (λ v. R x v) at.1 (subst (λ u. R u b) at.0 z.0)
at_zip R (a ∷ xs) (b ∷ ys) (suc i) x y z at = at_zip R xs ys i x y z.1 at

pub at_all : {X Y : Type 0} (P : X → Type 0) (xs : List X) (ys : List Y) (i : ℕ) (x : X) (y : Y) → All P xs → At xs ys i x y → P x
at_all P [] ys i x y all at = absurd at
at_all P (a ∷ xs) [] i x y all at = absurd at
at_all P (a ∷ xs) (b ∷ ys) zero x y all at = subst P at.0 (All-head P a xs all)
at_all P (a ∷ xs) (b ∷ ys) (suc i) x y all at = at_all P xs ys i x y (All-tail P a xs all) at

pub at_left : {X Y Z : Type 0} (f : X → Z) (xs : List X) (ys : List Y) (i : ℕ) (x : X) (y : Y) (d : Z) → At xs ys i x y → (get_or (map f xs) i d ≡ f x) × (i < length (map f xs))
at_left f [] ys i x y d at = absurd at
at_left f (a ∷ xs) [] i x y d at = absurd at
at_left f (a ∷ xs) (b ∷ ys) zero x y d at = (ap f at.0, omega arith)
at_left f (a ∷ xs) (b ∷ ys) (suc i) x y d at = let r = at_left f xs ys i x y d at in (r.0, omega (arith, r.1))

pub at_right : {X Y Z : Type 0} (f : Y → Z) (xs : List X) (ys : List Y) (i : ℕ) (x : X) (y : Y) (d : Z) → At xs ys i x y → (get_or (map f ys) i d ≡ f y) × (i < length (map f ys))
at_right f [] ys i x y d at = absurd at
at_right f (a ∷ xs) [] i x y d at = absurd at
at_right f (a ∷ xs) (b ∷ ys) zero x y d at = (ap f at.1, omega arith)
at_right f (a ∷ xs) (b ∷ ys) (suc i) x y d at = let r = at_right f xs ys i x y d at in (r.0, omega (arith, r.1))

-- where one of the second list's has this value, it stands beside one of the first
pub record Finds {X Y : Type 0} (f : Y → ℕ) (xs : List X) (ys : List Y) (n : ℕ) : Type 0 where
  pub place : ℕ
  pub left : X
  pub right : Y
  pub at : At xs ys place left right
  pub is : f right ≡ n

pub finds : {X Y : Type 0} (R : X → Y → Type 0) (f : Y → ℕ) (xs : List X) (ys : List Y) (n : ℕ) → AllZip R xs ys → Contains (map f ys) n → Finds f xs ys n
finds R f [] [] n z c = absurd (Contains-nil n c)
finds R f [] (b ∷ ys) n z c = absurd z
finds R f (a ∷ xs) [] n z c = absurd z
finds R f (a ∷ xs) (b ∷ ys) n z c = ⊎_elim
    (λ (e : f b ≡ n). record { place = 0; left = a; right = b; at = (refl, refl); is = e })
    (λ d. let r = finds R f xs ys n z.1 d in record { place = suc r.place; left = r.left; right = r.right; at = r.at; is = r.is })
    (Contains-cons_cases (f b) n (map f ys) c)

pub at_same : {X Y : Type 0} (xs : List X) (ys : List Y) (i j : ℕ) (x : X) (y : Y) (a : X) (b : Y) → i ≡ j → At xs ys i x y → At xs ys j a b → x ≡ a
at_same {X} {Y} xs ys i j x y a b same p q = one xs ys i (subst (λ k. At xs ys k a b) (sym same) q) p
  where
    one : (us : List X) (vs : List Y) (k : ℕ) → At us vs k a b → At us vs k x y → x ≡ a
    one [] vs k q p = absurd p
    one (u ∷ us) [] k q p = absurd p
    one (u ∷ us) (v ∷ vs) zero q p = sym p.0 ∙ q.0
    one (u ∷ us) (v ∷ vs) (suc k) q p = one us vs k q p
