-- Elements at places, of lists that were made from others.
use Rattle.std.proofs.Common.{◌≡◌, ◌<◌, ℕ, zero, suc, ◌+◌, ◌++◌, Bool, true, false, Option, Some, None, List, [], ◌∷◌, cond, length, map, take, refl, sym, ap, ◌∙◌, append_assoc, arith}
use Rattle.std.specs.{List.{enumerate_from, filter, flat_map, list_any}, Prelude.{◌||◌, slice_get}}
use Rattle.npf_ctl_witnesses.specs.FilesLaw.{IsTextWithin}

-- an element and its place
pub record Got {X : Type 0} (xs : List X) (x : X) : Type 0 where
  pub place : ℕ
  pub there : slice_get xs place ≡ Some x

nothing_there : {X : Type 0} (x : X) → {P : Type 0} → None ≡ Some x → P
nothing_there x {P} e = absurd (cc)

pub got-enumerate : {X : Type 0} (n : ℕ) (xs : List X) (i : ℕ) (x : X) → slice_get xs i ≡ Some x → slice_get (enumerate_from n xs) i ≡ Some (n + i, x)
got-enumerate n [] i x e = nothing_there x e
got-enumerate {X} n (y ∷ ys) zero x e =
    let same : y ≡ x = cc in
    let number : n ≡ n + 0 = omega arith in
    ap {A = ℕ} {B = Option (ℕ × X)} (λ k. Some (k, y)) number ∙ ap {A = X} {B = Option (ℕ × X)} (λ z. Some (n + 0, z)) same
got-enumerate {X} n (y ∷ ys) (suc i) x e =
    let number : n + 1 + i ≡ n + suc i = omega arith in
    got-enumerate (n + 1) ys i x e ∙ ap {A = ℕ} {B = Option (ℕ × X)} (λ k. Some (k, x)) number

pub got-map : {X Y : Type 0} (f : X → Y) (xs : List X) (i : ℕ) (x : X) → slice_get xs i ≡ Some x → slice_get (map f xs) i ≡ Some (f x)
got-map f [] i x e = nothing_there x e
got-map f (y ∷ ys) zero x e = let same : y ≡ x = cc in ap (λ z. Some (f z)) same
got-map f (y ∷ ys) (suc i) x e = got-map f ys i x e

module _ {X : Type 0} where
  pub got-append : (xs ys : List X) (i : ℕ) (x : X) → slice_get xs i ≡ Some x → slice_get (xs ++ ys) i ≡ Some x
  got-append [] ys i x e = nothing_there x e
  got-append (z ∷ xs) ys zero x e = e
  got-append (z ∷ xs) ys (suc i) x e = got-append xs ys i x e

  pub got-last : (xs : List X) (x : X) → slice_get (xs ++ x ∷ []) (length xs) ≡ Some x
  got-last [] x = refl
  got-last (y ∷ ys) x = got-last ys x

kept_or_left : {X : Type 0} (b : Bool) (y x : X) (ys : List X) → Got ys x → Got (cond b (y ∷ ys) ys) x
kept_or_left true y x ys found = record { place = suc found.place; there = found.there }
kept_or_left false y x ys found = found

pub got-filter : {X : Type 0} (test : X → Bool) (xs : List X) (i : ℕ) (x : X) → slice_get xs i ≡ Some x → test x ≡ true → Got (filter test xs) x
got-filter test [] i x e passes = nothing_there x e
got-filter test (y ∷ ys) zero x e passes =
    let same : y ≡ x = cc in
    record { place = 0; there = ap (λ b. slice_get (cond b (y ∷ filter test ys) (filter test ys)) 0) (ap test same ∙ passes) ∙ ap Some same }
got-filter test (y ∷ ys) (suc i) x e passes = kept_or_left (test y) y x (filter test ys) (got-filter test ys i x e passes)

-- one that passes a test
pub record Passing {X : Type 0} (test : X → Bool) (xs : List X) : Type 0 where
  pub place : ℕ
  pub one : X
  pub there : slice_get xs place ≡ Some one
  pub passes : test one ≡ true

first_or_behind : {X : Type 0} (test : X → Bool) (x : X) (xs : List X) (b : Bool) → test x ≡ b → (list_any test xs ≡ true → Passing test xs)
    → (b || list_any test xs) ≡ true → Passing test (x ∷ xs)
first_or_behind test x xs true is behind any = record { place = 0; one = x; there = refl; passes = is }
first_or_behind test x xs false is behind any =
    let found = behind any in record { place = suc found.place; one = found.one; there = found.there; passes = found.passes }

pub passing : {X : Type 0} (test : X → Bool) (xs : List X) → list_any test xs ≡ true → Passing test xs
passing test [] e = absurd (cc)
passing test (x ∷ xs) e = first_or_behind test x xs (test x) refl (λ any. passing test xs any) e

-- a place of the first elements is one of the list
pub got-take : {X : Type 0} (n : ℕ) (xs : List X) (i : ℕ) (x : X) → slice_get (take n xs) i ≡ Some x → (slice_get xs i ≡ Some x) × (i < n)
got-take zero [] i x e = nothing_there x e
got-take zero (y ∷ ys) i x e = nothing_there x e
got-take (suc n) [] i x e = nothing_there x e
got-take (suc n) (y ∷ ys) zero x e = (e, omega arith)
got-take (suc n) (y ∷ ys) (suc i) x e = let found = got-take n ys i x e in (found.0, omega (arith, found.1))

-- what an element is written as stands in the whole
pub text-within : {X : Type 0} (f : X → List ℕ) (xs : List X) (i : ℕ) (x : X) (behind : List ℕ) → slice_get xs i ≡ Some x → IsTextWithin (f x) (flat_map f xs ++ behind)
text-within f [] i x behind e = nothing_there x e
text-within f (y ∷ ys) zero x behind e =
    let same : y ≡ x = cc in record {
      before = [];
      behind = flat_map f ys ++ behind;
      there = append_assoc (f y) (flat_map f ys) behind ∙ ap (λ z. f z ++ (flat_map f ys ++ behind)) same;
    }
text-within f (y ∷ ys) (suc i) x behind e =
    let found = text-within f ys i x behind e in record {
      before = f y ++ found.before;
      behind = found.behind;
      there =
          append_assoc (f y) (flat_map f ys) behind ∙ ap (λ rest. f y ++ rest) found.there
          ∙ sym (append_assoc (f y) found.before (f x ++ found.behind));
    }
