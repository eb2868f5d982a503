-- Lists with their numbers, one element after the other.
use Rattle.std.proofs.Common.{◌≡◌, ℕ, suc, ◌+◌, ◌<◌, ◌++◌, Bool, true, false, cond, List, [], ◌∷◌, length, map, take, get_or, sym, ap, ◌∙◌, arith}
use Rattle.std.specs.List.{enumerate_from, filter, flat_map}
use Rattle.std.proofs.lemmas.List.{append-nil, flat_map_more, length-take, map-append, take_more, Elements.filter-append}

module _ {X : Type 0} where
  numbered-append : (n : ℕ) (xs : List X) (x : X) → enumerate_from n (xs ++ x ∷ []) ≡ enumerate_from n xs ++ (n + length xs, x) ∷ []
  numbered-append n [] x = let e : n ≡ n + 0 = omega arith in ap {A = ℕ} {B = List (ℕ × X)} (λ k. (k, x) ∷ []) e
  numbered-append n (y ∷ ys) x =
      let e : n + 1 + length ys ≡ n + suc (length ys) = omega arith in
      ap (λ rest. (n, y) ∷ rest) (numbered-append (n + 1) ys x)
      ∙ ap {A = ℕ} {B = List (ℕ × X)} (λ k. (n, y) ∷ (enumerate_from (n + 1) ys ++ (k, x) ∷ [])) e

  -- one more
  pub numbered_more : (n : ℕ) (xs : List X) (i number : ℕ) (d : X) → i < length xs → number ≡ n + i
      → enumerate_from n (take (i + 1) xs) ≡ enumerate_from n (take i xs) ++ (number, get_or xs i d) ∷ []
  numbered_more n xs i number d within is =
      let size : n + length (take i xs) ≡ number = omega (arith, length-take i xs) in
      ap (enumerate_from n) (take_more xs i d within)
      ∙ numbered-append n (take i xs) (get_or xs i d)
      ∙ ap {A = ℕ} {B = List (ℕ × X)} (λ k. enumerate_from n (take i xs) ++ (k, get_or xs i d) ∷ []) size

filter-kept : {X : Type 0} (test : X → Bool) (xs : List X) (x : X) → test x ≡ true → filter test (xs ++ x ∷ []) ≡ filter test xs ++ x ∷ []
filter-kept test xs x passes = filter-append test xs (x ∷ []) ∙ ap (λ b. filter test xs ++ cond b (x ∷ []) []) passes

filter-left : {X : Type 0} (test : X → Bool) (xs : List X) (x : X) → test x ≡ false → filter test (xs ++ x ∷ []) ≡ filter test xs
filter-left test xs x fails =
    filter-append test xs (x ∷ []) ∙ ap (λ b. filter test xs ++ cond b (x ∷ []) []) fails ∙ append-nil (filter test xs)

module _ {X Y : Type 0} (test : ℕ × X → Bool) (f : ℕ × X → Y) (n : ℕ) (xs : List X) (i number : ℕ) (d : X) (within : i < length xs) (is : number ≡ n + i) where
  -- one more of those that pass the test
  pub kept_more : test (number, get_or xs i d) ≡ true
      → map f (filter test (enumerate_from n (take (i + 1) xs))) ≡ map f (filter test (enumerate_from n (take i xs))) ++ f (number, get_or xs i d) ∷ []
  kept_more passes =
      ap (λ all. map f (filter test all)) (numbered_more n xs i number d within is)
      ∙ ap (map f) (filter-kept test (enumerate_from n (take i xs)) (number, get_or xs i d) passes)
      ∙ map-append f (filter test (enumerate_from n (take i xs))) ((number, get_or xs i d) ∷ [])

  -- or of the others
  pub left_more : test (number, get_or xs i d) ≡ false
      → map f (filter test (enumerate_from n (take (i + 1) xs))) ≡ map f (filter test (enumerate_from n (take i xs)))
  left_more fails =
      ap (λ all. map f (filter test all)) (numbered_more n xs i number d within is)
      ∙ ap (map f) (filter-left test (enumerate_from n (take i xs)) (number, get_or xs i d) fails)

module _ {X Y : Type 0} (f : ℕ × X → Y) (n : ℕ) (xs : List X) (i number : ℕ) (d : X) (within : i < length xs) (is : number ≡ n + i) where
  pub mapped_more : map f (enumerate_from n (take (i + 1) xs)) ≡ map f (enumerate_from n (take i xs)) ++ f (number, get_or xs i d) ∷ []
  mapped_more = ap (map f) (numbered_more n xs i number d within is) ∙ map-append f (enumerate_from n (take i xs)) ((number, get_or xs i d) ∷ [])

module _ {X : Type 0} (f : ℕ × X → List ℕ) (n : ℕ) (xs : List X) (i number : ℕ) (d : X) (within : i < length xs) (is : number ≡ n + i) where
  pub written_more : (old : List ℕ)
      → (old ++ flat_map f (enumerate_from n (take i xs))) ++ f (number, get_or xs i d) ≡ old ++ flat_map f (enumerate_from n (take (i + 1) xs))
  written_more old =
      flat_map_more f old (enumerate_from n (take i xs)) (number, get_or xs i d)
      ∙ ap (λ all. old ++ flat_map f all) (sym (numbered_more n xs i number d within is))
