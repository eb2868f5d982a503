-- What filters keep of lists that are mapped, or filtered by one of two tests.
use Rattle.std.{proofs.Common.{◌≡◌, ◌∙◌, ◌&&◌, ◌||◌, Bool, cond, true, false, refl, sym, ap, List, [], ◌∷◌, length, map, arith}, specs.Prelude.filter}

-- a filter behind a map
module _ {X Y : Type 0} (f : X → Y) where
  mapped_more : (x : X) (ys : List Y) (xs : List X) (b : Bool) → ys ≡ map f xs
      → cond b (f x ∷ ys) ys ≡ map f (cond b (x ∷ xs) xs)
  mapped_more x ys xs true e = ap (λ (l : List Y). f x ∷ l) e
  mapped_more x ys xs false e = e

  pub filter_map_same : (p : Y → Bool) (xs : List X)
      → filter p (map f xs) ≡ map f (filter (λ x. p (f x)) xs)
  filter_map_same p [] = refl
  filter_map_same p (x ∷ xs) =
      mapped_more x (filter p (map f xs)) (filter (λ y. p (f y)) xs) (p (f x))
      (filter_map_same p xs)

-- one of two tests, of which the second keeps nothing that passes
module _ {X Y : Type 0} (f : X → Y) (p : Y → Bool) (q r s : X → Bool)
    (s_is : (x : X) → s x ≡ (q x || r x)) where
  abbrev kept : (X → Bool) → List X → List Y
  kept t xs = filter p (map f (filter t xs))

  kept_more : (t : X → Bool) (x : X) (xs : List X)
      → kept t (x ∷ xs) ≡ cond (t x && p (f x)) (f x ∷ kept t xs) (kept t xs)
  kept_more t x xs = by (t x) where
    by : (b : Bool) → filter p (map f (cond b (x ∷ filter t xs) (filter t xs)))
        ≡ cond (b && p (f x)) (f x ∷ kept t xs) (kept t xs)
    by true = refl
    by false = refl

  no_more : (b : Bool) (y : Y) (ys : List Y) → cond b (y ∷ ys) ys ≡ [] → (b ≡ false) × (ys ≡ [])
  no_more true y ys h = absurd (omega (arith, ap length h))
  no_more false y ys h = (refl, h)

  passes_first : (b c e : Bool) → (c && e) ≡ false → ((b || c) && e) ≡ (b && e)
  passes_first true c e h = refl
  passes_first false c e h = h

  pub either_kept : (xs : List X) → kept r xs ≡ [] → kept s xs ≡ kept q xs
  either_kept [] none = refl
  either_kept (x ∷ xs) none =
      let y = f x in
      let split = no_more (r x && p y) y (kept r xs) (sym (kept_more r x xs) ∙ none) in
      kept_more s x xs
      ∙ ap (λ (b : Bool). cond (b && p y) (y ∷ kept s xs) (kept s xs)) (s_is x)
      ∙ ap (λ (b : Bool). cond b (y ∷ kept s xs) (kept s xs))
      (passes_first (q x) (r x) (p y) split.0)
      ∙ ap (λ (ys : List Y). cond (q x && p y) (y ∷ ys) ys) (either_kept xs split.1)
      ∙ sym (kept_more q x xs)
