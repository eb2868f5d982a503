-- Lists of faults that have none.
use Rattle.std.{proofs.Common.{◌≡◌, List, [], ◌∷◌, ◌++◌, refl, ap, ◌∙◌}, specs.List.flat_map}

module _ {X : Type 0} where
  pub front : (xs ys : List X) → xs ++ ys ≡ [] → xs ≡ []
  front [] ys none = refl
  front (x ∷ xs) ys none = cc

  pub back : (xs ys : List X) → xs ++ ys ≡ [] → ys ≡ []
  back [] ys none = none
  back (x ∷ xs) ys none = cc

  pub both : (xs ys : List X) → xs ≡ [] → ys ≡ [] → xs ++ ys ≡ []
  both xs ys one other = ap (λ l. l ++ ys) one ∙ other

module _ {X Y Z : Type 0} (f : X → List Y) (g h : X → List Z) where
  -- what holds of each item that gives nothing holds of all of them where they give nothing
  pub each_same : ((x : X) → f x ≡ [] → g x ≡ h x) → (xs : List X) → flat_map f xs ≡ [] → flat_map g xs ≡ flat_map h xs
  each_same same [] none = refl
  each_same same (x ∷ xs) none =
      ap (λ l. l ++ flat_map g xs) (same x (front (f x) (flat_map f xs) none))
      ∙ ap (λ l. h x ++ l) (each_same same xs (back (f x) (flat_map f xs) none))

pub each_none : {X Y Z : Type 0} (f : X → List Y) (g : X → List Z) → ((x : X) → f x ≡ [] → g x ≡ []) → (xs : List X) → flat_map f xs ≡ []
    → flat_map g xs ≡ []
each_none f g same [] none = refl
each_none f g same (x ∷ xs) none =
    both (g x) (flat_map g xs) (same x (front (f x) (flat_map f xs) none)) (each_none f g same xs (back (f x) (flat_map f xs) none))
