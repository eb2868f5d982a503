-- Lists of faults that have none, and what holds of each of gathered items.
use Rattle.std.{proofs.{Common.{◌≡◌, List, [], ◌∷◌, ◌++◌, All, refl}, lemmas.List.Elements.{All-append, All-head, All-nil, All-tail}}, specs.List.flat_map}

module _ {X : Type 0} where
  pub front : (xs ys : List X) → xs ++ ys ≡ [] → xs ≡ []
  front [] ys none = refl
  front (x ∷ xs) ys none = cc

  pub back : (xs ys : List X) → xs ++ ys ≡ [] → ys ≡ []
  back [] ys none = none
  back (x ∷ xs) ys none = cc

pub All-flat_map : {X Y : Type 0} (P : Y → Type 0) (f : X → List Y) (xs : List X) → ((x : X) → All P (f x)) → All P (flat_map f xs)
All-flat_map P f [] each = All-nil P
All-flat_map P f (x ∷ xs) each = All-append P (f x) (flat_map f xs) (each x) (All-flat_map P f xs each)
