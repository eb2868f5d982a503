-- What some rule of some group does.
use Rattle.std.proofs.Common.{◌≡◌, ◌||◌, Bool, List, [], ◌∷◌, map, refl, sym, ap, ◌∙◌}
use Rattle.std.specs.List.{flat_map, list_any}
use Rattle.std.proofs.lemmas.List.Concat.{flat_map-cons}
use Rattle.std.proofs.lemmas.List.Folds.{list_any-append}

pub any_within : {X Y : Type 0} (test : Y → Bool) (f : X → List Y) (xs : List X) → list_any (λ x. list_any test (f x)) xs ≡ list_any test (flat_map f xs)
any_within test f [] = refl
any_within test f (x ∷ xs) =
    ap (λ b. list_any test (f x) || b) (any_within test f xs)
    ∙ sym (list_any-append test (f x) (flat_map f xs))
    ∙ sym (ap (list_any test) (flat_map-cons f x xs))

pub any_map : {X Y : Type 0} (test : Y → Bool) (f : X → Y) (xs : List X) → list_any (λ x. test (f x)) xs ≡ list_any test (map f xs)
any_map test f [] = refl
any_map test f (x ∷ xs) = ap (λ b. test (f x) || b) (any_map test f xs)
