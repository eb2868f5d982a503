-- Whether each of the protocols of a list is one number, one written protocol after the other; and whether values are several.
use Rattle.std.proofs.Common.{◌≡◌, ◌≤◌, ◌<◌, ◌+◌, ℕ, Bool, true, false, ◌&&◌, List, length, drop, get_or, refl, ap, sym, ◌∙◌, arith, nat_lt}
use Rattle.npf_expand_values.specs.Summary.{counted}
use Rattle.std.{specs.List.{flat_map, list_all}, proofs.lemmas.List.{drop_all, drop_more, Folds.list_all-append}}
use Rattle.std.proofs.lemmas.Bool.Decides.{nat_tests}

and_assoc : (a b c : Bool) → (a && (b && c)) ≡ ((a && b) && c)
and_assoc true b c = refl
and_assoc false b c = refl

pub and_true : (a : Bool) → (a && true) ≡ a
and_true true = refl
and_true false = refl

module _ {X A : Type 0} (p : A → Bool) (f : X → List A) (whole now next : Bool) (xs : List X) (i : ℕ) where
  pub all_more : (d : X) → i < length xs → whole ≡ (now && list_all p (flat_map f (drop i xs))) → next ≡ (now && list_all p (f (get_or xs i d)))
      → whole ≡ (next && list_all p (flat_map f (drop (i + 1) xs)))
  all_more d below so_far is =
      let rest = list_all p (flat_map f (drop (i + 1) xs)) in
      so_far ∙ ap (λ ys. now && list_all p (flat_map f ys)) (drop_more xs i d below)
      ∙ ap (λ b. now && b) (list_all-append p (f (get_or xs i d)) (flat_map f (drop (i + 1) xs)))
      ∙ and_assoc now (list_all p (f (get_or xs i d))) rest ∙ ap (λ b. b && rest) (sym is)

  pub all_end : length xs ≤ i → whole ≡ (now && list_all p (flat_map f (drop i xs))) → whole ≡ now
  all_end past so_far = so_far ∙ ap (λ ys. now && list_all p (flat_map f ys)) (drop_all i xs past) ∙ and_true now

pub several_counted : (n : ℕ) → nat_lt 1 (counted n) ≡ nat_lt 1 n
several_counted n = by (nat_lt 1 n) refl where
  by : (b : Bool) → nat_lt 1 n ≡ b → nat_lt 1 (counted n) ≡ b
  by true is = grind (arith, nat_tests)
  by false is = grind (arith, nat_tests)
