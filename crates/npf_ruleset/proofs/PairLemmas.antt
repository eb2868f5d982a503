-- Two lists whose elements are related place by place.
use Rattle.std.proofs.Common.{◌≡◌, ◌<◌, ℕ, zero, suc, List, [], ◌∷◌, ◌++◌, Some, length, take, drop, refl, subst, ap, arith, slice_get}
use Rattle.std.{specs.{Prelude.unwrap_or, List.AllZip}, proofs.lemmas.Option.none-some}

module _ {X Y : Type 0} (Rel : X → Y → Type 0) where
  pub zip_of : (xs : List X) (ys : List Y) → length ys ≡ length xs → ((k : ℕ) (x : X) (y : Y) → slice_get xs k ≡ Some x → slice_get ys k ≡ Some y → Rel x y) → AllZip Rel xs ys
  zip_of [] [] len each = tt
  zip_of (x ∷ xs) (y ∷ ys) len each = (each 0 x y refl refl, zip_of xs ys (omega (arith, len)) (λ k. each (suc k)))
  zip_of [] (y ∷ ys) len each = omega (arith, len)
  zip_of (x ∷ xs) [] len each = omega (arith, len)

  pub zip_each : (xs : List X) (ys : List Y) → AllZip Rel xs ys → (k : ℕ) (x : X) (y : Y) → slice_get xs k ≡ Some x → slice_get ys k ≡ Some y → Rel x y
  zip_each [] ys all k x y at_x at_y = absurd (none-some x at_x)
  zip_each (x ∷ xs) [] all k z y at_x at_y = absurd all
  zip_each (x ∷ xs) (y ∷ ys) all zero z w at_x at_y = subst (λ o. Rel o w) (ap (λ o. unwrap_or o x) at_x) (subst (λ o. Rel x o) (ap (λ o. unwrap_or o y) at_y) all.0)
  zip_each (x ∷ xs) (y ∷ ys) all (suc k) z w at_x at_y = zip_each xs ys all.1 k z w at_x at_y

  pub zip_append : (xs zs : List X) (ys ws : List Y) → AllZip Rel xs ys → AllZip Rel zs ws → AllZip Rel (xs ++ zs) (ys ++ ws)
  zip_append [] zs [] ws all more = more
  zip_append (x ∷ xs) zs (y ∷ ys) ws all more = (all.0, zip_append xs zs ys ws all.1 more)
  zip_append [] zs (y ∷ ys) ws all more = absurd all
  zip_append (x ∷ xs) zs [] ws all more = absurd all

  -- what is related to a list in two parts has two parts
  pub zip_front : (xs zs : List X) (ys : List Y) → AllZip Rel (xs ++ zs) ys → AllZip Rel xs (take (length xs) ys)
  zip_front [] zs ys all = tt
  zip_front (x ∷ xs) zs (y ∷ ys) all = (all.0, zip_front xs zs ys all.1)
  zip_front (x ∷ xs) zs [] all = absurd all

  pub zip_behind : (xs zs : List X) (ys : List Y) → AllZip Rel (xs ++ zs) ys → AllZip Rel zs (drop (length xs) ys)
  zip_behind [] zs ys all = all
  zip_behind (x ∷ xs) zs (y ∷ ys) all = zip_behind xs zs ys all.1
  zip_behind (x ∷ xs) zs [] all = absurd all

-- what is left of a list from a place on begins with what has that place
pub drop_here : {X : Type 0} (xs : List X) (n : ℕ) → n < length xs → (x : X) × (drop n xs ≡ x ∷ drop (suc n) xs) × (slice_get xs n ≡ Some x)
drop_here [] n lt = elim lt [ ]
drop_here (x ∷ xs) zero lt = (x, refl, refl)
drop_here (x ∷ xs) (suc n) lt = drop_here xs n (omega arith)
