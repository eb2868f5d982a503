-- A list that is parted at an element in two ways.
use Rattle.std.proofs.Common.{◌≡◌, List, [], ◌∷◌, ◌++◌, refl, sym}

module _ {X : Type 0} where
  -- it is parted at one place; or the one element stands in front of the other, with what is between them
  pub data Parted (front other : List X) (x y : X) : Type 0 where
    here : front ≡ other → x ≡ y → Parted front other x y
    before : (between : List X) → other ≡ front ++ x ∷ between → Parted front other x y
    after : (between : List X) → front ≡ other ++ y ∷ between → Parted front other x y

  first_of : (x y : X) (xs ys : List X) → x ∷ xs ≡ y ∷ ys → x ≡ y
  first_of x y xs ys same = cc

  rest_of : (x y : X) (xs ys : List X) → x ∷ xs ≡ y ∷ ys → xs ≡ ys
  rest_of x y xs ys same = cc

  joined : (x y : X) (xs ys : List X) → x ≡ y → xs ≡ ys → x ∷ xs ≡ y ∷ ys
  joined x y xs ys first rest = cc

  deeper : (front other : List X) (x y z w : X) → z ≡ w → Parted front other x y → Parted (z ∷ front) (w ∷ other) x y
  deeper front other x y z w same (here fronts is) = here (joined z w front other same fronts) is
  deeper front other x y z w same (before more is) = before more (joined w z other (front ++ x ∷ more) (sym same) is)
  deeper front other x y z w same (after more is) = after more (joined z w front (other ++ y ∷ more) same is)

  pub parted : (front other behind last : List X) (x y : X) → front ++ x ∷ behind ≡ other ++ y ∷ last → Parted front other x y
  parted [] [] behind last x y same = here refl (first_of x y behind last same)
  parted [] (w ∷ other) behind last x y same = before other (joined w x other other (sym (first_of x w behind (other ++ y ∷ last) same)) refl)
  parted (z ∷ front) [] behind last x y same = after front (joined z y front front (first_of z y (front ++ x ∷ behind) last same) refl)
  parted (z ∷ front) (w ∷ other) behind last x y same =
      deeper front other x y z w (first_of z w (front ++ x ∷ behind) (other ++ y ∷ last) same)
      (parted front other behind last x y (rest_of z w (front ++ x ∷ behind) (other ++ y ∷ last) same))
