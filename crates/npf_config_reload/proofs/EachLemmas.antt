-- What holds of each part of a list.
use Rattle.std.proofs.Common.{◌≡◌, ◌+◌, ◌<◌, ℕ, Bool, true, false, List, [], ◌∷◌, ◌++◌, All, cond, filter, flat_map, get_or, length, map, take, sym, ap, subst, ◌∙◌, append-nil}
use Rattle.std.proofs.lemmas.List.{take_more, Concat.{flat_map-append, flat_map-cons}, Elements.{All-append, All-cons, All-head, All-nil, All-tail}}

module _ {Y : Type 0} (P : Y → Type 0) where
  front : (xs ys : List Y) → All P (xs ++ ys) → All P xs
  front [] ys all = All-nil P
  front (x ∷ xs) ys all = All-cons P x xs (All-head P x (xs ++ ys) all) (front xs ys (All-tail P x (xs ++ ys) all))

  behind : (xs ys : List Y) → All P (xs ++ ys) → All P ys
  behind [] ys all = all
  behind (x ∷ xs) ys all = behind xs ys (All-tail P x (xs ++ ys) all)

  pub all_filter : (test : Y → Bool) (xs : List Y) → All P xs → All P (filter test xs)
  all_filter test [] all = All-nil P
  all_filter test (x ∷ xs) all = by (test x) (all_filter test xs (All-tail P x xs all)) where
    by : (passes : Bool) → All P (filter test xs) → All P (cond passes (x ∷ filter test xs) (filter test xs))
    by true rest = All-cons P x (filter test xs) (All-head P x xs all) rest
    by false rest = rest

  module _ {X : Type 0} (f : X → List Y) where
    pub all_in : (xs : List X) → All (λ x. All P (f x)) xs → All P (flat_map f xs)
    all_in [] all = All-nil P
    all_in (x ∷ xs) all =
        subst (All P) (sym (flat_map-cons f x xs))
        (All-append P (f x) (flat_map f xs) (All-head (λ y. All P (f y)) x xs all) (all_in xs (All-tail (λ y. All P (f y)) x xs all)))

    pub each_in : (xs : List X) → All P (flat_map f xs) → All (λ x. All P (f x)) xs
    each_in [] all = All-nil (λ y. All P (f y))
    each_in (x ∷ xs) all =
        let joined = subst (All P) (flat_map-cons f x xs) all in
        All-cons (λ y. All P (f y)) x xs (front (f x) (flat_map f xs) joined) (each_in xs (behind (f x) (flat_map f xs) joined))

  pub each_of_map : {X : Type 0} (f : X → Y) (xs : List X) → All P (map f xs) → All (λ x. P (f x)) xs
  each_of_map f [] all = All-nil (λ y. P (f y))
  each_of_map f (x ∷ xs) all = All-cons (λ y. P (f y)) x xs (All-head P (f x) (map f xs) all) (each_of_map f xs (All-tail P (f x) (map f xs) all))

-- the parts of the first of a list, with those of the next one
pub parts_more : {X Y : Type 0} (f : X → List Y) (xs : List X) (i : ℕ) (x : X) → i < length xs → x ≡ get_or xs i x → flat_map f (take (i + 1) xs) ≡ flat_map f (take i xs) ++ f x
parts_more f xs i x within is =
    ap (flat_map f) (take_more xs i x within ∙ ap (λ here. take i xs ++ here ∷ []) (sym is)) ∙ flat_map-append f (take i xs) (x ∷ [])
    ∙ ap (λ here. flat_map f (take i xs) ++ here) (flat_map-cons f x [] ∙ append-nil (f x))
