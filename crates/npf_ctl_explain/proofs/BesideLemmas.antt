-- Texts place by place.
use Rattle.std.proofs.Common.{◌≡◌, ◌<◌, ◌≤◌, ◌∙◌, ◌+◌, ◌++◌, ℕ, List, [], ◌∷◌, Option, Some, None, Bor, length, get_or, map, slice_get, refl, sym, ap, ap₂, arith}
use Rattle.std.specs.{List.{HoldsAt, flat_map, range_with_len}, Option.{IfSome, MatchOption, option_copied, option_map}}
use Rattle.std.proofs.lemmas.{List.{flat_map_more, length-map}, Option.{slice_get-map, slice_get_past, slice_get_read}}
use Rattle.npf_search.proofs.RegionLemmas.{range_more}
use Rattle.npf_ctl_explain.specs.Beside.{beside, each_beside}

-- what `get` gives is what stands there
pub got : {A : Type 0} (xs : List A) (at : ℕ) (found : Option (Bor A)) → IfSome found (λ x. x.now ≡ get_or xs at x.now)
    → MatchOption found (length xs ≤ at) (λ x. (at < length xs) × HoldsAt (λ y. x.now ≡ y) xs at) → option_copied found ≡ slice_get xs at
got xs at None is past = sym (slice_get_past xs at past)
got xs at (Some x) is there = sym (slice_get_read xs (length xs) at x.now refl there.0 is)

-- one place more
pub each_more : (f : ℕ → List ℕ) (old now new : List ℕ) (n : ℕ) → now ≡ old ++ flat_map f (range_with_len 0 n) → new ≡ now ++ f n
    → new ≡ old ++ flat_map f (range_with_len 0 (n + 1))
each_more f old now new n is more =
    let place : n ≡ 0 + n = omega arith in
    more ∙ ap (λ text. text ++ f n) is ∙ flat_map_more f old (range_with_len 0 n) n
    ∙ ap (λ k. old ++ flat_map f (range_with_len 0 n ++ k ∷ [])) place ∙ ap (λ (places : List ℕ). old ++ flat_map f places) (range_more [] 0 n)

flat_map-same : {X : Type 0} (f g : X → List ℕ) (xs : List X) → ((x : X) → f x ≡ g x) → flat_map f xs ≡ flat_map g xs
flat_map-same f g [] same = refl
flat_map-same f g (x ∷ xs) same = ap₂ (λ a b. a ++ b) (same x) (flat_map-same f g xs same)

beside-map : {X Y Z : Type 0} (text : Z → Y → List ℕ) (f : X → Z) (x : Option X) (y : Option Y) → beside text (option_map f x) y ≡ beside (λ one. text (f one)) x y
beside-map text f None y = refl
beside-map text f (Some x) None = refl
beside-map text f (Some x) (Some y) = refl

-- the items of the first list by what they are read as
pub each_beside-map : {X Y Z : Type 0} (text : ℕ → Z → Y → List ℕ) (f : X → Z) (xs : List X) (ys : List Y)
    → each_beside text (map f xs) ys ≡ each_beside (λ k x. text k (f x)) xs ys
each_beside-map text f xs ys =
    ap (λ n. flat_map (λ k. beside (text k) (slice_get (map f xs) k) (slice_get ys k)) (range_with_len 0 n)) (length-map xs f)
    ∙ flat_map-same _ _ (range_with_len 0 (length xs))
    (λ k. ap (λ x. beside (text k) x (slice_get ys k)) (slice_get-map f xs k) ∙ beside-map (text k) f (slice_get xs k) (slice_get ys k))
