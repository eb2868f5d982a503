-- A list whose elements are changed in place, one after another.
use Rattle.std.proofs.Common.{◌≡◌, ◌<◌, ℕ, suc, zero, ◌+◌, List, [], ◌∷◌, ◌++◌, length, map, take, drop, set, get_or, refl, sym, ap, ◌∙◌, arith}
use Rattle.std.proofs.{Math.Seq.{take-suc, take-suc-set, drop-drop}, lemmas.List.{get_or-drop, map-append}}

drop_set : {X : Type 0} (xs : List X) (i : ℕ) (x : X) → drop (suc i) (set xs i x) ≡ drop (suc i) xs
drop_set [] i x = refl
drop_set (y ∷ ys) zero x = refl
drop_set (y ∷ ys) (suc i) x = drop_set ys i x

module _ {X : Type 0} (f : X → X) (now before : List X) (i : ℕ) (d : X) (same : length now ≡ length before) where
  pub changed : (x : X) → i < length now → take i now ≡ map f (take i before) → drop i now ≡ drop i before → x ≡ f (get_or now i d)
      → (take (i + 1) (set now i x) ≡ map f (take (i + 1) before)) × (drop (i + 1) (set now i x) ≡ drop (i + 1) before)
  changed x lt front rest is =
      let next : suc i ≡ i + 1 = omega arith in
      let at : i + 0 ≡ i = omega arith in
      let value : get_or now i d ≡ get_or before i d =
      sym (ap (λ k. get_or now k d) at) ∙ sym (get_or-drop i now 0 d) ∙ ap (λ list. get_or list 0 d) rest ∙ get_or-drop i before 0 d ∙ ap (λ k. get_or before k d) at in
      let in_before : i < length before = omega arith in (
        sym (ap (λ k. take k (set now i x)) next) ∙ take-suc-set now i x lt ∙ ap (λ list. list ++ x ∷ []) front ∙ ap (λ y. map f (take i before) ++ y ∷ []) (is ∙ ap f value)
            ∙ sym (map-append f (take i before) (get_or before i d ∷ [])) ∙ sym (ap (map f) (take-suc before i d in_before)) ∙ ap (λ k. map f (take k before)) next,
        sym (ap (λ k. drop k (set now i x)) next) ∙ drop_set now i x ∙ ap (λ k. drop k now) next ∙ sym (drop-drop 1 i now) ∙ ap (drop 1) rest ∙ drop-drop 1 i before,
      )
