-- Lists of distinct things through an insertion and a removal.
use Rattle.std.proofs.Common.{◌≡◌, ◌≢◌, ◌↔◌, ℕ, List, ◌∷◌, [], ◌+◌, ◌-◌, ◌<◌, ◌≤◌, suc, zero, Bool, true, false, Contains, take, drop, length, get_or, map, refl, sym, ap, ◌∙◌, arith, subst, ⊎_elim}
use Rattle.std.proofs.lemmas.Bool.{cases_lt}
use Rattle.std.proofs.lemmas.List.Edits.{length-insert, length-remove, get_or-insert_below, get_or-insert_at, get_or-insert_above, get_or-remove_below, get_or-remove_above}
use Rattle.std.proofs.lemmas.List.Elements.{All-append, All-contains, All-take, All-drop, All-cons, Contains-get_or}
use Rattle.std.proofs.lemmas.List.Sorted.{Contains-permutation, IsPermutation-insert, IsPermutation-remove, IsPermutation-sym}
use Rattle.std.specs.{List.{All, AllPairs, insert, remove}, Prelude.{Result, Ok, Err, OnOk}}
use Rattle.npf_types.specs.declared.prefix.Prefix.{Prefix}
use Rattle.npf_lpm.specs.{Blocks.{Inserts, IsAt, Removes}, Lpm.{Gains, Loses}}

module _ {X : Type 0} where
  pub All-insert : (P : X → Type 0) (xs : List X) (k : ℕ) (x : X) → P x → All P xs → All P (insert xs k x)
  All-insert P xs k x one all = All-append P (take k xs) (x ∷ drop k xs) (All-take P k xs all) (All-cons P x (drop k xs) one (All-drop P k xs all))

  pub All-remove : (P : X → Type 0) (xs : List X) (k : ℕ) → All P xs → All P (remove xs k)
  All-remove P xs k all = All-append P (take k xs) (drop (suc k) xs) (All-take P k xs all) (All-drop P (suc k) xs all)

  -- a list whose elements are in order keeps to it with one more between those that are before it and those that are behind
  pub AllPairs-insert : (R : X → X → Type 0) (xs : List X) (p : ℕ) (x : X) → p ≤ length xs → AllPairs R xs
      → ((k : ℕ) (d : X) → k < p → R (get_or xs k d) x) → ((k : ℕ) (d : X) → p ≤ k → k < length xs → R x (get_or xs k d)) → AllPairs R (insert xs p x)
  AllPairs-insert R xs p x le all below above i j d lt within = ⊎_elim
      (λ (left : j < p). late (get_or xs j d) (get_or-insert_below xs p x d j left le) (λ _. all i j d lt (omega arith)) (λ here. absurd (omega (arith, here))) (λ k is up. absurd (omega arith)))
      (λ (right : p ≤ j). ⊎_elim
      (λ (past : p < j).
      let at : get_or (insert xs p x) j d ≡ get_or xs (j - 1) d = ap (λ k. get_or (insert xs p x) k d) (omega arith) ∙ get_or-insert_above xs p x d (j - 1) (omega arith) le in
      let inside : j - 1 < length xs = omega (arith, length-insert xs p x le) in
      late (get_or xs (j - 1) d) at (λ left. all i (j - 1) d (omega arith) inside) (λ here. above (j - 1) d (omega arith) inside) (λ k is up. all k (j - 1) d (omega arith) inside))
      (λ (here : j ≤ p). late x (ap (λ k. get_or (insert xs p x) k d) (omega arith) ∙ get_or-insert_at xs p x d le)
      (λ left. below i d left) (λ same. absurd (omega (arith, same))) (λ k is up. absurd (omega arith)))
      (cases_lt p j))
      (cases_lt j p) where
        late : (y : X) → get_or (insert xs p x) j d ≡ y → (i < p → R (get_or xs i d) y) → (i ≡ p → R x y) → ((k : ℕ) → i ≡ k + 1 → p ≤ k → R (get_or xs k d) y)
            → R (get_or (insert xs p x) i d) (get_or (insert xs p x) j d)
        late y is left here right = subst (λ (z : X). R (get_or (insert xs p x) i d) z) (sym is) (⊎_elim
            (λ (lt : i < p). subst (λ (z : X). R z y) (sym (get_or-insert_below xs p x d i lt le)) (left lt))
            (λ (ge : p ≤ i). ⊎_elim
            (λ (gt : p < i). subst (λ (z : X). R z y) (sym (ap (λ k. get_or (insert xs p x) k d) (omega arith) ∙ get_or-insert_above xs p x d (i - 1) (omega arith) le))
            (right (i - 1) (omega arith) (omega arith)))
            (λ (eq : i ≤ p). subst (λ (z : X). R z y) (sym (ap (λ k. get_or (insert xs p x) k d) (omega arith) ∙ get_or-insert_at xs p x d le)) (here (omega arith)))
            (cases_lt p i))
            (cases_lt i p))

  -- what was there once and was taken out is gone
  pub taken_gone : (xs : List X) (x : X) (place : ℕ) → AllPairs (λ p q. p ≢ q) xs → IsAt xs x place → ¬ Contains (remove xs place) x
  taken_gone xs x place once there (k, lt, is) =
      let within = there.within in ⊎_elim
      (λ (early : k < place). once k place x early within (sym (get_or-remove_below xs place x k early within) ∙ is ∙ sym (there.is x)))
      (λ (late : place ≤ k). once place (k + 1) x (omega arith) (omega (arith, length-remove xs place within))
      (there.is x ∙ sym (sym (get_or-remove_above xs place x k late within) ∙ is)))
      (cases_lt k place)

  -- another thing is in the list exactly where it was
  in_rest : (xs : List X) (x y : X) → y ≢ x → Contains (x ∷ xs) y → Contains xs y
  in_rest xs x y apart (zero, lt, is) = absurd (apart (sym is))
  in_rest xs x y apart (suc k, lt, is) = (k, omega arith, is)

  in_front : (xs : List X) (x y : X) → Contains xs y → Contains (x ∷ xs) y
  in_front xs x y (k, lt, is) = (suc k, omega arith, is)

  pub others_insert : (xs : List X) (place : ℕ) (x y : X) → y ≢ x → Contains (insert xs place x) y ↔ Contains xs y
  others_insert xs place x y apart =
      let moved = IsPermutation-insert xs place x in (
        λ h. in_rest xs x y apart (Contains-permutation _ _ y (IsPermutation-sym _ _ moved) h),
        λ h. Contains-permutation _ _ y moved (in_front xs x y h),
      )

  pub others_remove : (xs : List X) (place : ℕ) (x y : X) → IsAt xs x place → y ≢ x → Contains (remove xs place) y ↔ Contains xs y
  others_remove xs place x y there apart =
      let moved = IsPermutation-remove xs place x there.within (sym (there.is x)) in (
        λ h. Contains-permutation _ _ y (IsPermutation-sym _ _ moved) (in_front _ x y h),
        λ h. in_rest _ x y apart (Contains-permutation _ _ y moved h),
      )

  -- what holds of all is kept by a change
  pub All-inserts : {E : Type 0} (P : X → Type 0) (old new : List X) (x : X) (r : Result Bool E) → Inserts old new x r → P x → All P old → All P new
  All-inserts P old new x (Ok true) h one all = subst (All P) (sym h.1.put) (All-insert P old h.1.place x one all)
  All-inserts P old new x (Ok false) h one all = subst (All P) (sym h.1) all
  All-inserts P old new x (Err _) h one all = subst (All P) (sym h.1) all

  pub All-removes : (P : X → Type 0) (old new : List X) (x : X) (r : Bool) → Removes old new x r → All P old → All P new
  All-removes P old new x true h all = subst (All P) (sym h.taken) (All-remove P old h.place all)
  All-removes P old new x false h all = subst (All P) (sym h.1) all

  -- what holds of all holds of the same elements in another order
  pub All-members : (P : X → Type 0) (xs ys : List X) → ((x : X) → Contains ys x ↔ Contains xs x) → All P xs → All P ys
  All-members P xs ys same all k d lt = All-contains P xs (get_or ys k d) all ((same (get_or ys k d)).0 (Contains-get_or ys k d lt))

-- the same of the elements' images
module _ {X Y : Type 0} (f : X → Y) where
  pub map-insert : (xs : List X) (k : ℕ) (x : X) → map f (insert xs k x) ≡ insert (map f xs) k (f x)
  map-insert xs zero x = refl
  map-insert [] (suc k) x = refl
  map-insert (y ∷ xs) (suc k) x = ap (λ rest. f y ∷ rest) (map-insert xs k x)

  pub map-remove : (xs : List X) (k : ℕ) → map f (remove xs k) ≡ remove (map f xs) k
  map-remove [] zero = refl
  map-remove [] (suc k) = refl
  map-remove (y ∷ xs) zero = refl
  map-remove (y ∷ xs) (suc k) = ap (λ rest. f y ∷ rest) (map-remove xs k)

-- a change as callers see it
pub gains_of : {E : Type 0} (old new : List Prefix) (p : Prefix) (r : Result Bool E) → Inserts old new p r → OnOk r (Gains old new p)
gains_of old new p (Ok true) (absent, put) = record {
  there = subst (λ (l : List Prefix). Contains l p) (sym put.put) (put.place, omega (arith, put.within, length-insert old put.place p put.within), get_or-insert_at old put.place p p put.within);
  others = λ q apart. subst (λ (l : List Prefix). Contains l q ↔ Contains old q) (sym put.put) (others_insert old put.place p q apart);
}
gains_of old new p (Ok false) (there, same) = record {
  there = subst (λ (l : List Prefix). Contains l p) (sym same) there;
  others = λ q apart. subst (λ (l : List Prefix). Contains l q ↔ Contains old q) (sym same) ((λ h. h), (λ h. h));
}
gains_of old new p (Err _) h = tt

pub loses_of : (old new : List Prefix) (p : Prefix) (r : Bool) → Removes old new p r → Loses old new p
loses_of old new p true out = record {
  gone = out.gone;
  others = λ q apart. subst (λ (l : List Prefix). Contains l q ↔ Contains old q) (sym out.taken) (others_remove old out.place p q out.there apart);
}
loses_of old new p false (absent, same) = record {
  gone = subst (λ (l : List Prefix). ¬ Contains l p) (sym same) absent;
  others = λ q apart. subst (λ (l : List Prefix). Contains l q ↔ Contains old q) (sym same) ((λ h. h), (λ h. h));
}
