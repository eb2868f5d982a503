-- Where a name first stands among names, and among those with one more.
use Rattle.std.proofs.Common.{◌≡◌, ◌+◌, ◌<◌, ℕ, Bool, true, false, is_some, Option, Some, None, List, [], ◌∷◌, ◌++◌, length, get_or, map}
use Rattle.std.{proofs.{Common.{take, if◌then◌else◌, refl, sym, ap, subst, true≢false, ◌∙◌, arith}, lemmas.Bool.false_from_ne_true}, specs.Option.option_or}
use Rattle.std.{proofs.lemmas.{List.{get_or-map, length-map, take_more}, Slice.Eq.bytes_eq-Decides}, specs.Str.bytes_eq}
use Rattle.npf_model.specs.Verdict.{first_where}

pub first_where-push : {X : Type 0} (test : X → Bool) (n : ℕ) (xs : List X) (x : X)
    → first_where test n (xs ++ x ∷ []) ≡ option_or (first_where test n xs) (if test x then Some (n + length xs) else None)
first_where-push test n [] x = ap (λ k. if test x then Some k else None) (omega arith)
first_where-push test n (y ∷ ys) x =
    by (test y) (first_where-push test (n + 1) ys x ∙ ap (λ k. option_or (first_where test (n + 1) ys) (if test x then Some k else None)) (omega arith)) where
      by : (b : Bool) → first_where test (n + 1) (ys ++ x ∷ []) ≡ option_or (first_where test (n + 1) ys) (if test x then Some (n + length (y ∷ ys)) else None)
          → (if b then Some n else first_where test (n + 1) (ys ++ x ∷ [])) ≡ option_or (if b then Some n else first_where test (n + 1) ys) (if test x then Some (n + length (y ∷ ys)) else None)
      by true rest = refl
      by false rest = rest

option_or-none : {X : Type 0} (o : Option X) → option_or o None ≡ o
option_or-none None = refl
option_or-none (Some x) = refl

option_or-there : {X : Type 0} (o p : Option X) → is_some o ≡ true → option_or o p ≡ o
option_or-there None p is = cc
option_or-there (Some x) p is = refl

new_place : (o : Option ℕ) (b : Bool) (count len : ℕ) → o ≡ None → b ≡ true → count ≡ len → Some count ≡ option_or o (if b then Some (0 + len) else None)
new_place None true count len h on counted = ap Some (omega (arith, counted))
new_place None false count len h on counted = cc
new_place (Some x) b count len h on counted = cc

old_place : (o : Option ℕ) (b : Bool) (k : ℕ) → b ≡ false → o ≡ option_or o (if b then Some k else None)
old_place o false k off = sym (option_or-none o)
old_place o true k off = cc

pub none_there : {X : Type 0} (o : Option X) → is_some o ≡ false → o ≡ None
none_there None off = refl
none_there (Some x) off = cc

-- a name that was there before keeps its place, and no other name is new
pub place_kept : (names : List (List ℕ)) (name text : List ℕ) → is_some (first_where (bytes_eq name) 0 names) ≡ true
    → first_where (bytes_eq text) 0 names ≡ first_where (bytes_eq text) 0 (names ++ name ∷ [])
place_kept names name text there = by (bytes_eq text name) refl ∙ sym (first_where-push (bytes_eq text) 0 names name) where
  by : (b : Bool) → bytes_eq text name ≡ b
      → first_where (bytes_eq text) 0 names ≡ option_or (first_where (bytes_eq text) 0 names) (if b then Some (0 + length names) else None)
  by true is =
      let same : text ≡ name = (bytes_eq-Decides text name).0 is in
      sym (option_or-there _ _ (subst (λ (t : List ℕ). is_some (first_where (bytes_eq t) 0 names) ≡ true) (sym same) there))
  by false is = sym (option_or-none (first_where (bytes_eq text) 0 names))

-- a new name stands behind the others
pub place_added : (names : List (List ℕ)) (name text : List ℕ) (count : ℕ) (now : Option ℕ) → first_where (bytes_eq name) 0 names ≡ None → count ≡ length names
    → now ≡ (if bytes_eq name text then Some count else first_where (bytes_eq text) 0 names)
    → now ≡ first_where (bytes_eq text) 0 (names ++ name ∷ [])
place_added names name text count now absent counted put =
    put ∙ by (bytes_eq name text) refl ∙ sym (first_where-push (bytes_eq text) 0 names name) where
      by : (b : Bool) → bytes_eq name text ≡ b
          → (if b then Some count else first_where (bytes_eq text) 0 names) ≡ option_or (first_where (bytes_eq text) 0 names) (if bytes_eq text name then Some (0 + length names) else None)
      by true is =
          let same : name ≡ text = (bytes_eq-Decides name text).0 is in
          new_place _ _ count (length names) (subst (λ (t : List ℕ). first_where (bytes_eq t) 0 names ≡ None) same absent)
          ((bytes_eq-Decides text name).1 (sym same)) counted
      by false is = old_place _ _ (0 + length names)
          (false_from_ne_true (bytes_eq text name) (λ h. true≢false (sym ((bytes_eq-Decides name text).1 (sym ((bytes_eq-Decides text name).0 h))) ∙ is)))

-- the names of the first things, with that of the next one
pub names_more : {X : Type 0} (name_of : X → List ℕ) (xs : List X) (i : ℕ) (x d : X) (text : List ℕ) → i < length xs → x ≡ get_or xs i d → text ≡ name_of x
    → take i (map name_of xs) ++ text ∷ [] ≡ take (i + 1) (map name_of xs)
names_more name_of xs i x d text within is says =
    let below : i < length (map name_of xs) = omega (arith, within, length-map xs name_of) in
    let at : get_or (map name_of xs) i text ≡ name_of (get_or xs i d) = get_or-map name_of xs i d text within in
    ap (λ t. take i (map name_of xs) ++ t ∷ []) (says ∙ ap name_of is ∙ sym at) ∙ sym (take_more (map name_of xs) i text below)
