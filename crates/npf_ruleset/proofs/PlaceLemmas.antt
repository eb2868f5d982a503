-- The first and the last place of what passes a test.
use Rattle.std.proofs.Common.{◌≡◌, ◌<◌, ◌≤◌, ℕ, suc, ◌+◌, Bool, true, false, List, [], ◌∷◌, ◌++◌, Option, Some, None, length, get_or, take}
use Rattle.std.{proofs.Common.{drop, refl, sym, subst, ap, ◌∙◌, arith, inl, inr, drop_of_length-le}, specs.Prelude.if◌then◌else◌}
use Rattle.std.{specs.Option.{option_map, option_or}, proofs.{Math.{Seq.{drop-cons, take-suc, take-length}, Nat.min-eq_left}, lemmas.List.length-take}}
use Rattle.std.proofs.lemmas.Bool.{cases_Bool}
use Rattle.npf_model.specs.Verdict.{first_where, last_where}

module _ {X : Type 0} (test : X → Bool) where
  -- the next one passes, or the others decide
  pub first_here : (n : ℕ) (xs : List X) (x : X) → n < length xs → x ≡ get_or xs n x → test x ≡ true
      → Some n ≡ first_where test n (drop n xs)
  first_here n xs x lt is passes =
      rw (drop-cons xs n x lt) (subst (λ y. Some n ≡ (if test y then Some n else first_where test (n + 1) (drop (suc n) xs))) is
      (rw passes refl))

  pub first_behind : (n : ℕ) (xs : List X) (x : X) → n < length xs → x ≡ get_or xs n x → test x ≡ false
      → first_where test n (drop n xs) ≡ first_where test (n + 1) (drop (n + 1) xs)
  first_behind n xs x lt is fails =
      let next : suc n ≡ n + 1 = omega arith in
      rw (drop-cons xs n x lt) (subst (λ y. (if test y then Some n else first_where test (n + 1) (drop (suc n) xs)) ≡ first_where test (n + 1) (drop (n + 1) xs)) is
      (rw fails (ap (λ k. first_where test (n + 1) (drop k xs)) next)))

  -- the places count from where the list begins
  pub first_from : (n m : ℕ) (xs : List X) → first_where test (n + m) xs ≡ option_map (λ k. n + k) (first_where test m xs)
  first_from n m [] = refl
  first_from n m (x ∷ xs) = elim (cases_Bool (test x)) [
    | inl passes ↦ rw passes refl
    | inr fails ↦ rw fails (let next : n + m + 1 ≡ n + (m + 1) = omega arith in ap (λ k. first_where test k xs) next ∙ first_from n (m + 1) xs)
  ]

  pub last_from : (n m : ℕ) (xs : List X) → last_where test (n + m) xs ≡ option_map (λ k. n + k) (last_where test m xs)
  last_from n m [] = refl
  last_from n m (x ∷ xs) =
      let next : n + m + 1 ≡ n + (m + 1) = omega arith in
      let others = ap (λ k. last_where test k xs) next ∙ last_from n (m + 1) xs in
      rw others (joined (last_where test (m + 1) xs) (test x))
    where
      joined : (o : Option ℕ) (b : Bool) → option_or (option_map (λ k. n + k) o) (if b then Some (n + m) else None) ≡ option_map (λ k. n + k) (option_or o (if b then Some m else None))
      joined (Some k) b = refl
      joined None true = refl
      joined None false = refl

  last_snoc : (n : ℕ) (xs : List X) (x : X) → last_where test n (xs ++ x ∷ []) ≡ (if test x then Some (n + length xs) else last_where test n xs)
  last_snoc n [] x = ended (test x) (let same : n ≡ n + 0 = omega arith in same)
    where
      ended : (b : Bool) → n ≡ n + 0 → (if b then Some n else None) ≡ (if b then Some (n + 0) else None)
      ended true same = ap (λ k. Some k) same
      ended false same = refl
  last_snoc n (y ∷ ys) x =
      let next : n + 1 + length ys ≡ n + suc (length ys) = omega arith in
      ap (λ o. option_or o (if test y then Some n else None)) (last_snoc (n + 1) ys x) ∙ chosen (test x) next
    where
      chosen : (b : Bool) → n + 1 + length ys ≡ n + suc (length ys)
          → option_or (if b then Some (n + 1 + length ys) else last_where test (n + 1) ys) (if test y then Some n else None)
          ≡ (if b then Some (n + suc (length ys)) else option_or (last_where test (n + 1) ys) (if test y then Some n else None))
      chosen true next = ap (λ k. Some k) next
      chosen false next = refl

  -- the one in front passes, or those before it decide
  pub last_here : (n : ℕ) (xs : List X) (x : X) → n < length xs → x ≡ get_or xs n x → test x ≡ true
      → Some n ≡ last_where test 0 (take (suc n) xs)
  last_here n xs x lt is passes =
      let len : length (take n xs) ≡ n = length-take n xs ∙ min-eq_left (let le : n ≤ length xs = omega arith in le) in
      rw (take-suc xs n x lt) (rw (last_snoc 0 (take n xs) (get_or xs n x)) (subst (λ y. Some n ≡ (if test y then Some (0 + length (take n xs)) else last_where test 0 (take n xs))) is
      (rw passes (ap (λ k. Some k) (let e : n ≡ 0 + length (take n xs) = omega arith in e)))))

  pub last_before : (n : ℕ) (xs : List X) (x : X) → n < length xs → x ≡ get_or xs n x → test x ≡ false
      → last_where test 0 (take (suc n) xs) ≡ last_where test 0 (take n xs)
  last_before n xs x lt is fails =
      rw (take-suc xs n x lt)
      (rw (last_snoc 0 (take n xs) (get_or xs n x)) (subst (λ y. (if test y then Some (0 + length (take n xs)) else last_where test 0 (take n xs)) ≡ last_where test 0 (take n xs)) is
      (rw fails refl)))

  -- and none decides that was taken away
  pub first_nowhere : (n : ℕ) (xs : List X) → length xs ≤ n → first_where test n (drop n xs) ≡ None
  first_nowhere n xs past = ap (first_where test n) (drop_of_length-le xs past)

  pub last_whole : (xs : List X) → last_where test 0 xs ≡ last_where test 0 (take (length xs) xs)
  last_whole xs = ap (last_where test 0) (sym (take-length xs))
