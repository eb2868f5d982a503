-- What holds of two halves of a part holds of the part.
use Rattle.std.proofs.Common.{◌≡◌, ℕ, ◌+◌, ◌-◌, ◌<◌, ◌≤◌, List, ◌++◌, length, get_or, refl, sym, subst, ap, ◌∙◌, ⊎_elim, arith}
use Rattle.std.proofs.lemmas.{Bool.cases_lt, List.{length-append, get_or_append_left, get_or-append_right}}
use denote.Ref.{MutBor}
use denote.Param.Members.{Shared}
use Rattle.std.specs.Fork.{AcceptsAt, ChangesAt}
use Rattle.npf_runner_threads.specs.Parts.{IsAccepted, IsChanged}

-- a relation at a place of two lists is one at the same place of others that have the same items there
moved : {X : Type 0} (R : ℕ → X → X → Type 0) (i j : ℕ) (x y x' y' : X) → i ≡ j → x ≡ x' → y ≡ y' → R i x y → R j x' y'
moved R i j x y x' y' a b c r = subst (λ k. R k x' y') a (subst (λ u. R i u y') b (subst (R i x) c r))

module _ {F T : Type 0} (g : Shared F (ℕ × (MutBor T × Unit {0})) ((Unit {0}) × (MutBor T × Unit {0}))) (f : F) (base : ℕ) (all front back : List T) (is : all ≡ front ++ back) where
  sum : length all ≡ length front + length back
  sum = ap length is ∙ length-append front back

  pub accepts_front : IsAccepted g f base all → IsAccepted g f base front
  accepts_front so = record {
    room = (let fits = so.room in omega (arith, fits, sum));
    each = λ k d low. subst (AcceptsAt g f (base + k)) (ap (λ xs. get_or xs k d) is ∙ get_or_append_left front back d k low) (so.each k d (omega (arith, low, sum)));
  }

  pub accepts_back : IsAccepted g f base all → IsAccepted g f (base + length front) back
  accepts_back so = record {
    room = (let fits = so.room in omega (arith, fits, sum));
    each = λ k d low.
        let n = length front in
        let there : n + k - n ≡ k = omega arith in
        let item : get_or all (n + k) d ≡ get_or back k d = ap (λ xs. get_or xs (n + k) d) is ∙ (get_or-append_right front back n (n + k) d refl (omega arith) ∙ ap (λ j. get_or back j d) there) in
        subst (λ i. AcceptsAt g f i (get_or back k d)) {x = base + (n + k)} (omega arith)
        (subst (AcceptsAt g f (base + (n + k))) item (so.each (n + k) d (omega (arith, low, sum))));
  }

  pub changes_both : (first second : List T) → IsChanged g f base front first → IsChanged g f (base + length front) back second → IsChanged g f base all (first ++ second)
  changes_both first second a b = record {
    same_length = (let n = a.same_length in let m = b.same_length in omega (arith, n, m, sum, length-append first second));
    each = λ k d low. ⊎_elim
        (λ (under : k < length front). moved (ChangesAt g f) (base + k) (base + k) _ _ _ _ refl
        (sym (ap (λ xs. get_or xs k d) is ∙ get_or_append_left front back d k under))
        (sym (get_or_append_left first second d k (let n = a.same_length in omega (arith, n, under)))) (a.each k d under))
        (λ (past : length front ≤ k). moved (ChangesAt g f) (base + length front + (k - length front)) (base + k) _ _ _ _ (omega (arith, past))
        (sym (ap (λ xs. get_or xs k d) is ∙ get_or-append_right front back (length front) k d refl past))
        (sym (get_or-append_right first second (length front) k d a.same_length past)) (b.each (k - length front) d (omega (arith, low, past, sum))))
        (cases_lt k (length front));
  }
