-- How many elements lists have of which one has those of the other.
use Rattle.std.proofs.Common.{◌≡◌, ◌≢◌, ◌<◌, ◌≤◌, ◌+◌, ◌-◌, ℕ, inl, inr, List, [], ◌∷◌, length, get_or, refl, sym, ap, ◌∙◌, arith, Contains}
use Rattle.std.{specs.{Prelude.{suc, ◌⊎◌}, List.{AllPairs, remove}}, proofs.lemmas.{Bool.cases_order, List.get_or_default}}
use Rattle.std.proofs.lemmas.List.Edits.{length-remove, get_or-remove_below, get_or-remove_above}

module _ {X : Type 0} where
  -- an element that isn't the one taken out is still there
  still : (ys : List X) (i : ℕ) (x : X) → i < length ys → get_or ys i x ≡ x → (z : X) → z ≢ x → Contains ys z → Contains (remove ys i) z
  still ys i x below is z other there = by (cases_order there.0 i)
    where
      fewer : length (remove ys i) + 1 ≡ length ys
      fewer = length-remove ys i below

      by : (there.0 ≡ i) ⊎ ((there.0 < i) ⊎ (i < there.0)) → Contains (remove ys i) z
      by (inl same) =
          absurd (other (sym there.2 ∙ ap (λ (k : ℕ). get_or ys k z) same ∙ get_or_default ys i z x below ∙ is))
      by (inr (inl before)) = (there.0, omega (arith, fewer, before, below), get_or-remove_below ys i z there.0 before below ∙ there.2)
      by (inr (inr behind)) =
          let next : there.0 - 1 + 1 ≡ there.0 = omega (arith, behind) in (
            there.0 - 1,
            omega (arith, fewer, behind, there.1),
            get_or-remove_above ys i z (there.0 - 1) (omega (arith, behind)) below ∙ ap (λ (k : ℕ). get_or ys k z) next ∙ there.2,
          )

  apart_behind : (x : X) (xs : List X) → AllPairs (λ p q. p ≢ q) (x ∷ xs) → AllPairs (λ p q. p ≢ q) xs
  apart_behind x xs apart i j d before below = apart (suc i) (suc j) d (omega (arith, before)) (omega (arith, below))

  apart_from : (x : X) (xs : List X) → AllPairs (λ p q. p ≢ q) (x ∷ xs) → (z : X) → Contains xs z → z ≢ x
  apart_from x xs apart z there same = apart 0 (suc there.0) z (omega arith) (omega (arith, there.1)) (sym same ∙ sym there.2)

  behind : (x z : X) (xs : List X) → Contains xs z → Contains (x ∷ xs) z
  behind x z xs there = (suc there.0, omega (arith, there.1), there.2)

  -- elements apart from each other are no more than those of a list that has them all
  pub no_more : (xs ys : List X) → AllPairs (λ p q. p ≢ q) xs → ((z : X) → Contains xs z → Contains ys z) → length xs ≤ length ys
  no_more [] ys apart has = omega arith
  no_more (x ∷ xs) ys apart has =
      let there = has x (0, omega arith, refl) in
      let fewer = length-remove ys there.0 there.1 in
      let rest = no_more xs (remove ys there.0) (apart_behind x xs apart)
      (λ z listed. still ys there.0 x there.1 there.2 z (apart_from x xs apart z listed) (has z (behind x z xs listed))) in
      omega (arith, fewer, rest)
