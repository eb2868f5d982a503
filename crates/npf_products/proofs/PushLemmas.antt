-- What holds of each element of a list that grows by one.
use Rattle.std.proofs.Common.{◌≡◌, ◌<◌, ℕ, ◌+◌, List, [], ◌∷◌, ◌++◌, length, get_or, sym, ◌∙◌, subst, inl, inr, arith}
use Rattle.std.proofs.lemmas.{Bool.cases_eq, List.{get_or_append_left, get_or_push}}

pub push_each : {X : Type 0} (P : ℕ → X → Type 0) (xs ys : List X) (y none : X) (i : ℕ) → ys ≡ xs ++ y ∷ [] → length xs ≡ i
    → ((k : ℕ) → k < i → P k (get_or xs k none)) → P i y → (k : ℕ) → k < i + 1 → P k (get_or ys k none)
push_each P xs ys y none i is len each here k low = elim (cases_eq k i) [
  | inl same ↦
      subst (λ zs. P k (get_or zs k none)) (sym is)
      (subst (P k) (sym (get_or_push xs y none k (len ∙ sym same))) (subst (λ n. P n y) (sym same) here))
  | inr other ↦
      subst (λ zs. P k (get_or zs k none)) (sym is)
      (subst (P k) (sym (get_or_append_left xs (y ∷ []) none k (omega arith))) (each k (omega arith)))
]
