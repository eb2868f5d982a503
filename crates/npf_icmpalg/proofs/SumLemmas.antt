-- Sums that follow words that are written one after the other.
use Rattle.std.proofs.Common.{◌≡◌, ℕ, List, [], ◌∷◌, ◌++◌, refl, sym, ap, ◌∙◌}
use Rattle.npf_fields.specs.Field.{number16}
use Rattle.npf_rewrite.specs.{declared.word.WordAt.WordAt, Sum.{sum_after, sum_after_word}}

module _ (empty : ℕ) (bytes : List ℕ) where
  pub sum_after-append : (ws vs : List WordAt) (sum : ℕ)
      → sum_after empty bytes (ws ++ vs) sum ≡ sum_after empty bytes vs (sum_after empty bytes ws sum)
  sum_after-append [] vs sum = refl
  sum_after-append (w ∷ ws) vs sum =
      sum_after-append ws vs (sum_after_word empty sum (number16 bytes w.at) w.value)

  -- a sum after some words, and then after others
  pub sum_after_both : (ws vs : List WordAt) (sum first last : ℕ)
      → first ≡ sum_after empty bytes ws sum → last ≡ sum_after empty bytes vs first
      → last ≡ sum_after empty bytes (ws ++ vs) sum
  sum_after_both ws vs sum first last one two =
      two ∙ ap (sum_after empty bytes vs) one ∙ sym (sum_after-append ws vs sum)

  -- the same words, by another name
  pub sum_after_as : (ws vs : List WordAt) (sum last : ℕ) → ws ≡ vs
      → last ≡ sum_after empty bytes ws sum → last ≡ sum_after empty bytes vs sum
  sum_after_as ws vs sum last same is = is ∙ ap (λ words. sum_after empty bytes words sum) same
