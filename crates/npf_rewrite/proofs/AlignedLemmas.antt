-- The sum of what is carried once a word of it is written, at an even place or at an odd one.
use Rattle.std.proofs.Common.{◌≡◌, ℕ, zero, suc, ◌+◌, ◌-◌, ◌*◌, ◌<◌, ◌≤◌, ◌⊎◌, Bool, true, false, List, [], ◌∷◌, refl, ap, inl, inr, ⊎_elim, arith}
use Rattle.std.{proofs.lemmas.Bool.{cases_lt, Decides.nat_tests}, specs.Prelude.{◌==◌, ◌/◌, ◌%◌, ◌^◌, if◌then◌else◌, slice_index}}
use Rattle.npf_rewrite.specs.{declared.word.WordAt.WordAt, Normalised.{aligned, joined}, Verified.{HasBytes, carried_total, words_total}, Word.word}
use Rattle.npf_rewrite.proofs.SumLemmas.{left_total, left_total-same}
use Rattle.npf_rewrite.proofs.TotalLemmas.{AllFit, after, byte_after-elsewhere, byte_after-lower, byte_after-upper, news, olds, value_at, words_total-after, words_total-same}

-- two bytes that lie across two words
module _ (f g : ℕ → ℕ) (j : ℕ) (same : (k : ℕ) → (k < j) ⊎ (j + 2 ≤ k) → g k ≡ f k) where
  across : (at n k : ℕ) → j ≡ at + 2 * k + 1 → k + 1 < n
      → words_total g at n + (f j + 2 ^ 8 * f (j + 1)) ≡ words_total f at n + (g j + 2 ^ 8 * g (j + 1))
  across at (suc (suc n)) zero e h =
      let here : at + 1 ≡ j = omega arith in
      let next : at + 2 ≡ j + 1 = omega arith in
      let rest = words_total-same g f (at + 2 + 2) n (λ k from to. same k (inr (omega arith))) in
      omega (
        arith,
        rest,
        same at (inl (omega arith)),
        same (at + 2 + 1) (inr (omega arith)),
        ap f here,
        ap g here,
        ap f next,
        ap g next,
      )
  across at (suc n) (suc k) e h =
      let rest = across (at + 2) n k (omega arith) (omega arith) in
      omega (arith, rest, same at (inl (omega arith)), same (at + 1) (inl (omega arith)))
  across at zero k e h = absurd (omega arith)
  across at (suc zero) zero e h = absurd (omega arith)

  -- the second of which is behind the last word
  across-last : (at n k : ℕ) → j ≡ at + 2 * k + 1 → n ≡ k + 1
      → words_total g at n + f j ≡ words_total f at n + g j
  across-last at (suc n) zero e h =
      let here : at + 1 ≡ j = omega arith in
      let rest = words_total-same g f (at + 2) n (λ k from to. absurd (omega arith)) in
      omega (arith, rest, same at (inl (omega arith)), ap f here, ap g here)
  across-last at (suc n) (suc k) e h =
      let rest = across-last (at + 2) n k (omega arith) (omega arith) in
      omega (arith, rest, same at (inl (omega arith)), same (at + 1) (inl (omega arith)))
  across-last at zero k e h = absurd (omega arith)

left-odd : (f : ℕ → ℕ) (at end : ℕ) → (end - at) % 2 ≡ 1 → left_total f at end ≡ 2 ^ 8 * f (end - 1)
left-odd f at end odd = grind (arith, nat_tests)

module _ (bytes : List ℕ) (at end : ℕ) (w : WordAt) (from : at ≤ w.at) (to : w.at + 2 ≤ end) where
  abbrev f : ℕ → ℕ
  f = slice_index bytes

  abbrev g : ℕ → ℕ
  g = after (w ∷ []) f

  abbrev m : ℕ
  m = (end - at) / 2

  even-total : (w.at - at) % 2 ≡ 0
      → carried_total g at end + value_at f w.at ≡ carried_total f at end + w.value
  even-total even =
      let words = words_total-after f at m at (w ∷ [])
      (from, (((w.at - at) / 2, (omega (arith, from, even), omega (arith, from, to, even))), tt)) in
      let left = left_total-same f g at end
      (λ odd. byte_after-elsewhere w (end - 1) (f (end - 1)) (inr (omega (arith, from, to, even)))) in
      omega (arith, words, left)

  odd-bytes : (w.at - at) % 2 ≡ 1
      → carried_total g at end + (f w.at + 2 ^ 8 * f (w.at + 1))
      ≡ carried_total f at end + (g w.at + 2 ^ 8 * g (w.at + 1))
  odd-bytes odd =
      let k = (w.at - at) / 2 in
      let same : (j : ℕ) → (j < w.at) ⊎ (w.at + 2 ≤ j) → g j ≡ f j =
      λ j apart. byte_after-elsewhere w j (f j) apart in
      let inner = λ (h : k + 1 < m).
      let words = across f g w.at same at m k (omega (arith, from, odd)) h in
      let left = left_total-same f g at end (λ one. same (end - 1) (inr (omega (arith, h, one, from, odd)))) in
      let sum : carried_total g at end + (f w.at + 2 ^ 8 * f (w.at + 1))
      ≡ carried_total f at end + (g w.at + 2 ^ 8 * g (w.at + 1)) = omega (arith, words, left) in
      sum in
      let last = λ (h : m ≤ k + 1).
      let words = across-last f g w.at same at m k (omega (arith, from, odd)) (omega (arith, h, from, odd, to)) in
      let one : (end - at) % 2 ≡ 1 = omega (arith, h, from, odd, to) in
      let here : end - 1 ≡ w.at + 1 = omega (arith, h, from, odd, to) in
      let sum : carried_total g at end + (f w.at + 2 ^ 8 * f (w.at + 1))
      ≡ carried_total f at end + (g w.at + 2 ^ 8 * g (w.at + 1)) =
      omega (arith, words, left-odd f at end one, left-odd g at end one, ap f here, ap g here) in
      sum in
      ⊎_elim inner last (cases_lt (k + 1) m)

  odd-total : (w.at - at) % 2 ≡ 1
      → carried_total g at end + (f w.at + 2 ^ 8 * f (w.at + 1))
      ≡ carried_total f at end + (w.value / 2 ^ 8 + 2 ^ 8 * (w.value % 2 ^ 8))
  odd-total odd =
      let upper = byte_after-upper w w.at (f w.at) refl in
      let lower = byte_after-lower w (w.at + 1) (f (w.at + 1)) refl in
      omega (arith, odd-bytes odd, upper, lower)

  abbrev words : Bool → List WordAt
  words even =
      if even then w ∷ []
      else word (w.at - 1) (joined (f (w.at - 1)) (w.value / 2 ^ 8))
      ∷ word (w.at + 1) (joined (w.value % 2 ^ 8) (f (w.at + 2))) ∷ []

  total-by : (even : Bool) → ((w.at - at) % 2 == 0) ≡ even
      → carried_total g at end + olds f (words even) ≡ carried_total f at end + news (words even)
  total-by true is =
      let even : (w.at - at) % 2 ≡ 0 = grind (arith, nat_tests) in
      omega (arith, even-total even)
  total-by false is =
      let odd : (w.at - at) % 2 ≡ 1 = grind (arith, nat_tests) in
      let here : w.at - 1 + 1 ≡ w.at = omega (arith, odd) in
      let next : w.at + 1 + 1 ≡ w.at + 2 = omega arith in
      omega (arith, odd-total odd, ap f here, ap f next)

  -- the sum follows the words across which it lies
  pub aligned-total : carried_total g at end + olds f (aligned bytes at w)
      ≡ carried_total f at end + news (aligned bytes at w)
  aligned-total = total-by ((w.at - at) % 2 == 0) refl

  fits-by : HasBytes bytes → w.value < 2 ^ 16 → (even : Bool) → AllFit (words even)
  fits-by small fits true = (fits, tt)
  fits-by small fits false =
      (omega (arith, small (w.at - 1), fits), (omega (arith, small (w.at + 2), fits), tt))

  pub aligned-fits : HasBytes bytes → w.value < 2 ^ 16 → AllFit (aligned bytes at w)
  aligned-fits small fits = fits-by small fits ((w.at - at) % 2 == 0)
