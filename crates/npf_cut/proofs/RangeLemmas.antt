-- Sets through the ranges that stand for them, one after the other.
use Rattle.std.proofs.Common.{◌≡◌, ◌≤◌, ◌<◌, ◌+◌, ◌↔◌, ◌⊎◌, ℕ, List, [], ◌∷◌, ◌++◌, Contains, max, length, get_or, inl, inr, ◌∙◌, Result, Ok, Err, IfOk, Vec, IsPermutation, ⊎_elim, sym, subst, arith}
use Rattle.std.proofs.lemmas.{Bool.cases_lt}
use Rattle.std.proofs.lemmas.List.Elements.{Contains-append_left, Contains-push, Contains-push_cases, Contains-get_or}
use Rattle.std.proofs.lemmas.List.Sorted.{Contains-permutation, IsPermutation-sym}
use Rattle.npf_cut.specs.{declared.range.Range.Range, Range.IsInRanges}

-- the number lies in this range of the set
pub record Covers (range : Range) (set number : ℕ) : Type 0 where
  pub of : range.set ≡ set
  pub low : range.low ≤ number
  pub high : number ≤ range.high

pub in_more : (xs : List Range) (y : Range) (s v : ℕ) → IsInRanges xs s v → IsInRanges (xs ++ y ∷ []) s v
in_more xs y s v h = record { range = h.range; among = Contains-append_left xs (y ∷ []) h.range h.among; of = h.of; low = h.low; high = h.high }

pub in_last : (xs : List Range) (y : Range) (s v : ℕ) → Covers y s v → IsInRanges (xs ++ y ∷ []) s v
in_last xs y s v h = record { range = y; among = Contains-push xs y; of = h.of; low = h.low; high = h.high }

pub in_cases : (xs : List Range) (y : Range) (s v : ℕ) → IsInRanges (xs ++ y ∷ []) s v → IsInRanges xs s v ⊎ Covers y s v
in_cases xs y s v h = ⊎_elim
    (λ (old : Contains xs h.range). inl record { range = h.range; among = old; of = h.of; low = h.low; high = h.high })
    (λ (is : y ≡ h.range). inr (subst (λ (r : Range). Covers r s v) (sym is) record { of = h.of; low = h.low; high = h.high }))
    (Contains-push_cases xs y h.range h.among)

pub in_at : (xs : List Range) (k : ℕ) (d : Range) (s v : ℕ) → k < length xs → Covers (get_or xs k d) s v → IsInRanges xs s v
in_at xs k d s v lt h = record { range = get_or xs k d; among = Contains-get_or xs k d lt; of = h.of; low = h.low; high = h.high }

-- the merged ranges with the last one stand for the sets by the first `count` ranges, and for nothing else
pub record HasMerged (ranges merged : List Range) (last : Range) (count : ℕ) : Type 0 where
  pub sound : (s v : ℕ) → IsInRanges (merged ++ last ∷ []) s v → IsInRanges ranges s v
  pub whole : (k : ℕ) (d : Range) (s v : ℕ) → k < count → Covers (get_or ranges k d) s v → IsInRanges (merged ++ last ∷ []) s v

module _ (ranges merged : List Range) (last range : Range) (at : ℕ) (lt : at < length ranges) (is : (d : Range) → get_or ranges at d ≡ range) (had : HasMerged ranges merged last at) where
  in_range : (s v : ℕ) → Covers range s v → IsInRanges ranges s v
  in_range s v h = in_at ranges at range s v lt (subst (λ (r : Range). Covers r s v) (sym (is range)) h)

  pub pushed : HasMerged ranges (merged ++ last ∷ []) range (at + 1)
  pushed = record {
    sound = λ s v h. ⊎_elim (had.sound s v) (in_range s v) (in_cases (merged ++ last ∷ []) range s v h);
    whole = λ k d s v less h. ⊎_elim
        (λ (old : k < at). in_more (merged ++ last ∷ []) range s v (had.whole k d s v old h))
        (λ (new : at ≤ k).
        let same : k ≡ at = omega arith in
        in_last (merged ++ last ∷ []) range s v (subst (λ (r : Range). Covers r s v) (is d) (subst (λ (n : ℕ). Covers (get_or ranges n d) s v) same h)))
        (cases_lt k at);
  }

  -- the last one, longer by the next
  longer : Range
  longer = record { set = last.set; low = last.low; high = max last.high range.high }

  pub joined : last.set ≡ range.set → last.low ≤ range.low → range.low ≤ last.high + 1
      → HasMerged ranges merged record { set = last.set; low = last.low; high = max last.high range.high } (at + 1)
  unfolding longer
  joined of low high = record {
    sound = λ s v h. ⊎_elim (λ (old : IsInRanges merged s v). had.sound s v (in_more merged last s v old))
        (λ (new : Covers longer s v). ⊎_elim
        (λ (beyond : last.high < v). in_range s v record { of = sym of ∙ new.of; low = omega arith; high = omega arith })
        (λ (within : v ≤ last.high). had.sound s v (in_last merged last s v record { of = new.of; low = new.low; high = within }))
        (cases_lt last.high v))
        (in_cases merged longer s v h);
    whole = λ k d s v less h. ⊎_elim
        (λ (old : k < at). ⊎_elim (in_more merged longer s v)
        (λ (in' : Covers last s v). in_last merged longer s v record { of = in'.of; low = in'.low; high = omega (arith, in'.high) })
        (in_cases merged last s v (had.whole k d s v old h)))
        (λ (new : at ≤ k).
        let same : k ≡ at = omega arith in
        let here : Covers range s v = subst (λ (r : Range). Covers r s v) (is d) (subst (λ (n : ℕ). Covers (get_or ranges n d) s v) same h) in
        in_last merged longer s v record { of = of ∙ here.of; low = omega (arith, here.low); high = omega (arith, here.high) })
        (cases_lt k at);
  }

-- ranges in another order are the same sets
moved : (xs ys : List Range) (s v : ℕ) → IsPermutation xs ys → IsInRanges xs s v → IsInRanges ys s v
moved xs ys s v same h = record { range = h.range; among = Contains-permutation xs ys h.range same h.among; of = h.of; low = h.low; high = h.high }

pub in_moved : {A E : Type 0} (xs ys : List Range) → IsPermutation xs ys → (result : Result (Vec Range A) E)
    → IfOk result (λ merged. (s v : ℕ) → IsInRanges merged.items s v ↔ IsInRanges ys s v)
    → IfOk result (λ merged. (s v : ℕ) → IsInRanges merged.items s v ↔ IsInRanges xs s v)
in_moved xs ys same (Ok merged) h = λ s v. (λ a. moved ys xs s v (IsPermutation-sym xs ys same) ((h s v).0 a), λ a. (h s v).1 (moved xs ys s v same a))
in_moved xs ys same (Err e) h = h
