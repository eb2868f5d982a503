-- Places that are noted, and places that are marked.
use Rattle.std.proofs.Common.{◌≡◌, ◌⊎◌, ℕ, zero, suc, ◌+◌, ◌<◌, ◌≤◌, Bool, true, false, List, [], ◌∷◌, ◌++◌, get_or, set, length, replicate, slice_index, slice_index_or, slice_get, take}
use Rattle.std.proofs.Common.{sym, subst, ap, ◌∙◌, inl, inr, get_or-set_other, get_or-set_same, arith}
use Rattle.std.specs.List.{All, AllPairs, Contains}
use Rattle.std.proofs.lemmas.Bool.{cases_eq, false≢true}
use Rattle.std.proofs.lemmas.List.{take_more, Elements.{All-push, Contains-append_left, Contains-push}, Kept.AllPairs-cons}
use Rattle.std.proofs.lemmas.Option.{same_Some}
use Rattle.npf_precedence.specs.declared.entry.RuleEntry.{RuleEntry}
use Rattle.npf_judge.specs.Order.{entry_place}
use Rattle.npf_judge.specs.Place.{IsRulePlace}
use Rattle.npf_judge.proofs.PlaceLemmas.{place_there}

-- ---- lists that are pushed to
pub pairs_push : {X : Type 0} (R : X → X → Type 0) (y : X) (xs : List X) → All (λ x. R x y) xs → AllPairs R xs → AllPairs R (xs ++ y ∷ [])
pairs_push R y [] all pairs = λ i j d less low. absurd (omega (arith, less, low))
pairs_push R y (x ∷ xs) all pairs =
    AllPairs-cons R x (xs ++ y ∷ []) (All-push (R x) xs y (λ k d low. pairs zero (suc k) d (omega arith) (omega (arith, low))) (all zero x (omega arith)))
    (pairs_push R y xs (λ k d low. all (suc k) d (omega (arith, low))) (λ i j d less low. pairs (suc i) (suc j) d (omega (arith, less)) (omega (arith, low))))

-- ---- the places of an order's rules
pub last_stays : (places : List ℕ) (place at count : ℕ) → place < count → slice_index places count ≡ count → slice_index (set places place at) count ≡ count
last_stays places place at count low last = get_or-set_other places place count at 0 (λ same. absurd (omega (arith, low, same))) ∙ last

module _ (order : List RuleEntry) (places : List ℕ) (at place : ℕ) (here : IsRulePlace order at place) (low : place < length places)
    (once : (one other place : ℕ) → IsRulePlace order one place → IsRulePlace order other place → one ≡ other) where
  pub rules_more : ((k own : ℕ) → k < at → IsRulePlace order k own → slice_index places own ≡ k)
      → (k own : ℕ) → k < at + 1 → IsRulePlace order k own → slice_index (set places place at) own ≡ k
  rules_more before k own within is = elim (cases_eq own place) [
    | inl same ↦
        ap (λ n. get_or (set places place at) n 0) same ∙ get_or-set_same places place at 0 low
        ∙ once at k place here (subst (IsRulePlace order k) same is)
    | inr other ↦ elim (cases_eq k at) [
      | inl equal ↦ absurd (other (same_Some own place (sym is ∙ ap (λ n. entry_place (slice_get order n)) equal ∙ here)))
      | inr less ↦ get_or-set_other places place own at 0 other ∙ before k own (omega (arith, within, less)) is
    ]
  ]

pub places_end : (order : List RuleEntry) (places : List ℕ) (at : ℕ) → length order ≤ at
    → ((k place : ℕ) → k < at → IsRulePlace order k place → slice_index places place ≡ k)
    → (k place : ℕ) → IsRulePlace order k place → slice_index places place ≡ k
places_end order places at past each k place is =
    let low = (place_there order k place is).0 in each k place (omega (arith, low, past)) is

-- ---- marks
none_marked : (count k : ℕ) → slice_index_or (replicate count false) k false ≡ true → ⊥
none_marked zero k is = false≢true is
none_marked (suc count) zero is = false≢true is
none_marked (suc count) (suc k) is = none_marked count k is

pub nothing_marked : (marks : List Bool) (count k : ℕ) → marks ≡ replicate count false → slice_index_or marks k false ≡ true → ⊥
nothing_marked marks count k are is = none_marked count k (sym (ap (λ (all : List Bool). slice_index_or all k false) are) ∙ is)

pub marked_more : (marks : List Bool) (places : List ℕ) (i : ℕ) → i < length places
    → ((k : ℕ) → slice_index_or marks k false ≡ true → Contains (take i places) k)
    → (k : ℕ) → slice_index_or (set marks (slice_index places i) true) k false ≡ true → Contains (take (i + 1) places) k
marked_more marks places i low before k is =
    let place = slice_index places i in
    subst (λ xs. Contains xs k) (sym (take_more places i 0 low)) (elim (cases_eq k place) [
      | inl same ↦ subst (Contains (take i places ++ place ∷ [])) (sym same) (Contains-push (take i places) place)
      | inr other ↦ Contains-append_left (take i places) (place ∷ []) k (before k (sym (get_or-set_other marks place k true false other) ∙ is))
    ])

-- ---- places that aren't marked
module _ (marked : ℕ → Bool) (places : List ℕ) (at : ℕ) where
  pub whole_marked : marked at ≡ true → ((k : ℕ) → k < at → (marked k ≡ true) ⊎ Contains places k) → (k : ℕ) → k < at + 1 → (marked k ≡ true) ⊎ Contains places k
  whole_marked is before k low = elim (cases_eq k at) [
    | inl same ↦ inl (ap marked same ∙ is)
    | inr other ↦ before k (omega (arith, low, other))
  ]

  pub whole_pushed : ((k : ℕ) → k < at → (marked k ≡ true) ⊎ Contains places k) → (k : ℕ) → k < at + 1 → (marked k ≡ true) ⊎ Contains (places ++ at ∷ []) k
  whole_pushed before k low = elim (cases_eq k at) [
    | inl same ↦ inr (subst (Contains (places ++ at ∷ [])) (sym same) (Contains-push places at))
    | inr other ↦ elim (before k (omega (arith, low, other))) [
      | inl is ↦ inl is
      | inr there ↦ inr (Contains-append_left places (at ∷ []) k there)
    ]
  ]

pub within_more : (places : List ℕ) (at : ℕ) → All (λ place. place < at) places → All (λ place. place < at + 1) places
within_more places at all k d low = let here = all k d low in omega (arith, here)
