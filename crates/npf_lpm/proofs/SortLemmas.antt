-- The order of blocks that `<` of two of them is.
use Rattle.std.proofs.Common.{Less, Equal, Greater, ◌≡◌, ◌<◌, ◌≤◌, ℕ, Bool, true, Ordering, arith, ◌∙◌, ap, ⊎_elim, ◌⊎◌, inl, inr}
use Rattle.std.{proofs.lemmas.{Bool.{cases_lt, and_parts}, Map.Views.exact_unsigned_eq}, specs.{Ordering.{ordering_then, nat_cmp}, Cmp.nat_cmp_is}}
use Rattle.npf_lpm.specs.{declared.aligned.Aligned.Aligned, Rows.rank}
use Rattle.npf_lpm.specs.contracts.aligned.AlignedOrd.TheImpl as aligned_ord
use Rattle.npf_lpm.specs.contracts.aligned.AlignedPartialEq.TheImpl as aligned_eq

abbrev pub block_cmp : Aligned → Aligned → Ordering
block_cmp = (aligned_ord.ghosts).cmp

abbrev pub block_eq : Aligned → Aligned → Bool
block_eq = (aligned_eq.ghosts).eq

by_nat : (x y : ℕ) (o : Ordering) → ordering_then (nat_cmp x y) o ≡ Less → (x < y) ⊎ ((x ≡ y) × (o ≡ Less))
by_nat x y o less = ⊎_elim
    (λ (lt : x < y). inl lt)
    (λ (ge : y ≤ x). ⊎_elim
    (λ (gt : y < x).
    let is : Greater ≡ nat_cmp x y = nat_cmp_is x y Greater gt in
    let clash : Greater ≡ Less = ap (λ r. ordering_then r o) is ∙ less in
    cc)
    (λ (le : x ≤ y).
    let same : x ≡ y = omega arith in
    let is : Equal ≡ nat_cmp x y = nat_cmp_is x y Equal same in
    inr (same, ap (λ r. ordering_then r o) is ∙ less))
    (cases_lt y x))
    (cases_lt x y)

pub below_less : (p q : Aligned) → p.len < 256 → q.len < 256 → block_cmp p q ≡ Less → rank p < rank q
below_less p q small little less = ⊎_elim
    (λ (lt : p.first < q.first). omega arith)
    (λ (same : (p.first ≡ q.first) × (nat_cmp p.len q.len ≡ Less)). ⊎_elim
    (λ (lt : p.len < q.len). omega (arith, same.0))
    (λ (tie : (p.len ≡ q.len) × (Equal ≡ Less)). let clash = tie.1 in cc)
    (by_nat p.len q.len Equal (lone (nat_cmp p.len q.len) same.1)))
    (by_nat p.first q.first (nat_cmp p.len q.len) less) where
      lone : (o : Ordering) → o ≡ Less → ordering_then o Equal ≡ Less
      lone o is = ap (λ r. ordering_then r Equal) is

pub same_tells : (p q : Aligned) → block_eq p q ≡ true → p ≡ q
same_tells p q same =
    let both = and_parts _ _ same in
    λ i. record { first = exact_unsigned_eq p.first q.first both.0 i; len = exact_unsigned_eq p.len q.len both.1 i }
