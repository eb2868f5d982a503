use Rattle.std.proofs.{Common.{◌≡◌, arith, ◌<◌, ℕ, List, Contains, get_or, length, subst}, lemmas.List.{get_or_default, Filters.dedup_is}}
use Rattle.std.proofs.lemmas.List.{Kept.{IsStrictlySortedBy-dedup, Contains-dedup, Contains-from_dedup}, Elements.All-contains}
use Rattle.std.proofs.lemmas.{List.Sorted.{Contains-permutation, IsPermutation-sym}, Map.Keys.Less-from_sorted}
use Rattle.std.specs.List.{Sorted.{IsStrictlySortedBy, IsPermutation}, dedup}
use Rattle.npf_lpm.specs.{declared.aligned.Aligned.Aligned, contracts.aligned.AlignedOrd.TheImpl.Laws.{total-law, matches_eq-law}}
use Rattle.npf_lpm.{specs.contracts.aligned.AlignedEq.TheImpl.Laws.laws-law, proofs.SortLemmas.{below_less, block_cmp, block_eq, same_tells}}
use Rattle.npf_lpm.proofs.sort.sort_once.Goals as goal

pub returns-clause-same : goal.returns-clause-same
returns-clause-same c block =
    let is = dedup_is _ _ _ c.dedup.ensures.filtered in
    let moved = c.sort_unstable.ensures.permutation in (
      λ h. Contains-permutation _ _ block (IsPermutation-sym _ _ moved) (Contains-from_dedup _ _ block (rw is at h)),
      λ h. rw is (Contains-dedup laws-law same_tells _ block (Contains-permutation _ _ block moved h)),
    )

-- what stands in the list that is left stood in the one that was given
stood : (xs ys zs : List Aligned) (x : Aligned) → zs ≡ dedup block_eq ys → IsPermutation xs ys → Contains zs x → Contains xs x
stood xs ys zs x is moved h = Contains-permutation ys xs x (IsPermutation-sym xs ys moved) (Contains-from_dedup block_eq ys x (subst (λ (l : List Aligned). Contains l x) is h))

pub returns-clause-rises : goal.returns-clause-rises
returns-clause-rises c i j d lt within =
    let is = dedup_is _ _ _ c.dedup.ensures.filtered in
    let ys = c.dedup.new.self.items in
    let up : IsStrictlySortedBy block_cmp ys = rw is (IsStrictlySortedBy-dedup total-law matches_eq-law _ c.sort_unstable.ensures.sorted) in
    let small : (k : ℕ) → k < length ys → (get_or ys k d).len < 256 = λ k less.
    All-contains (λ b. b.len < 256) _ (get_or ys k d) c.requires.short (stood c.args.blocks.now.items c.sort_unstable.new.self.items ys (get_or ys k d) is c.sort_unstable.ensures.permutation
    (k, less, get_or_default ys k (get_or ys k d) d less)) in
    below_less (get_or ys i d) (get_or ys j d) (small i (omega arith)) (small j within) (Less-from_sorted block_cmp ys i j d up lt within)
