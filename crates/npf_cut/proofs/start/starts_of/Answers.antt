use Rattle.std.proofs.{Common.{◌≡◌, ◌<◌, ℕ, List, Contains, subst, sym}, Math.Dec.eqb}
use Rattle.std.specs.List.{AllPairs, dedup}
use Rattle.std.proofs.lemmas.{Map.Keys.IsStrictlyIncreasing-dedup, List.{Filters.dedup_is, Sorted.{Contains-permutation, IsPermutation-sym}}}
use Rattle.std.proofs.lemmas.List.Kept.{AllPairs-from_increasing, Contains-dedup_nat, Contains-from_dedup}
use Rattle.npf_cut.proofs.StartLemmas.{starts_moved}
use Rattle.npf_cut.proofs.start.starts_of.Goals as goal

pub returns : goal.returns
returns c =
    let xs = c.in_ok-starts.starts.items in
    let ys = c.sort_unstable.new.self.items in
    let zs = c.dedup.new.self.items in
    let is : zs ≡ dedup eqb ys = dedup_is eqb ys zs c.dedup.ensures.filtered in
    let moved = c.sort_unstable.ensures.permutation in
    record {
      rises = subst (λ (l : List ℕ). AllPairs (λ a b. a < b) l) (sym is) (AllPairs-from_increasing (dedup eqb ys) (IsStrictlyIncreasing-dedup ys c.sort_unstable.ensures.sorted));
      has = starts_moved c.args.top c.args.ranges.now xs zs
          (λ x h. subst (λ (l : List ℕ). Contains l x) (sym is) (Contains-dedup_nat ys x (Contains-permutation xs ys x moved h)))
          (λ x h. Contains-permutation ys xs x (IsPermutation-sym xs ys moved) (Contains-from_dedup eqb ys x (subst (λ (l : List ℕ). Contains l x) is h)))
          c.in_ok-starts.ensures;
    }
