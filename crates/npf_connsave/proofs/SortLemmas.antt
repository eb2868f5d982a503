-- The connections of all slots, by their forward keys.
use Rattle.std.{proofs.Common.{◌≡◌, ◌≢◌, ◌<◌, ℕ, false, List, length, get_or, refl, sym, ap, ◌∙◌, true≢false, arith}, specs.Cmp.Lexicographic.slice_cmp}
use Rattle.std.specs.{List.Sorted.{IsPermutation, IsSortedByKey}, Ordering.{nat_cmp, is_lt, ordering_reverse}, declared.cmp.Ordering.Ordering}
use Rattle.std.{specs.declared.cmp.Ordering.TheVariants.{Less, Equal, Greater}, proofs.lemmas.List.{get_or-map, length-map, Elements.All-weaker}}
use Rattle.std.proofs.lemmas.{List.Sorted.{All-permutation, Contains-permutation, IsPermutation-map, ranks_by, sorted_far}, Map.Keys.IsDistinct-IsPermutation}
use Rattle.std.proofs.lemmas.Map.{Lookups.exact_bytes, Made.{AllPairs-from_IsDistinct, IsDistinct-from_AllPairs}}
use Rattle.npf_types.specs.{declared.key.Key.Key, contracts.key.{KeyEq.TheImpl.Laws.laws-law, KeyOrd.TheImpl.Laws.total-law}}
use Rattle.npf_core.{specs.{declared.conn_id.ConnId.ConnId, Machine.{Machine, stage_of, is_key, IsLive}}, proofs.EqualityLemmas.is_key-Decides}
use Rattle.npf_flow.specs.declared.flow.Flow.{Flow}
use Rattle.npf_saved.specs.declared.saved.Saved.{Saved}
use Rattle.npf_saved_file.specs.Conns.{AreDistinct, AreRising}
use Rattle.npf_connsave.specs.{Copied.{AreCopied, IsCopied, forward_keys}, Saves.{AreSavedOf, IsSavedOf}}

-- different keys stay different in another order
distinct_again : (keys others : List Key) → IsPermutation keys others → AreDistinct keys → AreDistinct others
distinct_again keys others same all =
    AllPairs-from_IsDistinct is_key-Decides others
    (IsDistinct-IsPermutation is_key laws-law.symm keys others same (IsDistinct-from_AllPairs is_key-Decides keys all))

-- a key that isn't behind another, and isn't it, is before it
before : (one other : Key) → one ≢ other → is_lt (slice_cmp nat_cmp other.0 one.0) ≡ false → slice_cmp nat_cmp one.0 other.0 ≡ Less
before one other differs not_behind = by (slice_cmp nat_cmp one.0 other.0) refl where
  by : (o : Ordering) → slice_cmp nat_cmp one.0 other.0 ≡ o → o ≡ Less
  by Less is = refl
  by Equal is = let e = exact_bytes one.0 other.0 is in absurd (differs (λ i. record { 0 = e i }))
  by Greater is =
      let flipped : slice_cmp nat_cmp other.0 one.0 ≡ Less = total-law.antisymm other one ∙ ap ordering_reverse is in
      absurd (true≢false (sym (ap is_lt flipped) ∙ not_behind))

module _ (k : Machine Flow) (slots : ℕ) (conns sorted : List Saved) (copied : AreCopied k slots conns) (same : IsPermutation conns sorted) where
  keys_differ : AreDistinct (forward_keys sorted)
  keys_differ = distinct_again (forward_keys conns) (forward_keys sorted) (IsPermutation-map (λ (s : Saved). s.forward) conns sorted same) copied.apart

  rising : IsSortedByKey (λ (s : Saved). s.forward) (λ (a b : Key). slice_cmp nat_cmp a.0 b.0) sorted → AreRising sorted
  rising up i j d near within =
      let long = length-map sorted (λ (s : Saved). s.forward) in
      let far : j < length (forward_keys sorted) = omega (arith, long, within) in
      let there : i < length sorted = omega (arith, near, within) in
      let at_i : get_or (forward_keys sorted) i d.forward ≡ (get_or sorted i d).forward = get_or-map (λ (s : Saved). s.forward) sorted i d d.forward there in
      let at_j : get_or (forward_keys sorted) j d.forward ≡ (get_or sorted j d).forward = get_or-map (λ (s : Saved). s.forward) sorted j d d.forward within in
      before (get_or sorted i d).forward (get_or sorted j d).forward
      (λ e. keys_differ i j d.forward near far (at_i ∙ e ∙ sym at_j))
      (sorted_far (λ (x y : Saved). is_lt (slice_cmp nat_cmp x.forward.0 y.forward.0)) (ranks_by total-law (λ (s : Saved). s.forward)) sorted up i j d (omega (arith, near)) within)

  pub are_saved : IsSortedByKey (λ (s : Saved). s.forward) (λ (a b : Key). slice_cmp nat_cmp a.0 b.0) sorted → ((id : ConnId) → IsLive (stage_of k id) → id.slot < slots)
      → AreSavedOf k sorted
  are_saved up within = record {
    each = All-permutation (IsSavedOf k) conns sorted same (All-weaker (IsCopied k slots) (IsSavedOf k) (λ saved is. (is.id, is.is)) conns copied.each);
    all = λ id key live holds.
        let there = copied.all id key (within id live) live holds in
        (there.0, Contains-permutation conns sorted there.0 same there.1, there.2);
    rising = rising up;
  }
