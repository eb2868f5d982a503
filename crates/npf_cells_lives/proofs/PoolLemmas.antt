-- The part on pools stays through a step that leaves its words, and through one that changes the bit of a place.
use Rattle.std.specs.Int.{bit_at}
use Rattle.std.proofs.Common.{◌≡◌, ◌≢◌, ◌⊎◌, ℕ, ◌*◌, ◌/◌, ◌%◌, ◌<◌, ◌≤◌, List, [], ◌∷◌, ◌++◌, set, length, slice_index, refl, sym, ap, ◌∙◌, subst, ⊎_elim, inl, inr, arith, length-set}
use Rattle.std.proofs.lemmas.{Bool.cases_eq, List.{get_or-set_same, get_or-set_other, Sums.sum_by_push}}
use mathlib.Core.Option.{some}
use lib.ListN.{get_elem?}
use Rattle.npf_core.specs.Machine.{Machine}
use Rattle.npf_cells_words.specs.declared.layout.{Layout.Layout, Pool.{Pool, TheVariants.{Slots, Nodes}}}
use Rattle.npf_cells_words.specs.Layout.{pool_places, pool_words, pools_at, place_word, pool_bit, root_at}
use Rattle.npf_seats.{specs.Sums.occurs, proofs.SumLemmas.sum-set}
use Rattle.npf_cells_lives.specs.{declared.pools.PoolSide.PoolSide, Pools.{unfreed_owners, taken, Pools}}

-- two places are one, or not
pub one_place : (a b : Pool) (p q : ℕ) → ((a ≡ b) × (p ≡ q)) ⊎ (a ≡ b → p ≢ q)
one_place Slots Slots p q = ⊎_elim (λ e. inl (refl, e)) (λ ne. inr (λ _. ne)) (cases_eq p q)
one_place Nodes Nodes p q = ⊎_elim (λ e. inl (refl, e)) (λ ne. inr (λ _. ne)) (cases_eq p q)
one_place Slots Nodes p q = inr (λ e. absurd cc)
one_place Nodes Slots p q = inr (λ e. absurd cc)

module _ (layout : Layout) where
  -- a pool's words lie where they should, apart from another's
  pub word_within : (pool : Pool) (p : ℕ) → p < 64 * pool_words (pool_places layout pool) → (pools_at ≤ place_word layout pool p) × (place_word layout pool p < root_at layout)
  word_within Slots p h = (omega arith, omega (arith, h))
  word_within Nodes p h = (omega arith, omega (arith, h))

  same_word : (a b : Pool) (p q : ℕ) → p < 64 * pool_words (pool_places layout a) → q < 64 * pool_words (pool_places layout b) →
      place_word layout a p ≡ place_word layout b q → (a ≡ b) × (p / 64 ≡ q / 64)
  same_word Slots Slots p q h k e = (refl, omega (arith, e))
  same_word Nodes Nodes p q h k e = (refl, omega (arith, e))
  same_word Slots Nodes p q h k e = absurd (omega (arith, h, e))
  same_word Nodes Slots p q h k e = absurd (omega (arith, k, e))

  pub places_within : (pool : Pool) (p : ℕ) → p < pool_places layout pool → p < 64 * pool_words (pool_places layout pool)
  places_within Slots p h = omega (arith, h)
  places_within Nodes p h = omega (arith, h)

  -- the words of pools and what is taken are the same
  pools-so : (takes takes' : Pool → ℕ → ℕ) (words words' : List ℕ) → Pools layout takes words → length words' ≡ length words →
      ((i : ℕ) → pools_at ≤ i → i < root_at layout → slice_index words' i ≡ slice_index words i) → ((pool : Pool) (p : ℕ) → takes' pool p ≡ takes pool p) → Pools layout takes' words'
  pools-so takes takes' words words' kept count same taken' = record {
    reach = (let a = kept.reach in omega (arith, a, count));
    bits = λ pool p h. bit pool p (places_within pool p h) ∙ (kept.bits pool p h ∙ sym (taken' pool p));
    past = λ pool p h k. bit pool p k ∙ kept.past pool p h k;
    beyond = λ p h. taken' Nodes p ∙ kept.beyond p h;
  }
    where
      bit : (pool : Pool) (p : ℕ) → p < 64 * pool_words (pool_places layout pool) → pool_bit layout pool words' p ≡ pool_bit layout pool words p
      bit pool p h = ap (λ n. bit_at n (p % 64)) (same (place_word layout pool p) (word_within pool p h).0 (word_within pool p h).1)

  pub pools-kept : (takes takes' : Pool → ℕ → ℕ) (words words' : List ℕ) → Pools layout takes words → length words' ≡ length words →
      ((i : ℕ) → i < root_at layout → slice_index words' i ≡ slice_index words i) → ((pool : Pool) (p : ℕ) → takes' pool p ≡ takes pool p) → Pools layout takes' words'
  pools-kept takes takes' words words' kept count same taken' = pools-so takes takes' words words' kept count (λ i low high. same i high) taken'

  pub pools-same : (takes takes' : Pool → ℕ → ℕ) (words words' : List ℕ) → Pools layout takes words → length words' ≡ length words →
      ((i : ℕ) → pools_at ≤ i → slice_index words' i ≡ slice_index words i) → ((pool : Pool) (p : ℕ) → takes' pool p ≡ takes pool p) → Pools layout takes' words'
  pools-same takes takes' words words' kept count same taken' = pools-so takes takes' words words' kept count (λ i low high. same i low) taken'

  -- the word of a place changes, and of its bits that of the place alone
  pub pools-set : (takes takes' : Pool → ℕ → ℕ) (words : List ℕ) (pool : Pool) (place n : ℕ) → Pools layout takes words → place < pool_places layout pool →
      bit_at n (place % 64) ≡ takes' pool place →
      ((i : ℕ) → i < 64 → i ≢ place % 64 → bit_at n i ≡ bit_at (slice_index words (place_word layout pool place)) i) →
      ((other : Pool) (p : ℕ) → (other ≡ pool → p ≢ place) → takes' other p ≡ takes other p) → Pools layout takes' (set words (place_word layout pool place) n)
  pools-set takes takes' words pool place n kept within here bits others = record {
    reach = (let a = kept.reach in let b = length-set words (place_word layout pool place) n in omega (arith, a, b));
    bits = λ other p h. ⊎_elim
        (λ (x : (other ≡ pool) × (p ≡ place)). subst (λ (y : Pool × ℕ). pool_bit layout y.0 (set words (place_word layout pool place) n) y.1 ≡ takes' y.0 y.1) (λ i. (sym x.0 i, sym x.1 i)) at_place)
        (λ (two : other ≡ pool → p ≢ place). elsewhere other p (places_within other p h) two ∙ (kept.bits other p h ∙ sym (others other p two)))
        (one_place other pool p place);
    past = λ other p h k. elsewhere other p k (λ e. λ same. absurd (not_past other p e same h)) ∙ kept.past other p h k;
    beyond = λ p h. others Nodes p (λ e same. absurd (not_past Nodes p e same h)) ∙ kept.beyond p h;
  }
    where
      there : place_word layout pool place < length words
      there = let a = kept.reach in let b = (word_within pool place (places_within pool place within)).1 in omega (arith, a, b)

      stands : slice_index (set words (place_word layout pool place) n) (place_word layout pool place) ≡ n
      stands = get_or-set_same words (place_word layout pool place) n 0 there

      at_place : pool_bit layout pool (set words (place_word layout pool place) n) place ≡ takes' pool place
      at_place = ap (λ k. bit_at k (place % 64)) stands ∙ here

      not_past : (other : Pool) (p : ℕ) → other ≡ pool → p ≡ place → pool_places layout other ≤ p → ⊥
      not_past other p e same h = let places = ap (pool_places layout) e in omega (arith, places, same, h, within)

      elsewhere : (other : Pool) (p : ℕ) → p < 64 * pool_words (pool_places layout other) → (other ≡ pool → p ≢ place) →
          pool_bit layout other (set words (place_word layout pool place) n) p ≡ pool_bit layout other words p
      elsewhere other p h two = ⊎_elim
          (λ (e : place_word layout other p ≡ place_word layout pool place).
          let same = same_word other pool p place h (places_within pool place within) e in
          let ne : p % 64 ≢ place % 64 = (λ r. two same.0 (omega (arith, same.1, r))) in
          ap (λ k. bit_at k (p % 64)) (ap (slice_index (set words (place_word layout pool place) n)) e ∙ stands)
          ∙ (bits (p % 64) (omega arith) ne ∙ ap (λ i. bit_at (slice_index words i) (p % 64)) (sym e)))
          (λ (ne : place_word layout other p ≢ place_word layout pool place).
          ap (λ k. bit_at k (p % 64)) (get_or-set_other words (place_word layout pool place) (place_word layout other p) n 0 ne))
          (cases_eq (place_word layout other p) (place_word layout pool place))

-- how many have a node that they got back and whose state they haven't freed, where one pass changes and has the same of these
pub unfreed-set : {V : Type 0} (side_of : V → PoolSide) (views : List V) (id : ℕ) (v w : V) → get_elem? views id ≡ some v →
    (side_of w).unfreed ≡ (side_of v).unfreed → (p : ℕ) → unfreed_owners side_of (set views id w) p ≡ unfreed_owners side_of views p
unfreed-set {V} side_of views id v w at same p =
    let more = sum-set (λ (u : V). occurs p (side_of u).unfreed) views id v w at in
    let one = ap (occurs p) same in
    omega (arith, more, one)

-- what is taken, where passes change what they own
module _ {S V : Type 0} (side_of : V → PoolSide) (published : List ℕ) (k : Machine S) (views : List V) where
  pub taken-set : (id : ℕ) (v w : V) → get_elem? views id ≡ some v → (side_of w).nodes ≡ (side_of v).nodes → (side_of w).unfreed ≡ (side_of v).unfreed →
      (pool : Pool) (p : ℕ) → taken side_of published k (set views id w) pool p ≡ taken side_of published k views pool p
  taken-set id v w at same back Slots p = refl
  taken-set id v w at same back Nodes p =
      let more = sum-set (λ (u : V). occurs p (side_of u).nodes) views id v w at in
      let one = ap (occurs p) same in
      let still = unfreed-set side_of views id v w at back p in
      omega (arith, more, one, still)

  pub taken-push : (w : V) → (side_of w).nodes ≡ [] → (side_of w).unfreed ≡ [] → (pool : Pool) (p : ℕ) → taken side_of published k (views ++ w ∷ []) pool p ≡ taken side_of published k views pool p
  taken-push w none also Slots p = refl
  taken-push w none also Nodes p =
      let more = sum_by_push (λ (u : V). occurs p (side_of u).nodes) views w in
      let back = sum_by_push (λ (u : V). occurs p (side_of u).unfreed) views w in
      let one : occurs p (side_of w).nodes ≡ 0 = ap (occurs p) none in
      let another : occurs p (side_of w).unfreed ≡ 0 = ap (occurs p) also in
      omega (arith, more, back, one, another)
