-- Nodes that pass from who owned them to the trie, each once.
use Rattle.std.specs.List.{Contains, list_any}
use Rattle.std.proofs.Common.{◌≡◌, ◌⊎◌, ℕ, suc, ◌+◌, ◌%◌, ◌<◌, ◌≤◌, ◌==◌, ◌||◌, Bool, true, false, cond, eqb, List, [], ◌∷◌, ◌++◌, set, slice_index, refl, sym, ap, ◌∙◌, subst, ⊎_elim, inl, inr, arith}
use Rattle.std.proofs.lemmas.{Bool.{cases_lt, Decides.Decides-eqb}, List.get_or_default}
use Rattle.std.proofs.lemmas.{List.{Elements.{Contains-append_left, Contains-append_right, Contains-push}, Sums.sum_by-append}, Nat.Bits.bit_at-lt}
use mathlib.Core.Option.{some}
use lib.ListN.{get_elem?}
use Rattle.atomic_table.specs.Table.{State}
use Rattle.npf_types.specs.declared.key.Key.{Key}
use Rattle.npf_core.specs.{Machine.Machine, Meaning.Meaning}
use Rattle.npf_paths.specs.LevelLaw.{AreApart}
use Rattle.npf_cells_words.specs.{declared.layout.{Layout.Layout, Pool.{Pool, TheVariants.{Slots, Nodes}}}, Layout.place_word}
use Rattle.npf_seats.{specs.Sums.occurs, proofs.{ListLemmas.{one_where, occurs-cons, occurs_or, stands_once}, SumLemmas.{sum-set, one_of_sum}}}
use Rattle.npf_cells_lives.{specs.{Pools.{claim_bit, taken}, Turns.Running}, proofs.PoolLemmas.unfreed-set}
use Rattle.npf_cells_rule.specs.{declared.view.CellView.CellView, Cells.IsCells, Views.pool_side}
use Rattle.npf_cells_holds.specs.PublishKinds.{nodes_but}

-- a number stands in a list, as its test says
any_or : (x : ℕ) (ns : List ℕ) → ((list_any (λ y. y == x) ns ≡ true) × Contains ns x) ⊎ ((list_any (λ y. y == x) ns ≡ false) × (occurs x ns ≡ 0))
any_or x [] = inr (refl, refl)
any_or x (n ∷ ns) = by_test (any_or x ns) (eqb n x) refl
  where
    by_test : ((list_any (λ y. y == x) ns ≡ true) × Contains ns x) ⊎ ((list_any (λ y. y == x) ns ≡ false) × (occurs x ns ≡ 0)) → (b : Bool) → eqb n x ≡ b →
        ((list_any (λ y. y == x) (n ∷ ns) ≡ true) × Contains (n ∷ ns) x) ⊎ ((list_any (λ y. y == x) (n ∷ ns) ≡ false) × (occurs x (n ∷ ns) ≡ 0))
    by_test rest true e = inl (ap (λ b. b || list_any (λ y. y == x) ns) e, subst (λ y. Contains (n ∷ ns) y) ((Decides-eqb n x).0 e) (Contains-append_left (n ∷ []) ns n (Contains-push [] n)))
    by_test rest false e = ⊎_elim
        (λ there. inl (ap (λ b. b || list_any (λ y. y == x) ns) e ∙ there.0, Contains-append_right (n ∷ []) ns x there.1))
        (λ none. inr (
          ap (λ b. b || list_any (λ y. y == x) ns) e ∙ none.0,
          let more = occurs-cons x n ns in
              let here : one_where (eqb n x) ≡ 0 = ap one_where e in let later = none.1 in omega (arith, more, here, later),
        ))
        rest

-- what is left of a list without some of its numbers
but_none : (x : ℕ) (ns xs : List ℕ) → list_any (λ y. y == x) ns ≡ true → occurs x (nodes_but ns xs) ≡ 0
but_none x ns [] there = refl
but_none x ns (z ∷ zs) there = by_test (but_none x ns zs there) (list_any (λ y. y == z) ns) refl
  where
    by_test : occurs x (nodes_but ns zs) ≡ 0 → (b : Bool) → list_any (λ y. y == z) ns ≡ b → occurs x (cond (cond b false true) (z ∷ nodes_but ns zs) (nodes_but ns zs)) ≡ 0
    by_test rest true e = rest
    by_test rest false e = at_number (eqb z x) refl
      where
        at_number : (b : Bool) → eqb z x ≡ b → occurs x (z ∷ nodes_but ns zs) ≡ 0
        at_number true same = let no = sym e ∙ (ap (λ n. list_any (λ y. y == n) ns) ((Decides-eqb z x).0 same) ∙ there) in absurd cc
        at_number false other = let more = occurs-cons x z (nodes_but ns zs) in let here : one_where (eqb z x) ≡ 0 = ap one_where other in omega (arith, more, here, rest)

but_same : (x : ℕ) (ns xs : List ℕ) → list_any (λ y. y == x) ns ≡ false → occurs x (nodes_but ns xs) ≡ occurs x xs
but_same x ns [] none = refl
but_same x ns (z ∷ zs) none = by_test (but_same x ns zs none) (list_any (λ y. y == z) ns) refl
  where
    by_test : occurs x (nodes_but ns zs) ≡ occurs x zs → (b : Bool) → list_any (λ y. y == z) ns ≡ b → occurs x (cond (cond b false true) (z ∷ nodes_but ns zs) (nodes_but ns zs)) ≡ occurs x (z ∷ zs)
    by_test rest true e = at_number (eqb z x) refl
      where
        at_number : (b : Bool) → eqb z x ≡ b → occurs x (nodes_but ns zs) ≡ occurs x (z ∷ zs)
        at_number true same = let no = sym e ∙ (ap (λ n. list_any (λ y. y == n) ns) ((Decides-eqb z x).0 same) ∙ none) in absurd cc
        at_number false other = let more = occurs-cons x z zs in let here : one_where (eqb z x) ≡ 0 = ap one_where other in omega (arith, more, here, rest)
    by_test rest false e = let more = occurs-cons x z zs in let left = occurs-cons x z (nodes_but ns zs) in omega (arith, more, left, rest)

apart_rest : (n : ℕ) (ns : List ℕ) → AreApart (n ∷ ns) → AreApart ns
apart_rest n ns apart i j h k e = let same : suc i ≡ suc j = apart (suc i) (suc j) (omega (arith, h)) (omega (arith, k)) e in omega (arith, same)

-- none of them is there twice
once_apart : (x : ℕ) (ns : List ℕ) → AreApart ns → occurs x ns ≤ 1
once_apart x [] apart = omega arith
once_apart x (n ∷ ns) apart = by_test (once_apart x ns (apart_rest n ns apart)) (eqb n x) refl
  where
    by_test : occurs x ns ≤ 1 → (b : Bool) → eqb n x ≡ b → occurs x (n ∷ ns) ≤ 1
    by_test rest true e = ⊎_elim
        (λ (none : occurs x ns ≡ 0). let more = occurs-cons x n ns in let here : one_where (eqb n x) ≡ 1 = ap one_where e in omega (arith, more, here, none))
        (λ (c : Contains ns x).
        let short = c.1 in
        let number : n ≡ slice_index ns c.0 = (Decides-eqb n x).0 e ∙ (sym c.2 ∙ get_or_default ns c.0 x 0 short) in
        let same : 0 ≡ suc c.0 = apart 0 (suc c.0) (omega arith) (omega (arith, short)) number in
        absurd (omega (arith, same)))
        (occurs_or x ns)
    by_test rest false e = let more = occurs-cons x n ns in let here : one_where (eqb n x) ≡ 0 = ap one_where e in omega (arith, more, here, rest)

moved_once : (x : ℕ) (ns xs : List ℕ) → AreApart ns → (Contains ns x → occurs x xs ≡ 1) → occurs x (nodes_but ns xs) + occurs x ns ≡ occurs x xs
moved_once x ns xs apart owned = ⊎_elim
    (λ there. let left = but_none x ns xs there.0 in let once = once_apart x ns apart in let some' = stands_once x ns there.1 in let one = owned there.1 in omega (arith, left, once, some', one))
    (λ none. let left = but_same x ns xs none.0 in let no = none.1 in omega (arith, left, no))
    (any_or x ns)

module _ {S A R : Type 0} (m : Meaning S A R) (digest : Key → ℕ) (layout : Layout) (s : State (Running S) (CellView S A R))
    (kept : IsCells m digest layout s) (id : ℕ) (v : CellView S A R) (at : get_elem? s.views id ≡ some v) where
  -- who owns a node owns one that the table has, and has it once
  pub owns_there : (node : ℕ) → Contains v.pools.nodes node → node < layout.nodes
  owns_there node owns = ⊎_elim
      (λ (within : node < layout.nodes). within)
      (λ (beyond : layout.nodes ≤ node).
      let none = kept.pools.beyond node beyond in
      let mine = one_of_sum (λ (u : CellView S A R). occurs node u.pools.nodes) s.views id v at in
      let one = stands_once node v.pools.nodes owns in
      absurd (omega (arith, none, mine, one)))
      (cases_lt node layout.nodes)

  owns_once : (node : ℕ) → Contains v.pools.nodes node → occurs node v.pools.nodes ≡ 1
  owns_once node owns =
      let bit = kept.pools.bits Nodes node (owns_there node owns) in
      let below = bit_at-lt (slice_index s.words (place_word layout Nodes node)) (node % 64) in
      let mine = one_of_sum (λ (u : CellView S A R). occurs node u.pools.nodes) s.views id v at in
      let one = stands_once node v.pools.nodes owns in
      omega (arith, bit, below, mine, one)

  -- as many places are taken as before
  pub taken_moved : (k k' : Machine S) (w : CellView S A R) (nodes : List ℕ) → AreApart nodes → ((node : ℕ) → Contains nodes node → Contains v.pools.nodes node) →
      w.pools.nodes ≡ nodes_but nodes v.pools.nodes → w.pools.unfreed ≡ v.pools.unfreed → ((slot : ℕ) → k'.slot slot ≡ k.slot slot) →
      (pool : Pool) (place : ℕ) → taken pool_side (nodes ++ kept.published) k' (set s.views id w) pool place ≡ taken pool_side kept.published k s.views pool place
  taken_moved k k' w nodes apart owned left same slots Slots place = ap (λ x. claim_bit x.stage) (slots place)
  taken_moved k k' w nodes apart owned left same slots Nodes place =
      let more = sum-set (λ (u : CellView S A R). occurs place u.pools.nodes) s.views id v w at in
      let now = ap (occurs place) left in
      let once = moved_once place nodes v.pools.nodes apart (λ c. owns_once place (owned place c)) in
      let both : occurs place (nodes ++ kept.published) ≡ occurs place nodes + occurs place kept.published = sum_by-append (λ (y : ℕ). one_where (eqb y place)) nodes kept.published in
      let back = unfreed-set pool_side s.views id v w at same place in
      omega (arith, more, now, once, both, back)
