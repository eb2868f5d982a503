-- Nodes that a pass takes one after another, and what is left of its nodes as they are given back.
use Rattle.std.proofs.Common.{◌≡◌, ℕ, zero, suc, ◌+◌, ◌<◌, ◌≤◌, ◌||◌, Bool, true, false, cond, eqb, eq-eqb, ne_eqb, List, [], ◌∷◌, ◌++◌, length, get_or}
use Rattle.std.{proofs.Common.{take, reverse, slice_index, slice_index_or, refl, sym, ap, ◌∙◌, subst, ⊎_elim, arith}, specs.List.{filter, Contains, list_any}}
use Rattle.std.proofs.{Math.Seq.get_or-append_seam, lemmas.Bool.cases_lt}
use Rattle.std.proofs.lemmas.List.{get_or-take, get_or_append_left, length-append, length-take, reverse-append, reverse-reverse}
use Rattle.std.proofs.lemmas.List.Elements.{All-from_get_or, Contains-append_right, Contains-get_or, Contains-push_cases, filter_agree}
use Rattle.std.proofs.lemmas.List.{Folds.{list_any_at, list_any_more, list_any_none}, Sorted.{Contains-permutation, IsPermutation-reverse}}
use Rattle.atomic_table.specs.Table.{Me}
use Rattle.npf_paths.specs.LevelLaw.{AreApart}
use Rattle.npf_cells_rule.specs.{declared.view.CellView.CellView, Views.with_pools}
use Rattle.npf_seats.specs.Sums.{others_than}
use Rattle.npf_cells_takes.specs.PoolKinds.{giving_back}
use Rattle.npf_cells_holds.specs.PublishKinds.{nodes_but}
use Rattle.npf_pool.specs.Takes.{taking}
use Rattle.npf_trie.specs.Nodes.{left_with}

-- two filters are one
filter_twice : (p q : ℕ → Bool) (xs : List ℕ) → filter q (filter p xs) ≡ filter (λ x. cond (p x) (q x) false) xs
filter_twice p q [] = refl
filter_twice p q (x ∷ xs) = by_test (filter_twice p q xs) (p x)
  where
    by_test : filter q (filter p xs) ≡ filter (λ y. cond (p y) (q y) false) xs → (b : Bool) →
        filter q (cond b (x ∷ filter p xs) (filter p xs)) ≡ cond (cond b (q x) false) (x ∷ filter (λ y. cond (p y) (q y) false) xs) (filter (λ y. cond (p y) (q y) false) xs)
    by_test rest true = ap (λ ys. cond (q x) (x ∷ ys) ys) rest
    by_test rest false = rest

-- an element that passes is kept
contains_kept : (p : ℕ → Bool) (xs : List ℕ) (n : ℕ) → p n ≡ true → Contains xs n → Contains (filter p xs) n
contains_kept p [] n t c = absurd (let below = c.1 in omega (arith, below))
contains_kept p (x ∷ xs) n t c = at_index (λ d. contains_kept p xs n t d) c.0 c.1 c.2
  where
    later : Contains (filter p xs) n → (b : Bool) → Contains (cond b (x ∷ filter p xs) (filter p xs)) n
    later rest true = Contains-append_right (x ∷ []) (filter p xs) n rest
    later rest false = rest

    at_index : (Contains xs n → Contains (filter p xs) n) → (i : ℕ) → i < length (x ∷ xs) → slice_index_or (x ∷ xs) i n ≡ n → Contains (filter p (x ∷ xs)) n
    at_index rest zero h e = subst (λ b. Contains (cond b (x ∷ filter p xs) (filter p xs)) n) (sym (ap p e ∙ t)) (0, omega arith, e)
    at_index rest (suc i) h e = later (rest (i, omega (arith, h), e)) (p x)

-- without some nodes, and then without the next, is without them all
without_more : (gone nodes : List ℕ) (i : ℕ) → i < length gone → others_than (get_or gone i 0) (nodes_but (take i gone) nodes) ≡ nodes_but (take (i + 1) gone) nodes
without_more gone nodes i h =
    filter_twice (λ node. cond (list_any (λ x. eqb x node) (take i gone)) false true) (λ x. cond (eqb x (get_or gone i 0)) false true) nodes
    ∙ filter_agree _ (λ node. cond (list_any (λ x. eqb x node) (take (i + 1) gone)) false true) at_node nodes
  where
    turned : (a b : ℕ) → eqb a b ≡ eqb b a
    turned a b = grind arith

    by_test : (b : Bool) (node : ℕ) → cond (cond b false true) (cond (eqb node (get_or gone i 0)) false true) false ≡ cond (b || eqb (get_or gone i 0) node) false true
    by_test true node = refl
    by_test false node = ap (λ b. cond b false true) (turned node (get_or gone i 0))

    at_node : (node : ℕ) →
        cond (cond (list_any (λ x. eqb x node) (take i gone)) false true) (cond (eqb node (get_or gone i 0)) false true) false ≡ cond (list_any (λ x. eqb x node) (take (i + 1) gone)) false true
    at_node node = by_test (list_any (λ x. eqb x node) (take i gone)) node ∙ ap (λ b. cond b false true) (sym (list_any_more (λ x. eqb x node) gone i 0 h))

-- the next node to be given back is owned still
owned_still : (gone nodes : List ℕ) (i : ℕ) → i < length gone → AreApart gone → Contains nodes (get_or gone i 0) → Contains (nodes_but (take i gone) nodes) (get_or gone i 0)
owned_still gone nodes i h apart owned =
    contains_kept (λ node. cond (list_any (λ x. eqb x node) (take i gone)) false true) nodes (get_or gone i 0) (ap (λ b. cond b false true) unseen) owned
  where
    unseen : list_any (λ x. eqb x (get_or gone i 0)) (take i gone) ≡ false
    unseen = list_any_none (λ x. eqb x (get_or gone i 0)) (take i gone) (All-from_get_or (λ x. eqb x (get_or gone i 0) ≡ false) (take i gone) 0 (λ j below.
        let low : j < i = omega (arith, below, length-take i gone) in
        ne_eqb (get_or (take i gone) j 0) (get_or gone i 0) (λ e.
        let same = apart j i (omega (arith, low, h)) h (sym (get_or-take i gone j 0 low) ∙ e) in
        omega (arith, same, low))))

-- nothing is left of nodes that are all gone
nothing_left : (gone nodes : List ℕ) → ((node : ℕ) → Contains nodes node → Contains gone node) → nodes_but gone nodes ≡ []
nothing_left gone [] all = refl
nothing_left gone (x ∷ xs) all =
    let c = all x (0, omega arith, refl) in
    let seen : list_any (λ y. eqb y x) gone ≡ true = list_any_at (λ y. eqb y x) gone c.0 x c.1 (eq-eqb (get_or gone c.0 x) x c.2) in
    ap (λ b. cond (cond b false true) (x ∷ nodes_but gone xs) (nodes_but gone xs)) seen ∙ nothing_left gone xs (λ node d. all node (Contains-append_right (x ∷ []) xs node d))

-- a list and its reverse have the same nodes
in_reverse : (nodes : List ℕ) (node : ℕ) → Contains nodes node → Contains (reverse nodes) node
in_reverse nodes node c = Contains-permutation nodes (reverse nodes) node (IsPermutation-reverse nodes) c

-- with a node that isn't one of them none is there twice still
pub apart_more : (nodes : List ℕ) (node : ℕ) → AreApart nodes → ¬ Contains (reverse nodes) node → AreApart (nodes ++ node ∷ [])
apart_more nodes node apart new i j low low' e = ⊎_elim
    (λ (h : i < length nodes). ⊎_elim
    (λ (h' : j < length nodes). apart i j h h' (sym (before i h) ∙ (e ∙ before j h')))
    (λ h'. absurd (missing i h (sym (before i h) ∙ (e ∙ last j low' h'))))
    (cases_lt j (length nodes)))
    (λ h. ⊎_elim
    (λ (h' : j < length nodes). absurd (missing j h' (sym (before j h') ∙ (sym e ∙ last i low h))))
    (λ h'. omega (arith, end i low h, end j low' h'))
    (cases_lt j (length nodes)))
    (cases_lt i (length nodes))
  where
    before : (k : ℕ) → k < length nodes → slice_index (nodes ++ node ∷ []) k ≡ slice_index nodes k
    before k h = get_or_append_left nodes (node ∷ []) 0 k h

    end : (k : ℕ) → k < length (nodes ++ node ∷ []) → length nodes ≤ k → k ≡ length nodes
    end k h h' = omega (arith, h, h', length-append nodes (node ∷ []))

    last : (k : ℕ) → k < length (nodes ++ node ∷ []) → length nodes ≤ k → slice_index (nodes ++ node ∷ []) k ≡ node
    last k h h' = ap (λ n. slice_index (nodes ++ node ∷ []) n) (end k h h') ∙ get_or-append_seam nodes node [] 0

    missing : (k : ℕ) → k < length nodes → slice_index nodes k ≡ node → ⊥
    missing k h same = new (in_reverse nodes node (subst (λ n. Contains nodes n) same (Contains-get_or nodes k 0 h)))

-- without no node a list is what it was
all_left : (nodes : List ℕ) → nodes ≡ nodes_but [] nodes
all_left [] = refl
all_left (x ∷ xs) = ap (λ ys. x ∷ ys) (all_left xs)

-- with a node below the bound all are below it still
pub within_more : (nodes : List ℕ) (node most : ℕ) → ((n : ℕ) → Contains nodes n → n < most) → node < most → (n : ℕ) → Contains (nodes ++ node ∷ []) n → n < most
within_more nodes node most within low n c = ⊎_elim (λ d. within n d) (λ (e : node ≡ n). omega (arith, e, low)) (Contains-push_cases nodes node n c)

-- the pass owns all nodes that were taken, and no others
pub taken_owned : (nodes owned : List ℕ) → owned ≡ reverse nodes → (node : ℕ) → Contains nodes node → Contains owned node
taken_owned nodes owned is node c = subst (λ ns. Contains ns node) (sym is) (in_reverse nodes node c)

pub taken_all : (nodes owned : List ℕ) → owned ≡ reverse nodes → nodes_but nodes owned ≡ []
taken_all nodes owned is =
    ap (λ ns. nodes_but nodes ns) is ∙ nothing_left nodes (reverse nodes) (λ node c. subst (λ ns. Contains ns node) (reverse-reverse nodes) (in_reverse (reverse nodes) node c))

module _ {S A R F : Type 0} where
  -- before any is given back
  pub none_given : (old : Me F (CellView S A R)) → old ≡ with_pools old (left_with (nodes_but [] old.0.pools.nodes) old.0.pools old.0.pools)
  none_given old = ap (λ nodes. with_pools old (left_with nodes old.0.pools old.0.pools)) (all_left old.0.pools.nodes)

  -- the next node that is to be given back is owned
  pub next_owned : (gone : List ℕ) (i : ℕ) (old now : Me F (CellView S A R)) → i < length gone → AreApart gone → ((node : ℕ) → Contains gone node → Contains old.0.pools.nodes node) →
      now ≡ with_pools old (left_with (nodes_but (take i gone) old.0.pools.nodes) old.0.pools now.0.pools) → Contains now.0.pools.nodes (get_or gone i 0)
  next_owned gone i old now h apart owned is =
      subst (λ ns. Contains ns (get_or gone i 0)) (sym (ap (λ (y : Me F (CellView S A R)). y.0.pools.nodes) is))
      (owned_still gone old.0.pools.nodes i h apart (owned (get_or gone i 0) (Contains-get_or gone i 0 h)))

  -- one more is given back
  pub given_more : (gone : List ℕ) (i : ℕ) (old now next : Me F (CellView S A R)) → i < length gone →
      now ≡ with_pools old (left_with (nodes_but (take i gone) old.0.pools.nodes) old.0.pools now.0.pools) →
      next ≡ with_pools now (giving_back (get_or gone i 0) now.0.pools next.0.pools.found) →
      next ≡ with_pools old (left_with (nodes_but (take (i + 1) gone) old.0.pools.nodes) old.0.pools next.0.pools)
  given_more gone i old now next h is more =
      let found : ℕ = next.0.pools.found in
      let none = ap (λ (y : Me F (CellView S A R)). y.0.pools.stored) more in
      let step = without_more gone old.0.pools.nodes i h in
      more
      ∙ (ap (λ (y : Me F (CellView S A R)). with_pools y (record y.0.pools { found = found; nodes = others_than (get_or gone i 0) y.0.pools.nodes; stored = [] })) is
      ∙ (λ k. with_pools old (record old.0.pools { found = found; nodes = step k; stored = (sym none) k })))

  -- one more is taken
  pub taken_more : (nodes : List ℕ) (node : ℕ) (old now next : Me F (CellView S A R)) →
      now ≡ with_pools old (record old.0.pools { found = now.0.pools.found; row = now.0.pools.row; nodes = reverse nodes }) → next ≡ with_pools now (taking node now.0.pools next.0.pools) →
      next ≡ with_pools old (record old.0.pools { found = next.0.pools.found; row = next.0.pools.row; nodes = reverse (nodes ++ node ∷ []) })
  taken_more nodes node old now next is more =
      let found : ℕ = next.0.pools.found in
      let row : ℕ = next.0.pools.row in
      more
      ∙ (ap (λ (y : Me F (CellView S A R)). with_pools y (record y.0.pools { found = found; row = row; nodes = node ∷ y.0.pools.nodes })) is
      ∙ ap (λ ns. with_pools old (record old.0.pools { found = found; row = row; nodes = ns })) (sym (reverse-append nodes (node ∷ []))))
