-- A node in whose places nothing stands is found so, and may be marked.
use Rattle.std.specs.List.{Contains}
use Rattle.std.proofs.Common.{◌≡◌, ℕ, ◌+◌, ◌<◌, ◌≤◌, cond, eq-eqb, Option, Some, None, IfSome, [], ◌∷◌, sym, ap, ◌∙◌, subst, ⊎_elim, arith}
use Rattle.std.proofs.lemmas.List.Elements.{Contains-append_left, Contains-append_right, Contains-push}
use Rattle.atomic_table.specs.Table.{Me}
use Rattle.npf_paths.specs.{declared.place.{Lock.Lock, Place.Place}, Places.lock_of}
use Rattle.npf_paths.specs.declared.place.Lock.TheVariants as Locking
use Rattle.npf_paths.specs.declared.place.Place.TheVariants as Places
use Rattle.npf_seats.proofs.SeatLemmas.{cases_lt}
use Rattle.npf_cells_words.specs.{declared.{layout.Layout.Layout, mark.Emptied.Emptied}, Codes.place_code, Places.IsInTrie}
use Rattle.npf_cells_rule.specs.{declared.view.CellView.CellView, Views.with_trie}
use Rattle.npf_cells_holds.specs.LockKinds.{locking}
use Rattle.npf_cells_returns.specs.{LoadKinds.{loading_cell, loading_parent, with_digit, with_parent}, MarkKinds.MayMarkNode}
use Rattle.npf_turn.specs.TakingOff.{FindsBareUnder, finding}

-- the pass found the places of the node before this one empty
pub record BareBelow {S A R F : Type 0} (node digit : ℕ) (old now : Me F (CellView S A R)) : Type 0 where
  pub is : now ≡ finding old now
  pub found : Emptied
  pub has : now.0.trie.emptied ≡ Some found
  pub there : found.node ≡ node
  pub below : (k : ℕ) → k < digit → Contains found.digits k

module _ {S A R F : Type 0} (node : ℕ) (old now next : Me F (CellView S A R)) where
  found_on : (digit word : ℕ) → now ≡ finding old now → next ≡ with_trie now (loading_cell (Places.Node node digit) word now.0.trie) → next ≡ finding old next
  found_on digit word was is =
      let set : next ≡ finding now next = is ∙ (λ i. with_trie now (record now.0.trie { emptied = (sym is i).0.trie.emptied; met_mark = (sym is i).0.trie.met_mark })) in
      set ∙ ap (λ y. finding y next) was

  -- nothing stands in this one either
  pub bare_on : (digit word : ℕ) → BareBelow node digit old now → next ≡ with_trie now (loading_cell (Places.Node node digit) word now.0.trie) → word ≡ 0 → BareBelow node (digit + 1) old next
  bare_on digit word bare is none = record {
    is = found_on digit word bare.is is;
    found = record bare.found { digits = digit ∷ bare.found.digits };
    has = ap (λ (y : Me F (CellView S A R)). y.0.trie.emptied) is ∙ (ap (with_digit (Places.Node node digit) word) bare.has
        ∙ (λ i. cond (eq-eqb bare.found.node node bare.there i) (cond (eq-eqb word 0 none i) (Some (record bare.found { digits = digit ∷ bare.found.digits })) (Some bare.found)) (Some bare.found)));
    there = bare.there;
    below = λ k h. ⊎_elim
        (λ (low : k < digit). Contains-append_right (digit ∷ []) bare.found.digits k (bare.below k low))
        (λ (high : digit ≤ k). subst (Contains (digit ∷ bare.found.digits)) (let same : digit ≡ k = omega (arith, h, high) in
        same) (Contains-append_left (digit ∷ []) bare.found.digits digit (Contains-push [] digit)))
        (cases_lt k digit);
  }

  -- the parent word is remembered with them
  pub parent_named : (parent : Option Place) (code : ℕ) → IfSome parent (λ p. place_code p ≡ code) → BareBelow node 16 old now →
      next ≡ with_trie now (loading_parent node code now.0.trie) → IfSome parent (FindsBareUnder next.0.trie node)
  parent_named None code named bare is = tt
  parent_named (Some p) code named bare is = (
    record bare.found { parent = Some code },
    ap (λ (y : Me F (CellView S A R)). y.0.trie.emptied) is
        ∙ (ap (with_parent node code) bare.has ∙ ap (λ b. cond b (Some (record bare.found { parent = Some code })) (Some bare.found)) (eq-eqb bare.found.node node bare.there)),
    bare.there,
    bare.below,
    ap (λ n. Some n) (sym named),
  )

-- with the lock of that place the node may be marked
module _ {S A R F : Type 0} (layout : Layout) (node : ℕ) (parent : Place) (old : Me F (CellView S A R)) where
  pub may_mark : FindsBareUnder old.0.trie node parent → old.0.trie.locks ≡ lock_of parent ∷ Locking.Node node ∷ [] → IsInTrie layout parent → MayMarkNode layout old.0 node
  may_mark bare both inside = record {
    found = bare.0;
    has = bare.1;
    there = bare.2;
    own = subst (λ locks. Contains locks (Locking.Node node)) (sym both) (Contains-push (lock_of parent ∷ []) (Locking.Node node));
    all = bare.3;
    place = parent;
    inside = inside;
    parent = bare.4;
    locked = subst (λ locks. Contains locks (lock_of parent)) (sym both) (Contains-append_left (lock_of parent ∷ []) (Locking.Node node ∷ []) (lock_of parent) (Contains-push [] (lock_of parent)));
  }

  -- and the pass knows it still that got the lock
  pub still_bare : (lock : Lock) (now : Me F (CellView S A R)) → now ≡ with_trie old (locking lock old.0.trie) → FindsBareUnder old.0.trie node parent → FindsBareUnder now.0.trie node parent
  still_bare lock now gets bare = (bare.0, ap (λ (y : Me F (CellView S A R)). y.0.trie.emptied) gets ∙ bare.1, bare.2, bare.3, bare.4)
