-- How many places of the trie a pass has loaded: each load is counted, and what else a hold does loads none.
use Rattle.std.proofs.Common.{◌≡◌, ℕ, ◌+◌, Bool, true, false, Some, refl, sym, ap, subst, inl, inr}
use Rattle.atomic_table.specs.Table.{Me}
use Rattle.npf_core.specs.{Machine.is_key, Meaning.Meaning}
use Rattle.npf_types.specs.declared.key.Key.{Key}
use Rattle.npf_paths.specs.declared.cell.Cell.{Cell, TheVariants.{Empty, Leaf, Node, Mark}}
use Rattle.npf_cells_holds.specs.{declared.aim.Aim.Aim, Aims.TellsAim, HoldKinds.HoldsAt, PublishKinds.{Published, HasHeld}}
use Rattle.npf_cells_leaves.specs.declared.trie.TrieSide.{TrieSide}
use Rattle.npf_cells_lives.specs.declared.pools.PoolSide.{PoolSide}
use Rattle.npf_cells_rule.specs.{declared.view.CellView.CellView, Views.{with_trie, with_pools}}
use Rattle.npf_cells_words.specs.declared.layout.Layout.{Layout}
use Rattle.npf_trie.specs.{declared.step.{Point.Point, Wanted.Wanted}, LookUp.ComparesWords}

module _ {S A R F : Type 0} where
  pub by_pools : (a b : Me F (CellView S A R)) (side : PoolSide) → b ≡ with_pools a side → b.0.trie.places ≡ a.0.trie.places
  by_pools a b side is = ap (λ (y : Me F (CellView S A R)). y.0.trie.places) is

  pub by_trie : (a b : Me F (CellView S A R)) (side : TrieSide) → b ≡ with_trie a side → side.places ≡ a.0.trie.places → b.0.trie.places ≡ a.0.trie.places
  by_trie a b side is same = subst (λ (y : Me F (CellView S A R)). y.0.trie.places ≡ a.0.trie.places) (sym is) same

  pub by_words : (a b : Me F (CellView S A R)) (most : ℕ) → ComparesWords most a b → b.0.trie.places ≡ a.0.trie.places
  by_words a b most compares = ap (λ (y : Me F (CellView S A R)). y.0.trie.places) compares.is

  module _ (m : Meaning S A R) (digest : Key → ℕ) (layout : Layout) (wanted : Wanted) (point : Point) (aim : Aim) (aimed : aim ≡ Aim.Hold wanted.id wanted.key wanted.way) where
    -- a load of a place for the key that is wanted
    pub by_load : (cell : Cell) (a b : Me F (CellView S A R)) → TellsAim m digest layout aim point.place cell a b → b.0.trie.places ≡ a.0.trie.places + 1
    by_load cell a b tells = counts cell (subst (λ (x : Aim). TellsAim m digest layout x point.place cell a b) aimed tells)
      where
        counts : (cell : Cell) → HoldsAt m digest layout wanted.id wanted.key wanted.way point.place cell a b → b.0.trie.places ≡ a.0.trie.places + 1
        counts Empty loads = ap (λ (y : Me F (CellView S A R)). y.0.trie.places) (loads.nothing (inl refl))
        counts Mark loads = ap (λ (y : Me F (CellView S A R)). y.0.trie.places) (loads.nothing (inr refl))
        counts (Node node) loads = ap (λ (y : Me F (CellView S A R)). y.0.trie.places) (loads.leads node refl).1
        counts (Leaf slot way) loads = by_test (is_key (loads.meets slot way refl).leaf.key wanted.key) refl
          where
            by_test : (t : Bool) → is_key (loads.meets slot way refl).leaf.key wanted.key ≡ t → b.0.trie.places ≡ a.0.trie.places + 1
            by_test true e = ap (λ (y : Me F (CellView S A R)). y.0.trie.places) ((loads.meets slot way refl).same e).is
            by_test false e = ap (λ (y : Me F (CellView S A R)). y.0.trie.places) ((loads.meets slot way refl).other e)

    -- the store for it
    pub by_store : (cell : Cell) (a b : Me F (CellView S A R)) → Published m digest layout point.place cell (Some aim) a b → b.0.trie.places ≡ a.0.trie.places
    by_store cell a b published =
        let held : HasHeld m digest layout wanted.id wanted.key wanted.way point.place cell a b = subst (λ (x : Aim). Published m digest layout point.place cell (Some x) a b) aimed published in
        ap (λ (y : Me F (CellView S A R)). y.0.trie.places) held.is
