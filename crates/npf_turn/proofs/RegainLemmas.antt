-- A mark is cleared that the pass met under its place's lock, where its node was let go long ago.
use Rattle.std.specs.List.{Contains}
use Rattle.std.proofs.Common.{◌≡◌, ℕ, ◌-◌, ◌/◌, ◌%◌, ◌^◌, ◌≤◌, nat_lt, Bool, true, false, cond, eq-eqb, Some, None, [], ◌∷◌, refl, sym, ap, ◌∙◌, subst, arith}
use Rattle.std.proofs.lemmas.List.Elements.{Contains-push}
use Rattle.atomic_table.specs.Table.{Me}
use Rattle.npf_paths.specs.{declared.place.{Lock.Lock, Place.Place}, Places.lock_of}
use Rattle.npf_cells_words.specs.declared.mark.MetMark.{MetMark}
use Rattle.npf_cells_rule.specs.{declared.view.CellView.CellView, Views.with_trie}
use Rattle.npf_cells_holds.specs.LockKinds.{locking}
use Rattle.npf_cells_returns.specs.{LoadKinds.{loading_cell, loading_parent, loading_state, with_left}, MarkKinds.MayClearMark}
use Rattle.npf_turn.specs.{Reclaims.IsLongLeft, TakingOff.{HasEmptied, HasReached, ReturnsNode, TriesToClear}}

long_epoch : (state : ℕ) → 2 ^ 63 ≤ state → cond (nat_lt state (2 ^ 63)) None (Some (state - 2 ^ 63)) ≡ Some (state - 2 ^ 63)
long_epoch state h = grind (arith, h)

module _ {S A R F : Type 0} where
  pub may_clear : (p : Place) (word state epoch : ℕ) (old met now : Me F (CellView S A R)) → old.0.trie.locks ≡ lock_of p ∷ [] →
      HasReached old.0.epochs epoch → met ≡ with_trie old (loading_cell p word old.0.trie) → word % 4 ≡ 3 →
      now ≡ with_trie met (loading_state (word / 4) state met.0.trie) → IsLongLeft state epoch → MayClearMark now.0 p (word / 4)
  may_clear p word state epoch old met now only reached meets mark loads left = record {
    epoch = state - 2 ^ 63;
    met = ap (λ (y : Me F (CellView S A R)). y.0.trie.met_mark) loads
        ∙ (ap (with_left (word / 4) state) (ap (λ (y : Me F (CellView S A R)). y.0.trie.met_mark) meets ∙ ap (λ b. cond b (Some one) None) (eq-eqb (word % 4) 3 mark))
        ∙ (ap (λ b. cond b (Some (record one { left = cond (nat_lt state (2 ^ 63)) None (Some (state - 2 ^ 63)) })) (Some one))
        (eq-eqb (word / 4) (word / 4) refl) ∙ ap (λ l. Some (record one { left = l })) (long_epoch state left.left)));
    locked = subst (λ locks. Contains locks (lock_of p))
        (sym (ap (λ (y : Me F (CellView S A R)). y.0.trie.locks) loads ∙ (ap (λ (y : Me F (CellView S A R)). y.0.trie.locks) meets ∙ only))) (Contains-push [] (lock_of p));
    later = (let same : now.0.epochs.loaded ≡ old.0.epochs.loaded = ap (λ (y : Me F (CellView S A R)). y.0.epochs.loaded) loads ∙ ap (λ (y : Me F (CellView S A R)). y.0.epochs.loaded) meets in
        let from = left.left in
        let long = left.long in
        let has = reached.loaded in
        omega (arith, same, from, long, has));
  }
    where
      one : MetMark
      one = record { node = word / 4; place = p; left = None }

  -- whether it was cleared or not, the pass marks nothing
  pub marks_still : (p : Place) (cleared : Bool) (was now : Me F (CellView S A R)) → TriesToClear p cleared was now → now.0.trie.marks ≡ was.0.trie.marks
  marks_still p true was now tries = ap (λ (y : Me F (CellView S A R)). y.0.trie.marks) tries
  marks_still p false was now tries = ap (λ (y : Me F (CellView S A R)). y.0.trie.marks) tries

  -- where it was cleared, nothing stands in the place
  pub emptied_so : (p : Place) (cleared : Bool) (was now : Me F (CellView S A R)) → TriesToClear p cleared was now →
      cleared ≡ true → was.0.trie.locks ≡ lock_of p ∷ [] → was.0.trie.marks ≡ [] → HasEmptied now.0.trie p
  emptied_so p true was now tries _ only none = subst (λ (y : Me F (CellView S A R)). HasEmptied y.0.trie p)
      (sym tries) (record { only = only; knows = refl; unmarked = none; unseen = refl; unmet = refl })
  emptied_so p false was now tries e only none = absurd cc

  -- the pass that took what the node's words say for a hint, and has the lock of the place
  module _ (node state code : ℕ) (lock : Lock) (old stated named locked : Me F (CellView S A R)) (one : stated ≡ with_trie old (loading_state node state old.0.trie))
      (two : named ≡ with_trie stated (loading_parent node code stated.0.trie))
      (gets : locked ≡ with_trie named (locking lock named.0.trie)) (unlocked : old.0.trie.locks ≡ []) where
    pub lock_alone : locked.0.trie.locks ≡ lock ∷ []
    lock_alone = ap (λ (y : Me F (CellView S A R)). y.0.trie.locks) gets ∙ ap (λ locks. lock ∷
        locks) (ap (λ (y : Me F (CellView S A R)). y.0.trie.locks) two ∙ (ap (λ (y : Me F (CellView S A R)). y.0.trie.locks) one ∙ unlocked))

    pub marks_same : locked.0.trie.marks ≡ old.0.trie.marks
    marks_same = ap (λ (y : Me F (CellView S A R)). y.0.trie.marks) gets ∙ (ap (λ (y : Me F (CellView S A R)). y.0.trie.marks) two ∙ ap (λ (y : Me F (CellView S A R)). y.0.trie.marks) one)

    abbrev pub without : Me F (CellView S A R) → Me F (CellView S A R)
    without y = (record y.0 { trie = record y.0.trie { seen = None; locks = []; emptied = None; met_mark = None } }, y.1)

    abbrev pub forgot : Me F (CellView S A R) → Me F (CellView S A R)
    forgot y = (record y.0 { trie = record y.0.trie { locks = []; emptied = None; met_mark = None } }, y.1)

    -- where nothing was cleared it frees the lock
    pub returns_none : (p : Place) (cleared : Bool) (tried now : Me F (CellView S A R)) → TriesToClear p cleared locked tried → cleared ≡ false → now ≡ forgot tried → ReturnsNode cleared old now
    returns_none p true tried now tries e frees = absurd cc
    returns_none p false tried now tries _ frees = subst (ReturnsNode false old) (sym is) (record {
      is = refl;
      epochs = record { pin = refl; raises = refl; greatest = omega arith; known = omega arith; most = λ h. h };
      reaches = λ e reached. reached;
      counts = λ e. absurd cc;
      same = λ _. refl;
    })
      where
        is : now ≡ (record old.0 { trie = record old.0.trie { seen = None; emptied = None; met_mark = None } }, old.1)
        is = frees ∙ (ap forgot tries
            ∙ (ap forgot gets
            ∙ (ap without two ∙ (ap without one ∙ (λ i. (record old.0 { trie = record old.0.trie { seen = None; locks = sym unlocked i; emptied = None; met_mark = None } }, old.1))))))
