-- Kind 21 keeps the rule: a mark is cleared, and its node is the pass's.
use Rattle.std.specs.List.{Contains}
use Rattle.std.proofs.Common.{◌≡◌, ◌≢◌, ℕ, ◌+◌, ◌%◌, ◌<◌, ◌≤◌, Some, None, List, [], ◌∷◌, set, length, slice_index, refl, sym, ap, ◌∙◌, subst, ⊎_elim, inl, inr, arith, eqb, eq-eqb, ne_eqb, length-set}
use Rattle.std.proofs.lemmas.{Bool.cases_eq, Nat.Bits.bit_at-lt}
use mathlib.Core.Option.{some}
use lib.ListN.{get_elem?}
use Rattle.atomic_table.{specs.Table.{Allows, Me, State, Step, keeps, stepped}, proofs.Lists.{at_map, at_set}}
use Rattle.npf_types.specs.declared.key.{Key.Key, Way.Way}
use Rattle.npf_core.specs.{History.state_of, Machine.Machine, Meaning.Meaning}
use Rattle.npf_paths.specs.{declared.{cell.Cell.TheVariants.{Empty, Leaf, Node}, place.Place.Place}, Paths.{AreDigits, IsEnd, IsOnPath}, Places.lock_of}
use Rattle.npf_paths.specs.declared.place.Place.TheVariants as Places
use Rattle.npf_paths_pruning.proofs.PruningLemmas.{pruning_told}
use Rattle.npf_cells_words.specs.declared.{layout.{Layout.Layout, Pool.{Pool, TheVariants.{Nodes, Slots}}}, mark.Emptied.Emptied}
use Rattle.npf_cells_words.specs.{Layout.{epoch_word, field_at, place_word, root_at}, Places.{IsInTrie, IsPlaceIn, place_at}}
use Rattle.npf_cells_words.proofs.{CodeLemmas.codes_are_apart, WordLemmas.{place_behind, place_lock, slot_apart}}
use Rattle.npf_seats.{specs.Sums.{occurs, others_than}, proofs.ListLemmas.{left_others, left_same, occurs-cons, one_where, stands_once}}
use Rattle.npf_seats.proofs.{PrefixLemmas.{cons_cases, none_listed}, SumLemmas.sum-set}
use Rattle.npf_cells_pins.specs.{declared.pin.Pin.{Pin, TheVariants.{Idle, Pinned, Protected}}, Epochs.PinAllows}
use Rattle.npf_cells_leaves.{specs.{TakingOff.{StaysOutside, TakesNodeOff}, Trie.{IsHung, Trie, TrieWords, trie_words}}, proofs.ParentLemmas.stands_in_trie}
use Rattle.npf_cells_leaves.proofs.TakingOffLemmas.{trie_taken_off, still_listed}
use Rattle.npf_cells_lives.specs.{Deaths.IsProtectedBy, Locks.Locks, Pools.{Pools, taken}, Turns.Running}
use Rattle.npf_cells_lives.proofs.{LockLemmas.{holders-set, locks-same, locks_alone}, PoolLemmas.pools-kept, StoredLemmas.own_same}
use Rattle.npf_cells_marks.{specs.Marks.{FitsMet, FitsPlaced, IsSomePlaceIn, Marks, RestsIn}, proofs.ClearingLemmas.marks-cleared}
use Rattle.npf_cells_rule.specs.{declared.view.CellView.CellView, Cells.{FitsAlone, IsCells}}
use Rattle.npf_cells_rule.specs.Views.{lock_side, mark_side, point_place, pool_side, protecting_epoch, reader_view, seen_place, trie_side}
use Rattle.npf_cells_rule.proofs.{Frames.{alone_still, epochs_apart}, MarkFrames.place_changed, MarkMetLemmas.{empty_below, leads_on}}
use Rattle.npf_cells_holds.{specs.UnlinkKinds.emptied_at, proofs.PlaceLemmas.{cell_else, cell_here, inc_else, key_else, lock_else, parent_else}}
use Rattle.npf_cells_returns.{specs.MarkKinds.{MayClearMark, RegainsNode, regaining}, proofs.BackFrames.{LeavesLives, back_step, below}}
use Rattle.npf_cells_returns.proofs.LockedLemmas.{met_listed, nobody_has, stored_there, stored_stays}

-- who is protected with an epoch, or an earlier one, keeps the table's from going more than one further
pinned_before : (pin : Pin) (now epoch : ℕ) → PinAllows pin now → IsProtectedBy epoch (protecting_epoch pin) → now ≤ epoch + 1
pinned_before Idle now epoch guards by = absurd by
pinned_before (Pinned pinned) now epoch guards by = absurd by
pinned_before (Protected pinned protecting) now epoch guards by = let most = guards.2 in omega (arith, most, by)

-- what the pass knows to be empty is the place itself
emptied_there : (p : Place) (e : Emptied) → emptied_at p ≡ Some e → IsPlaceIn e.node p × (e.parent ≡ None) × ((digit : ℕ) → Contains e.digits digit → p ≡ Places.Node e.node digit)
emptied_there (Places.Root digit) e is = absurd cc
emptied_there (Places.Node node digit) e is =
    let one : record { node = node; parent = None; digits = digit ∷ [] } ≡ e = cc in
    subst (λ (x : Emptied). IsPlaceIn x.node (Places.Node node digit) × (x.parent ≡ None) × ((d : ℕ) → Contains x.digits d → Places.Node node digit ≡ Places.Node x.node d)) one
    (refl, refl, λ d c. ⊎_elim (λ (same : digit ≡ d). ap (λ x. Places.Node node x) same) (λ no. absurd (none_listed d no)) (cons_cases digit d [] c))

module _ {S A R : Type 0} (m : Meaning S A R) (digest : Key → ℕ) (layout : Layout) where
  module _ (s : State (Running S) (CellView S A R)) (id : ℕ) (me : Me (Running S) (CellView S A R)) (kept : IsCells m digest layout s)
      (at : get_elem? s.views id ≡ some me.0) (place : 1 ≤ length me.0.seats.readers)
      (node : ℕ) (p : Place) (inside : IsInTrie layout p) (may : MayClearMark me.0 p node) where
    abbrev k : Machine S
    k = state_of m kept.log

    abbrev word : ℕ
    word = place_at layout p

    abbrev words' : List ℕ
    words' = set s.words word 0

    abbrev t : TrieWords
    t = trie_words layout s.words

    abbrev t' : TrieWords
    t' = trie_words layout words'

    abbrev w : CellView S A R
    w = (regaining p node me).0

    abbrev views' : List (CellView S A R)
    views' = set s.views id w

    abbrev published' : List ℕ
    published' = others_than node kept.published

    met : FitsMet layout s.words (mark_side me.0) (record { node = node; place = p; left = Some may.epoch })
    met = kept.marks.met id me.0 (record { node = node; place = p; left = Some may.epoch }) at may.met

    fits : FitsPlaced mark_side layout kept.published s.words s.views p node
    fits = kept.marks.placed p node inside met.stands

    -- nobody is in the node: who was had to be protected with the epoch with which it was let go, or an earlier one
    unrested : (j : ℕ) (u : CellView S A R) → get_elem? s.views j ≡ some u → ¬ (RestsIn (mark_side u) node)
    unrested j u e rests =
        let guards = (kept.epochs.each j (reader_view u) (at_map reader_view s.views j u e)).guards in
        let near = pinned_before u.epochs.pin (epoch_word s.words) may.epoch guards ((fits.left may.epoch (met.left may.epoch refl)).rested j u e rests) in
        let loaded = (kept.epochs.each id (reader_view me.0) (at_map reader_view s.views id me.0 at)).loaded in
        let later = may.later in
        absurd (omega (arith, near, loaded, later))

    other_locks : (j : ℕ) (u : CellView S A R) → j ≢ id → get_elem? s.views j ≡ some u → ¬ (Contains u.trie.locks (lock_of p))
    other_locks j u ne e c = locks_alone lock_side layout s.words s.views j id u me.0 (lock_of p) kept.locks (place_lock layout p inside) e at c may.locked ne

    -- the node hangs there
    hung : IsHung t.cell node
    hung = kept.trie.hang node fits.listed

    leads : t.cell p ≡ Node node
    leads = leads_on m digest layout s kept p inside node met.stands

    here : hung.place ≡ p
    here = codes_are_apart layout hung.place p (stands_in_trie layout s.words hung.place node hung.there) inside
        (sym (kept.trie.parents hung.digits hung.level hung.place node hung.are hung.on_path hung.there) ∙ fits.parent)

    on : IsOnPath hung.digits t.cell hung.level p
    on = subst (λ q. IsOnPath hung.digits t.cell hung.level q) here hung.on_path

    off : TakesNodeOff t t' p node
    off = record {
      prunes = record {
        hung = leads;
        emptied = λ digit low. empty_below m digest layout s kept p inside node digit met.stands low;
        ends_now = subst IsEnd (sym (cell_here m digest layout s kept p inside 0)) tt;
        others = cell_else m digest layout s kept p inside 0;
      };
      emptied = cell_here m digest layout s kept p inside 0;
      keys = key_else m digest layout s kept p inside 0;
      incs = inc_else m digest layout s kept p inside 0;
      parents = parent_else m digest layout s kept p inside 0;
      names = fits.parent;
    }

    -- it was published once, and is nobody's
    once : occurs node kept.published ≡ 1
    once =
        let bit = kept.pools.bits Nodes node fits.exists in
        let low = bit_at-lt (slice_index s.words (place_word layout Nodes node)) (node % 64) in
        let one = stands_once node kept.published fits.listed in
        omega (arith, bit, low, one)

    outside : (j : ℕ) (u' : CellView S A R) → get_elem? views' j ≡ some u' → (u : CellView S A R) × (get_elem? s.views j ≡ some u) × StaysOutside p node u.trie u'.trie
    outside j u' e = ⊎_elim
        (λ (x : (j ≡ id) × (w ≡ u')). (me.0, ap (get_elem? s.views) x.0 ∙ at, subst (λ (y : CellView S A R). StaysOutside p node me.0.trie y.trie) x.1 mine))
        (λ (x : (j ≢ id) × (get_elem? s.views j ≡ some u')). (u', x.1, theirs x.0 x.1))
        (at_set s.views id j w u' e)
      where
        mine : StaysOutside p node me.0.trie w.trie
        mine = record {
          stands = λ point is. (is, λ within. unrested id me.0 at (inl (subst (λ o. IsSomePlaceIn node (point_place o)) (sym is) within)));
          leaf = λ leaf is. is;
          seen = λ saw is. absurd cc;
          apart = λ saw is. absurd cc;
          locks = refl;
          answered = λ conn c. c;
        }

        theirs : j ≢ id → get_elem? s.views j ≡ some u' → StaysOutside p node u'.trie u'.trie
        theirs ne there = record {
          stands = λ point is. (is, λ within. unrested j u' there (inl (subst (λ o. IsSomePlaceIn node (point_place o)) (sym is) within)));
          leaf = λ leaf is. is;
          seen = λ saw is. (is, λ within. unrested j u' there (inr (subst (λ o. IsSomePlaceIn node (seen_place o)) (sym is) within)));
          apart = λ saw is has same. other_locks j u' ne there (subst (λ q. Contains u'.trie.locks (lock_of q)) same has);
          locks = refl;
          answered = λ conn c. c;
        }

    trie_after : Trie trie_side digest layout published' k words' views'
    trie_after = trie_taken_off trie_side digest layout kept.published k s.words words' s.views p node kept.trie off views' once
        (let more = sum-set (λ (u : CellView S A R). u.trie.grown) s.views id me.0 w at in omega (arith, more))
        (let more = sum-set (λ (u : CellView S A R). u.trie.regained) s.views id me.0 w at in omega (arith, more))
        outside

    -- it is taken as before: it was published, and is this pass's
    taken_still : (pool : Pool) (q : ℕ) → taken pool_side published' k views' pool q ≡ taken pool_side kept.published k s.views pool q
    taken_still Slots q = refl
    taken_still Nodes q =
        let owned = sum-set (λ (u : CellView S A R). occurs q u.pools.nodes) s.views id me.0 w at in
        let back = sum-set (λ (u : CellView S A R). occurs q u.pools.unfreed) s.views id me.0 w at in
        let more = occurs-cons q node me.0.pools.unfreed in
        ⊎_elim
        (λ (same : q ≡ node).
        let none : occurs q published' ≡ 0 = ap (λ x. occurs x published') same ∙ left_same node kept.published in
        let was : occurs q kept.published ≡ 1 = ap (λ x. occurs x kept.published) same ∙ once in
        let one : one_where (eqb node q) ≡ 1 = ap one_where (eq-eqb node q (sym same)) in
        omega (arith, owned, back, more, none, was, one))
        (λ (ne : q ≢ node).
        let left = left_others node q kept.published ne in
        let none : one_where (eqb node q) ≡ 0 = ap one_where (ne_eqb node q (λ e. ne (sym e))) in
        omega (arith, owned, back, more, left, none))
        (cases_eq q node)

    leaves : LeavesLives me.0 w
    leaves = record {
      seats = refl;
      turn = refl;
      pin = refl;
      loaded = λ _. refl;
      builds = refl;
      unstored = refl;
      kills = refl;
      gave_up = refl;
      reclaims = refl;
      cleared = refl;
      dated = refl;
      notes = refl;
      answered = refl;
      leaf = refl;
    }

    slots : (slot field : ℕ) → field_at layout Slots slot field ≢ word
    slots slot field = slot_apart layout p slot field inside

    low_words : (j : ℕ) → j < root_at layout → slice_index words' j ≡ slice_index s.words j
    low_words = below m digest layout s kept word 0 id me.0 w at leaves (place_behind layout p) slots

    pools_after : Pools layout (taken pool_side published' k views') words'
    pools_after = pools-kept layout (taken pool_side kept.published k s.views) (taken pool_side published' k views') s.words words' kept.pools (length-set s.words word 0) low_words taken_still

    locks_stay : Locks lock_side layout words' views'
    locks_stay = locks-same lock_side layout s.words words' s.views views' kept.locks (lock_else m digest layout s kept p inside 0) (holders-set lock_side layout s.views id me.0 w at refl)

    -- a leaf that a path meets then is one that it met before
    met_before : (digits : ℕ → ℕ) (level : ℕ) (q : Place) (slot : ℕ) (way : Way) → AreDigits digits → IsOnPath digits t'.cell level q →
        t'.cell q ≡ Leaf slot way → IsOnPath digits t.cell level q × (t.cell q ≡ Leaf slot way)
    met_before digits level q slot way are on' is = (
      (pruning_told t.cell t'.cell p node off.prunes).places digits level q on',
      sym (off.prunes.others q (λ e. let no : Leaf slot way ≡ Empty = sym is ∙ (ap t'.cell e ∙ off.emptied) in absurd cc)) ∙ is,
    )

    marks_after : Marks mark_side layout published' words' views'
    marks_after = marks-cleared mark_side layout kept.published published' s.words words' s.views id p node may.epoch me.0 w kept.marks at (record {
      changes = place_changed layout s.words p 0 inside;
      has = may.met;
      stored = stored_there m digest layout s kept p inside 0;
      nobodys = nobody_has m digest layout s kept node may.epoch fits.exists (met.left may.epoch refl);
      alone = other_locks;
      left = λ other c ne. still_listed node kept.published other c ne;
      hung = λ other within. met_listed m digest layout s kept hung.digits hung.level p other hung.are on within;
      marks = refl;
      emptied = emptied_there p;
      met = refl;
      unfreed = refl;
      locks = refl;
      loaded = refl;
      rests = record { rests = λ n rests. ⊎_elim (λ stands. inl stands) (λ saw. absurd saw) rests; protecting = refl };
    })

    -- it is in a stay, since it has a lock
    fits_alone : FitsAlone w
    fits_alone = alone_still me.0 w (kept.alone id me.0 at) place refl (λ none. absurd (none_listed (lock_of p) (subst (λ locks. Contains locks (lock_of p)) none.locks may.locked)))

    pub regains : IsCells m digest layout (stepped s word 0 id me.1 w keeps)
    regains = back_step m digest layout s kept word 0 id me.0 w at leaves (place_behind layout p) slots published' me.1
        (epochs_apart m digest layout s word 0 id me.0 w kept at refl (λ j h. low_words j (omega (arith, h))))
        pools_after
        trie_after
        (stored_stays m digest layout s kept p inside 0 hung.digits hung.level hung.are on id me.0 w at refl (own_same layout me.0.pools w.pools refl refl))
        locks_stay
        met_before
        marks_after
        fits_alone

  pub may_regain : (st : Step (Running S)) (id n node : ℕ) (p : Place) (me : Me (Running S) (CellView S A R)) → 1 ≤ length me.0.seats.readers → IsInTrie layout p → MayClearMark me.0 p node →
      Allows (IsCells m digest layout) n id me (place_at layout p) (λ _. 0) (λ _. RegainsNode p node st me 0)
  may_regain st id n node p me place inside may s kept homes at bound = (
    (regaining p node me).0,
    keeps,
    tt,
    regains s id me kept at place node p inside may,
    record { is = refl },
  )
