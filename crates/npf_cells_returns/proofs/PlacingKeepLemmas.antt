-- Kind 20 keeps the rule: the mark of a node that the pass marked takes the node's place.
use Rattle.std.specs.List.{Contains}
use Rattle.std.proofs.Common.{◌≡◌, ◌≢◌, ◌⊎◌, ℕ, ◌<◌, ◌≤◌, true, false, cond, eq-eqb, ne_eqb, List, [], ◌∷◌, map, set, length, slice_index}
use Rattle.std.proofs.{Common.{refl, sym, ap, ◌∙◌, subst, ⊎_elim, inl, inr, arith, length-set}, lemmas.{Bool.cases_eq, List.{get_or-map, length-map, map-set}}}
use mathlib.Core.Option.{some}
use lib.ListN.{get_elem?}
use Rattle.atomic_table.{specs.Table.{Allows, Me, State, Step, keeps, stepped}, proofs.Lists.at_map}
use Rattle.npf_types.specs.declared.key.Key.{Key}
use Rattle.npf_shelf.proofs.ListLemmas.{Contains-later}
use Rattle.npf_core.specs.{History.state_of, Machine.Machine, Meaning.Meaning}
use Rattle.npf_paths.specs.{declared.{cell.Cell.TheVariants.Node, place.Place.Place}, CellWords.cell_word, Paths.IsOnPath, Places.lock_of}
use Rattle.npf_paths.specs.declared.place.Lock.TheVariants as Locking
use Rattle.npf_paths.proofs.FillingLemmas.{same_or_apart}
use Rattle.npf_cells_words.specs.{declared.{layout.{Layout.Layout, Pool.TheVariants.Slots}, mark.Marked.Marked}, Codes.place_code}
use Rattle.npf_cells_words.specs.{Layout.{epoch_word, field_at, reader_word, root_at}, MarkWords.{mark_word, parent_word, shown_of}}
use Rattle.npf_cells_words.{specs.Places.{IsInTrie, place_at}, proofs.{CodeLemmas.codes_are_apart, MarkLemmas.{marks_lead_on, said_shown}}}
use Rattle.npf_cells_words.proofs.WordLemmas.{place_behind, slot_apart}
use Rattle.npf_seats.proofs.{PrefixLemmas.{cons_cases, none_listed}, SumLemmas.side_same}
use Rattle.npf_cells_pins.specs.Epochs.{Epochs}
use Rattle.npf_cells_leaves.{specs.Trie.{FitsTrie, IsHung, Trie, TrieWords, trie_words}, proofs.ParentLemmas.stands_in_trie}
use Rattle.npf_cells_leaves.proofs.TrieLemmas.{KeepsTrie, cell_there, fits-set, fits_all, fits_kept, grown-set, knows_same, trie_kept}
use Rattle.npf_cells_lives.{specs.{Locks.Locks, Pools.{Pools, taken}, Turns.Running}, proofs.LockLemmas.{holders-set, locks-same, locks_alone}}
use Rattle.npf_cells_lives.proofs.{PoolLemmas.{pools-kept, taken-set}, StoredLemmas.own_same}
use Rattle.npf_cells_marks.{specs.Marks.{FitsMarked, Marks}, proofs.PlacingLemmas.marks-placed}
use Rattle.npf_cells_rule.specs.{declared.view.CellView.CellView, Cells.{FitsAlone, IsCells}, Views.{lock_side, mark_side, pool_side, reader_view, trie_side}}
use Rattle.npf_cells_rule.proofs.{Frames.{alone_still, epochs_apart}, MarkFrames.place_changed}
use Rattle.npf_cells_holds.proofs.{ForgottenLemmas.epochs_forgot, PlaceLemmas.{cell_else, cell_here, inc_else, key_else, lock_else, parent_else}}
use Rattle.npf_cells_returns.{specs.MarkKinds.{MarksPlace, MayMarkPlace, placed_mark, placing}, proofs.BackFrames.{LeavesLives, back_step, below, same_leaves}}
use Rattle.npf_cells_returns.proofs.LockedLemmas.{locked_state, stored_stays, stored_there}

-- what a map lists comes from something that was listed, and whatever was listed it lists
from_listed : {X Y : Type 0} (f : X → Y) (xs : List X) (y : Y) → Contains (map f xs) y → (x : X) × Contains xs x × (f x ≡ y)
from_listed f [] y c = absurd (none_listed y c)
from_listed {X} {Y} f (x ∷ xs) y c = ⊎_elim
    (λ (e : f x ≡ y). (x, (0, omega arith, refl), e))
    (λ (d : Contains (map f xs) y). let was = from_listed f xs y d in (was.0, Contains-later x was.0 xs was.1, was.2))
    (cons_cases (f x) y (map f xs) c)

to_listed : {X Y : Type 0} (f : X → Y) (xs : List X) (x : X) → Contains xs x → Contains (map f xs) (f x)
to_listed f xs x c =
    let long = length-map xs f in
    let short = c.1 in
    (c.0, omega (arith, long, short), get_or-map f xs c.0 x (f x) short ∙ ap f c.2)

-- the mark of the node is placed, and each other one stays
placed_here : (node : ℕ) (x : Marked) → x.node ≡ node → placed_mark node x ≡ record x { placed = true }
placed_here node x same = ap (λ b. cond b (record x { placed = true }) x) (eq-eqb x.node node same)

placed_else : (node : ℕ) (x : Marked) → x.node ≢ node → placed_mark node x ≡ x
placed_else node x ne = ap (λ b. cond b (record x { placed = true }) x) (ne_eqb x.node node ne)

module _ {S A R : Type 0} (m : Meaning S A R) (digest : Key → ℕ) (layout : Layout) where
  module _ (s : State (Running S) (CellView S A R)) (id : ℕ) (me : Me (Running S) (CellView S A R)) (kept : IsCells m digest layout s)
      (at : get_elem? s.views id ≡ some me.0) (place : 1 ≤ length me.0.seats.readers)
      (node : ℕ) (p : Place) (inside : IsInTrie layout p) (may : MayMarkPlace me.0 p node) where
    abbrev k : Machine S
    k = state_of m kept.log

    abbrev word : ℕ
    word = place_at layout p

    abbrev words' : List ℕ
    words' = set s.words word (mark_word node)

    abbrev t : TrieWords
    t = trie_words layout s.words

    abbrev t' : TrieWords
    t' = trie_words layout words'

    abbrev w : CellView S A R
    w = (placing node me).0

    abbrev views' : List (CellView S A R)
    views' = set s.views id w

    fits : FitsMarked mark_side layout kept.published s.words s.views (mark_side me.0) (record { node = node; parent = place_code p; placed = false })
    fits = kept.marks.marks id me.0 (record { node = node; parent = place_code p; placed = false }) at may.marked

    -- the node hangs there, on a path
    stood : slice_index s.words word ≡ cell_word (Node node)
    stood = ap (λ q. slice_index s.words (place_at layout q)) (codes_are_apart layout p fits.place inside fits.inside fits.names) ∙ fits.hangs refl

    leads : t.cell p ≡ Node node
    leads = cell_there layout s.words p inside ∙ (ap shown_of stood ∙ said_shown (Node node) (λ no. absurd cc))

    hung : IsHung t.cell node
    hung = kept.trie.hang node fits.listed

    here : hung.place ≡ p
    here = codes_are_apart layout hung.place p (stands_in_trie layout s.words hung.place node hung.there) inside
        (sym (kept.trie.parents hung.digits hung.level hung.place node hung.are hung.on_path hung.there) ∙ fits.parent)

    on : IsOnPath hung.digits t.cell hung.level p
    on = subst (λ q. IsOnPath hung.digits t.cell hung.level q) here hung.on_path

    -- its mark leads where it did, so paths go on as before
    cell_still : (q : Place) → t'.cell q ≡ t.cell q
    cell_still q = ⊎_elim
        (λ (same : q ≡ p). ap t'.cell same ∙ (cell_here m digest layout s kept p inside (mark_word node) ∙ (marks_lead_on.0 node ∙ (sym leads ∙ ap t.cell (sym same)))))
        (λ (ne : q ≢ p). cell_else m digest layout s kept p inside (mark_word node) q ne)
        (same_or_apart q p)

    keeps_trie : KeepsTrie layout.slots k k t t'
    keeps_trie = record {
      holder = λ key. refl;
      claimed = λ conn c. c;
      cells = λ digits are level q on. cell_still q;
      parents = λ digits level q other are on is. parent_else m digest layout s kept p inside (mark_word node) other;
      dead = λ conn e. e;
      keys = λ slot way right. key_else m digest layout s kept p inside (mark_word node) slot way;
      incs = λ slot way right. inc_else m digest layout s kept p inside (mark_word node) slot;
    }

    fits_still : FitsTrie digest layout.slots k t' w.trie
    fits_still =
        let was = fits_kept digest layout.slots k k t t' keeps_trie me.0.trie me.0.trie (knows_same me.0.trie) (kept.trie.each id me.0 at) in
        record { stands = was.stands; leaf = was.leaf; seen = λ x e. absurd cc; claimed = was.claimed }

    trie_after : Trie trie_side digest layout kept.published k words' views'
    trie_after = trie_kept trie_side digest layout kept.published k k s.words words' s.views views' kept.trie keeps_trie (grown-set trie_side s.views id me.0 w at refl refl)
        (fits-set trie_side digest layout.slots k t' s.views id w fits_still (fits_all trie_side digest layout.slots k k t t' s.views keeps_trie kept.trie.each))

    leaves : LeavesLives me.0 w
    leaves = record {
      seats = refl;
      turn = refl;
      pin = refl;
      loaded = λ some'. absurd (omega (arith, some'));
      builds = refl;
      unstored = refl;
      kills = refl;
      gave_up = refl;
      reclaims = refl;
      cleared = refl;
      dated = refl;
      notes = refl;
      answered = refl;
      leaf = refl;
    }

    slots : (slot field : ℕ) → field_at layout Slots slot field ≢ word
    slots slot field = slot_apart layout p slot field inside

    low_words : (j : ℕ) → j < root_at layout → slice_index words' j ≡ slice_index s.words j
    low_words = below m digest layout s kept word (mark_word node) id me.0 w at leaves (place_behind layout p) slots

    epochs_after : Epochs (epoch_word words') (reader_word words') (map reader_view views')
    epochs_after = subst (λ rs. Epochs (epoch_word words') (reader_word words') rs) (sym (map-set reader_view s.views id w))
        (epochs_forgot (epoch_word words') (reader_word words') (map reader_view s.views) id (reader_view me.0) now (at_map reader_view s.views id me.0 at))
      where
        now : Epochs (epoch_word words') (reader_word words') (map reader_view s.views)
        now = subst (λ rs. Epochs (epoch_word words') (reader_word words') rs) (side_same reader_view s.views id me.0 me.0 at refl)
            (epochs_apart m digest layout s word (mark_word node) id me.0 me.0 kept at refl (λ j h. low_words j (omega (arith, h))))

    pools_after : Pools layout (taken pool_side kept.published k views') words'
    pools_after = pools-kept layout (taken pool_side kept.published k s.views) (taken pool_side kept.published k views') s.words words' kept.pools (length-set s.words word (mark_word node)) low_words
        (taken-set pool_side kept.published k s.views id me.0 w at refl refl)

    locks_stay : Locks lock_side layout words' views'
    locks_stay = locks-same lock_side layout s.words words' s.views views' kept.locks
        (lock_else m digest layout s kept p inside (mark_word node)) (holders-set lock_side layout s.views id me.0 w at refl)

    -- a mark of the same node says the same place as its parent
    mark_cases : (x : Marked) → Contains me.0.trie.marks x → (x.node ≡ node) ⊎ (x.node ≢ node) →
        (Contains me.0.trie.marks (placed_mark node x) × ((placed_mark node x).node ≢ node)) ⊎ (placed_mark node x ≡ record { node = node; parent = place_code p; placed = true })
    mark_cases x c = ⊎_elim
        (λ (same : x.node ≡ node).
        let parent : x.parent ≡ place_code p = sym (kept.marks.marks id me.0 x at c).parent ∙ (ap (parent_word layout s.words) same ∙ fits.parent) in
        inr (placed_here node x same ∙ (λ i. record { node = same i; parent = parent i; placed = true })))
        (λ (ne : x.node ≢ node). inl (subst (λ (y : Marked). Contains me.0.trie.marks y × (y.node ≢ node)) (sym (placed_else node x ne)) (c, ne)))

    marks_after : Marks mark_side layout kept.published words' views'
    marks_after = marks-placed mark_side layout kept.published s.words words' s.views id p node me.0 w kept.marks at (record {
      changes = place_changed layout s.words p (mark_word node) inside;
      inside = inside;
      mine = may.marked;
      stored = stored_there m digest layout s kept p inside (mark_word node);
      state = locked_state m digest layout s kept id me.0 node at fits.exists fits.locked;
      alone = λ j u ne e c. locks_alone lock_side layout s.words s.views j id u me.0 (Locking.Node node) kept.locks fits.exists e at c fits.locked ne;
      marks = λ y c.
          let from = from_listed (placed_mark node) me.0.trie.marks y c in
          subst (λ (z : Marked). (Contains me.0.trie.marks z × (z.node ≢ node)) ⊎
          (z ≡ record { node = node; parent = place_code p; placed = true })) from.2 (mark_cases from.0 from.1 (cases_eq from.0.node node));
      marked = λ x c ne. subst (λ (y : Marked). Contains w.trie.marks y) (placed_else node x ne) (to_listed (placed_mark node) me.0.trie.marks x c);
      placed = subst (λ (y : Marked). Contains w.trie.marks y) (placed_here node (record { node = node; parent = place_code p; placed = false }) refl)
          (to_listed (placed_mark node) me.0.trie.marks (record { node = node; parent = place_code p; placed = false }) may.marked);
      emptied = refl;
      met = refl;
      unfreed = refl;
      locks = refl;
      loaded = refl;
      rests = record { rests = λ n rests. ⊎_elim (λ stands. inl stands) (λ saw. absurd saw) rests; protecting = refl };
    })

    -- it is in a stay, since it has a lock
    fits_alone : FitsAlone w
    fits_alone = alone_still me.0 w (kept.alone id me.0 at) place refl (λ none. absurd (none_listed (lock_of p) (subst (λ locks. Contains locks (lock_of p)) none.locks may.locked)))

    pub marks_there : IsCells m digest layout (stepped s word (mark_word node) id me.1 w keeps)
    marks_there = back_step m digest layout s kept word (mark_word node) id me.0 w at leaves (place_behind layout p) slots kept.published me.1
        epochs_after
        pools_after
        trie_after
        (stored_stays m digest layout s kept p inside (mark_word node) hung.digits hung.level hung.are on id me.0 w at refl (own_same layout me.0.pools w.pools refl refl))
        locks_stay
        (same_leaves t.cell t'.cell cell_still)
        marks_after
        fits_alone

  pub may_mark_place : (st : Step (Running S)) (id n node : ℕ) (p : Place) (me : Me (Running S) (CellView S A R)) → 1 ≤ length me.0.seats.readers → IsInTrie layout p → MayMarkPlace me.0 p node →
      Allows (IsCells m digest layout) n id me (place_at layout p) (λ _. mark_word node) (λ _. MarksPlace node st me (mark_word node))
  may_mark_place st id n node p me place inside may s kept homes at bound = (
    (placing node me).0,
    keeps,
    tt,
    marks_there s id me kept at place node p inside may,
    record { is = refl },
  )
