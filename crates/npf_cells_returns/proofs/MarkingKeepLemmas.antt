-- Kind 19, by which a node is marked in whose places nothing stands, keeps the rule.
use Rattle.std.specs.List.{Contains}
use Rattle.std.proofs.Common.{◌≡◌, ◌≢◌, ◌⊎◌, ℕ, ◌/◌, ◌%◌, ◌^◌, ◌<◌, ◌≤◌, Bool, true, false, cond, eqb, Option, Some, None, List, ◌∷◌, set}
use Rattle.std.proofs.{Common.{length, slice_index, refl, sym, ap, ◌∙◌, subst, ⊎_elim, inl, inr, arith}, lemmas.Bool.Decides.Decides-eqb}
use mathlib.Core.Option.{some}
use lib.ListN.{get_elem?}
use Rattle.atomic_table.specs.Table.{State, Me, Step, Allows, stepped, keeps}
use Rattle.npf_types.specs.declared.key.Key.{Key}
use Rattle.npf_core.specs.Meaning.{Meaning}
use Rattle.npf_paths.specs.{declared.{cell.Cell.Cell, place.{Lock.Lock, Place.Place}}, CellWords.{cell_word, way_numbered}}
use Rattle.npf_paths.specs.declared.cell.Cell.TheVariants as Cells
use Rattle.npf_paths.specs.declared.place.Lock.TheVariants as Locking
use Rattle.npf_cells_words.specs.{declared.{layout.Layout.Layout, mark.{Emptied.Emptied, Marked.Marked}}, Codes.place_code}
use Rattle.npf_cells_words.specs.{MarkWords.{mark_word, marked_state, shown_of, state_word}, Places.{IsInTrie, lock_at, place_at}}
use Rattle.npf_cells_words.proofs.CodeLemmas.{codes_are_apart}
use Rattle.npf_cells_leaves.{specs.{declared.trie.TrieSide.TrieSide, Trie.trie_words}, proofs.{ParentLemmas.stands_in_trie, TrieLemmas.cell_there}}
use Rattle.npf_cells_lives.{specs.Turns.Running, proofs.LockLemmas.holders-set}
use Rattle.npf_cells_marks.{specs.{Marks.Marks, Steps.ChangesState}, proofs.PlacingLemmas.marks-marked}
use Rattle.npf_cells_rule.{specs.{declared.view.CellView.CellView, Cells.IsCells, Views.{lock_side, mark_side}}, proofs.MarkFrames.lock_changed}
use Rattle.npf_cells_holds.proofs.LockKeepLemmas.{lock_step, fits_still, stored_there, held, held_there, locked_alone}
use Rattle.npf_cells_returns.specs.MarkKinds.{MayMarkNode, MarksEmptied, marked_by, marking, parent_said}

-- where a path goes on to a node its word or its mark stands
node_shown : (word node : ℕ) → shown_of word ≡ Cells.Node node → (word ≡ mark_word node) ⊎ (word ≡ cell_word (Cells.Node node))
node_shown word node is = by_mark (eqb (word % 4) 3) (eqb (word % 4) 1) (eqb (word % 4) 2) refl refl refl is
  where
    by_mark : (c a b : Bool) → eqb (word % 4) 3 ≡ c → eqb (word % 4) 1 ≡ a → eqb (word % 4) 2 ≡ b →
        cond c (Cells.Node (word / 4)) (cond a (Cells.Leaf (word / 4 / 3) (way_numbered (word / 4 % 3))) (cond b (Cells.Node (word / 4)) (cond c Cells.Mark Cells.Empty))) ≡ Cells.Node node →
        (word ≡ mark_word node) ⊎ (word ≡ cell_word (Cells.Node node))
    by_mark true a b e f g same =
        let three : word % 4 ≡ 3 = (Decides-eqb (word % 4) 3).0 e in
        let there : word / 4 ≡ node = cc in
        inl (grind (arith, three, there))
    by_mark false true b e f g same = absurd cc
    by_mark false false true e f g same =
        let two : word % 4 ≡ 2 = (Decides-eqb (word % 4) 2).0 g in
        let there : word / 4 ≡ node = cc in
        inr (grind (arith, two, there))
    by_mark false false false e f g same = absurd cc

module _ {S A R : Type 0} (m : Meaning S A R) (digest : Key → ℕ) (layout : Layout) (s : State (Running S) (CellView S A R)) (kept : IsCells m digest layout s)
    (id : ℕ) (me : Me (Running S) (CellView S A R)) (at : get_elem? s.views id ≡ some me.0) (seated : 1 ≤ length me.0.seats.readers) (node : ℕ)
    (within : node < layout.nodes) (may : MayMarkNode layout me.0 node) (found : Emptied) (has : me.0.trie.emptied ≡ Some found) (there : found.node ≡ node) (all : (digit : ℕ) →
    digit < 16 → Contains found.digits digit) (named : found.parent ≡ Some (place_code may.place)) where
  abbrev lock : Lock
  lock = Locking.Node node

  abbrev words' : List ℕ
  words' = set s.words (lock_at layout lock) marked_state

  abbrev marker : CellView S A R
  marker = record me.0 { trie = marking me.0.trie }

  -- the node hangs in the place that its parent word names, and its mark isn't there
  hangs : slice_index s.words (place_at layout may.place) ≡ cell_word (Cells.Node found.node)
  hangs =
      let bare = kept.marks.emptied id me.0 found at has in
      let hung = kept.trie.hang found.node bare.listed in
      let named_there = kept.trie.parents hung.digits hung.level hung.place found.node hung.are hung.on_path hung.there in
      let one : hung.place ≡ may.place =
      codes_are_apart layout hung.place may.place (stands_in_trie layout s.words hung.place found.node hung.there) may.inside (sym named_there ∙ bare.parent (place_code may.place) named) in
      let shown : shown_of (slice_index s.words (place_at layout may.place)) ≡ Cells.Node found.node =
      sym (cell_there layout s.words may.place may.inside) ∙ (ap (trie_words layout s.words).cell (sym one) ∙ hung.there) in
      ⊎_elim
      (λ (mark : slice_index s.words (place_at layout may.place) ≡ mark_word found.node).
      let mine = kept.marks.held id me.0 may.place found.node at may.inside mark (subst (λ n. Contains me.0.trie.locks (Locking.Node n)) (sym there) may.own) in
      absurd (bare.unmarked (record { node = found.node; parent = place_code may.place; placed = true }) mine refl))
      (λ word. word)
      (node_shown (slice_index s.words (place_at layout may.place)) found.node shown)

  marks_after : Marks mark_side layout kept.published words' (set s.views id marker)
  marks_after = marks-marked mark_side layout kept.published s.words words' s.views id may.place found me.0 marker kept.marks at (record {
    changes = subst (λ n. ChangesState layout s.words words' (Locking.Node n)) (sym there) (lock_changed layout s.words lock marked_state within);
    held = subst (λ n. state_word layout s.words n < 2 ^ 63) (sym there) (held_there m digest layout s id me kept at lock within may.own);
    stored = subst (λ n. state_word layout words' n ≡ marked_state) (sym there) (stored_there m digest layout s id me kept at lock within marked_state);
    has = has;
    all = all;
    inside = may.inside;
    parent = named;
    hangs = hangs;
    marks = ap (λ e. marked_by e me.0.trie.marks) has ∙ ap (λ p. (record { node = found.node; parent = parent_said p; placed = false }) ∷ me.0.trie.marks) named;
    emptied = refl;
    met = refl;
    unfreed = refl;
    locks = refl;
    loaded = refl;
    rests = record { rests = λ n rests. rests; protecting = refl };
  })

  pub marks_node : IsCells m digest layout (stepped s (lock_at layout lock) marked_state id me.1 marker keeps)
  marks_node =
      let still = fits_still m digest layout s id me kept at lock within marked_state in
      lock_step m digest layout s id me kept at lock within marked_state (marking me.0.trie) refl refl (record { rests = λ i dead bare rests. (rests, refl) })
      (locked_alone m digest layout s id me kept at lock within (marking me.0.trie) seated may.own)
      (record { stands = still.stands; leaf = still.leaf; seen = λ x e. let was = still.seen x e in record { on_path = was.on_path; locked = was.locked }; claimed = still.claimed })
      (holders-set lock_side layout s.views id me.0 marker at refl lock ∙ (held m digest layout s id me kept at lock within may.own).0)
      (λ digit h e. absurd (omega (arith, h, e))) (λ other ne. refl) marks_after

pub may_mark_node : {S A R : Type 0} (m : Meaning S A R) (digest : Key → ℕ) (layout : Layout) (st : Step (Running S)) (id n node : ℕ) (me : Me (Running S) (CellView S A R)) →
    1 ≤ length me.0.seats.readers → node < layout.nodes → MayMarkNode layout me.0 node →
    Allows (IsCells m digest layout) n id me (lock_at layout (Locking.Node node)) (λ _. marked_state) (λ _. MarksEmptied st me marked_state)
may_mark_node m digest layout st id n node me seated within may s kept homes at bound = (
  record me.0 { trie = marking me.0.trie },
  keeps,
  tt,
  marks_node m digest layout s kept id me at seated node within may may.found may.has may.there may.all may.parent,
  record { is = refl },
)
