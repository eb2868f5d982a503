-- What a pass meets where a mark stands, and where a node does: no key's path that comes to a mark has a holder, and no mark stands of a node to
-- which a path leads that still hangs.
use Rattle.std.proofs.Common.{◌≡◌, ◌≢◌, ℕ, ◌+◌, ◌/◌, ◌%◌, ◌<◌, ◌≤◌, Bool, true, false, cond, eqb, Some, None, List, set, slice_index, refl, sym, ap, ◌∙◌, subst, arith}
use Rattle.std.{proofs.lemmas.List.get_or-set_same, specs.List.Contains}
use mathlib.Core.Option.{some}
use lib.ListN.{get_elem?}
use Rattle.atomic_table.specs.Table.{State}
use Rattle.npf_types.specs.declared.key.Key.{Key}
use Rattle.npf_core.specs.{History.state_of, Meaning.Meaning}
use Rattle.npf_paths.specs.{declared.{cell.Cell.{Cell, TheVariants.{Empty, Leaf, Node, Mark}}, place.Place.Place}, CellWords.{cell_of, cell_word, way_numbered}}
use Rattle.npf_paths.specs.declared.place.Place.TheVariants as Places
use Rattle.npf_paths.specs.{Paths.{AreDigits, IsOnPath, IsEnd, IsOnPath.{at_root, further}}, Places.lock_of}
use Rattle.npf_cells_words.specs.{declared.{layout.Layout.Layout, mark.Marked.Marked}, MarkWords.{mark_word, shown_of, IsMarkOf}}
use Rattle.npf_cells_words.{specs.Places.{place_at, IsInTrie, IsPlaceIn}, proofs.CodeLemmas.codes_are_apart}
use Rattle.npf_cells_words.proofs.{MarkLemmas.{marks_lead_on, marks_say_nodes, real_shown, said_shown}, WordLemmas.{place_lock, place_reach}}
use Rattle.npf_cells_leaves.{specs.Trie.{digits_of, holder_at, TrieWords, trie_words}, proofs.ParentLemmas.stands_in_trie}
use Rattle.npf_cells_leaves.proofs.TrieLemmas.{are_digits, cell_there}
use Rattle.npf_cells_lives.{specs.Turns.Running, proofs.LockLemmas.locks_alone}
use Rattle.npf_cells_marks.{specs.Marks.{HasMark, Marks}, proofs.{ClearingLemmas.in_node, StoringLemmas.{marks-owned, marks-stored}}}
use Rattle.npf_cells_rule.specs.{declared.view.CellView.CellView, Cells.IsCells, Views.{lock_side, mark_side, protecting_epoch}}
use Rattle.npf_cells_rule.proofs.{MarkFrames.{MeetsNoMore, in_no_more, place_changed}, MetLemmas.unowned}

-- a word that is read as a mark says its node
pub mark_there : (word : ℕ) → cell_of word ≡ Mark → word ≡ mark_word (word / 4)
mark_there word is = by_kind (eqb (word % 4) 1) (eqb (word % 4) 2) (eqb (word % 4) 3) refl is
  where
    by_kind : (a b c : Bool) → eqb (word % 4) 3 ≡ c → cond a (Leaf (word / 4 / 3) (way_numbered (word / 4 % 3))) (cond b (Node (word / 4)) (cond c Mark Empty)) ≡ Mark → word ≡ mark_word (word / 4)
    by_kind true b c e same = absurd cc
    by_kind false true c e same = absurd cc
    by_kind false false true e same = grind (arith, e)
    by_kind false false false e same = absurd cc

module _ {S A R : Type 0} (m : Meaning S A R) (digest : Key → ℕ) (layout : Layout) (s : State (Running S) (CellView S A R))
    (kept : IsCells m digest layout s) (p : Place) (inside : IsInTrie layout p) where
  abbrev t : TrieWords
  t = trie_words layout s.words

  abbrev found : ℕ
  found = slice_index s.words (place_at layout p)

  -- a mark leads to its node, in whose places nothing stands
  pub leads_on : (node : ℕ) → IsMarkOf layout s.words p node → t.cell p ≡ Node node
  leads_on node is = cell_there layout s.words p inside ∙ (ap shown_of is ∙ marks_lead_on.0 node)

  pub empty_below : (node digit : ℕ) → IsMarkOf layout s.words p node → digit < 16 → t.cell (Places.Node node digit) ≡ Empty
  empty_below node digit is low =
      let was = kept.marks.placed p node inside is in
      cell_there layout s.words (Places.Node node digit) (was.exists, low) ∙ ap shown_of (was.bare digit low)

  pub mark_said : cell_of found ≡ Mark → IsMarkOf layout s.words p (found / 4)
  mark_said is = mark_there found is

  -- any other cell leads where its word says
  pub real_there : (cell : Cell) → cell_of found ≡ cell → (cell ≡ Mark → ⊥) → t.cell p ≡ cell
  real_there cell is real = cell_there layout s.words p inside ∙ (real_shown found (λ mark. real (sym is ∙ mark)) ∙ is)

  -- a key whose path comes to a mark has no holder
  pub mark_holds_none : (key : Key) (level node : ℕ) → IsOnPath (digits_of digest key) t.cell level p → IsMarkOf layout s.words p node → (state_of m kept.log).holder key ≡ None
  mark_holds_none key level node on is =
      let digits = digits_of digest key in
      let none = empty_below node (digits (level + 1)) is ((are_digits digest key).node (level + 1) (omega arith)) in
      kept.trie.ends key (level + 1) (Places.Node node (digits (level + 1))) (record { on_path = further level p node on (leads_on node is); is_end = subst IsEnd (sym none) tt })
      ∙ ap (λ cell. holder_at t cell key) none

  -- where a path may end, no node stands and no mark
  pub end_unmarked : (n : ℕ) → IsEnd (t.cell p) → ¬ (IsMarkOf layout s.words p n)
  end_unmarked n end is = subst IsEnd (leads_on n is) end

  pub end_nodeless : (n : ℕ) → IsEnd (t.cell p) → ¬ (found ≡ cell_word (Node n))
  end_nodeless n end is = subst IsEnd (cell_there layout s.words p inside ∙ (ap shown_of is ∙ said_shown (Node n) (λ no. absurd cc))) end

  -- no mark stands of a node that hangs in the place
  pub hangs_unmarked : (digits : ℕ → ℕ) (level node : ℕ) → AreDigits digits → IsOnPath digits t.cell level p → cell_of found ≡ Node node → ¬ (HasMark layout s.words node)
  hangs_unmarked digits level node are on is mark =
      let was = kept.marks.placed mark.place node mark.inside mark.stands in
      let named = kept.trie.parents digits level p node are on (real_there (Node node) is (λ no. absurd cc)) in
      let one : mark.place ≡ p = codes_are_apart layout mark.place p mark.inside inside (sym was.parent ∙ named) in
      let read : cell_of found ≡ Mark = ap (λ q. cell_of (slice_index s.words (place_at layout q))) (sym one) ∙ (ap cell_of mark.stands ∙ (marks_say_nodes node node).0) in
      let no : Node node ≡ Mark = sym is ∙ read in
      absurd cc

  -- of nodes whose places paths meet, each was published
  hangs_in : (digits : ℕ → ℕ) (level : ℕ) (q : Place) (n : ℕ) → AreDigits digits → IsOnPath digits t.cell level q → IsPlaceIn n q → Contains kept.published n
  hangs_in digits _ _ n are at_root within = absurd within
  hangs_in digits _ _ n are (further level q node on is) within = subst (Contains kept.published) within (kept.trie.nodes digits level q node are on is).published_once

  -- a word that is no mark is none where it was stored
  markless_there : (value : ℕ) → cell_of value ≢ Mark → (n : ℕ) → ¬ (IsMarkOf layout (set s.words (place_at layout p) value) p n)
  markless_there value real n is =
      let reach = place_reach layout p inside in
      let long = kept.connections.reach in
      let here = get_or-set_same s.words (place_at layout p) value 0 (omega (arith, reach, long)) in
      real (ap cell_of (sym here ∙ is) ∙ (marks_say_nodes n n).0)

  -- the part stays where what is no mark is stored in a place at which a path may end, under its lock and in no node that the seat marked
  pub marks_in_place : (id value : ℕ) (v w : CellView S A R) (published' : List ℕ) (digits : ℕ → ℕ) (level : ℕ) → get_elem? s.views id ≡ some v →
      Contains v.trie.locks (lock_of p) → AreDigits digits → IsOnPath digits t.cell level p → IsEnd (t.cell p) → cell_of value ≢ Mark →
      ((x : Marked) → Contains v.trie.marks x → ¬ (IsPlaceIn x.node p)) → ((n : ℕ) → Contains kept.published n → Contains published' n) →
      MeetsNoMore v.trie w.trie → w.trie.emptied ≡ None → w.trie.met_mark ≡ v.trie.met_mark → w.pools.unfreed ≡ v.pools.unfreed →
      ((x : Marked) → Contains w.trie.marks x → 1 ≤ w.epochs.loaded → w.epochs.loaded ≡ v.epochs.loaded) → w.epochs.pin ≡ v.epochs.pin →
      Marks mark_side layout published' (set s.words (place_at layout p) value) (set s.views id w)
  marks_in_place id value v w published' digits level at locked are on end real unmarked listed less emptied met unfreed loaded pin =
      marks-stored mark_side layout kept.published published' s.words (set s.words (place_at layout p) value) s.views id p v w kept.marks at (record {
        changes = place_changed layout s.words p value inside;
        inside = inside;
        locked = locked;
        alone = λ j u ne e c. locks_alone lock_side layout s.words s.views j id u v (lock_of p) kept.locks (place_lock layout p inside) e at c locked ne;
        no_node = λ n. end_nodeless n end;
        no_mark = λ n. end_unmarked n end;
        markless = markless_there value real;
        unmarked = unmarked;
        listed = listed;
        hung = λ n within. hangs_in digits level p n are on within;
        marks = less.marks;
        emptied = λ e is. absurd (let no : None ≡ Some e = sym emptied ∙ is in cc);
        met = met;
        unfreed = unfreed;
        locks = less.locks;
        loaded = loaded;
        rests = record { rests = λ node rests. in_no_more v w node less rests; protecting = ap protecting_epoch pin };
      })

  -- and in a place of a node that the seat owns, in which no published node hangs
  pub marks_in_own : (id own value : ℕ) (v w : CellView S A R) → get_elem? s.views id ≡ some v → IsPlaceIn own p → Contains v.pools.nodes own →
      cell_of value ≢ Mark → mark_side w ≡ mark_side v → Marks mark_side layout kept.published (set s.words (place_at layout p) value) (set s.views id w)
  marks_in_own id own value v w at within owns real same =
      marks-owned mark_side layout kept.published s.words (set s.words (place_at layout p) value) s.views id p own v w kept.marks at (record {
        changes = place_changed layout s.words p value inside;
        inside = inside;
        within = within;
        unlisted = unlisted;
        unnamed = λ n listed named.
            let hung = kept.trie.hang n listed in
            let there = kept.trie.parents hung.digits hung.level hung.place n hung.are hung.on_path hung.there in
            let one : hung.place ≡ p = codes_are_apart layout hung.place p (stands_in_trie layout s.words hung.place n hung.there) inside (sym there ∙ named) in
            unlisted (hangs_in hung.digits hung.level p own hung.are (subst (IsOnPath hung.digits t.cell hung.level) one hung.on_path) within);
        markless = markless_there value real;
        same = same;
      })
    where
      unlisted : ¬ (Contains kept.published own)
      unlisted = unowned m digest layout s kept id v own at (in_node layout p own within inside).0 owns
