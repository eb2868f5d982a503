-- Loads of a node's places, of its parent and of its state keep the rule: the pass learns what stands there of an empty node, or of a mark.
use Rattle.std.specs.List.{Contains}
use Rattle.std.proofs.Common.{◌≡◌, ℕ, ◌-◌, ◌/◌, ◌%◌, ◌^◌, ◌<◌, ◌≤◌, ◌==◌, Bool, true, false, cond, eqb, nat_lt, Option, Some, None, List, ◌∷◌}
use Rattle.std.proofs.Common.{set, length, slice_index, refl, sym, ap, ◌∙◌, subst, arith, length-set}
use Rattle.std.proofs.lemmas.{Bool.Decides.{Decides-eqb, Decides-ltb, not_from_Decides}, List.set-get_or}
use mathlib.Core.Option.{some}
use lib.ListN.{get_elem?}
use Rattle.atomic_table.specs.Table.{State, Me, Step, Allows, stepped, keeps}
use Rattle.npf_types.specs.declared.key.Key.{Key}
use Rattle.npf_core.specs.{History.state_of, Machine.Machine, Meaning.Meaning}
use Rattle.npf_connections.specs.Pass.{all_places}
use Rattle.npf_paths.specs.{declared.place.Place.Place, Places.lock_of}
use Rattle.npf_paths.specs.declared.place.Place.TheVariants as Places
use Rattle.npf_cells_words.specs.declared.{layout.{Layout.Layout, Pool.TheVariants.Nodes}, mark.{Emptied.Emptied, MetMark.MetMark}}
use Rattle.npf_cells_words.specs.{Layout.{field_at, parent_field, state_field}, MarkWords.{mark_word, parent_word, state_word}, Places.{IsInTrie, place_at}}
use Rattle.npf_seats.{specs.Seats.Seats, proofs.SumLemmas.side_same}
use Rattle.npf_cells_leaves.specs.Trie.{FitsTrie, Trie, trie_words}
use Rattle.npf_cells_leaves.proofs.TrieLemmas.{fits_all, fits-set, grown-set, keeps_words, knows_same, fits_kept, trie_kept}
use Rattle.npf_cells_lives.{specs.{Conns.entry_seat, Pools.taken, Turns.Running}, proofs.{DeathLemmas.spares_all, PoolLemmas.{pools-same, taken-set}}}
use Rattle.npf_cells_marks.specs.{Marks.Marks, Steps.{KnowsEmptied, KnowsMet, LearnsOfMarks, KnowsEmptied.{known, digit_read, parent_read}}}
use Rattle.npf_cells_marks.{specs.Steps.KnowsMet.{met_before, mark_read, left_read}, proofs.LearningLemmas.marks-learned}
use Rattle.npf_cells_rule.specs.{declared.view.CellView.CellView, Cells.IsCells, Views.{seat_side, trie_side, pool_side, mark_side}}
use Rattle.npf_cells_rule.proofs.DeathFrames.{deaths_load, known_apart}
use Rattle.npf_cells_rule.proofs.Frames.{alone-set, alone_still, framed, epochs_apart, conns_apart, stored_apart, locks_apart, turns_behind, notes_still}
use Rattle.npf_cells_rule.proofs.StoodLemmas.{stood_so}
use Rattle.npf_cells_returns.specs.LoadKinds.{with_digit, met_in, loading_cell, with_parent, loading_parent, with_left, loading_state, LoadsCell, LoadsParent, LoadsState}

module _ {S A R : Type 0} (m : Meaning S A R) (digest : Key → ℕ) (layout : Layout) where
  -- a load by which the pass learns of an empty node, or of a mark, keeps the rule
  module _ (s : State (Running S) (CellView S A R)) (kept : IsCells m digest layout s) (i id : ℕ) (v : CellView S A R)
      (at : get_elem? s.views id ≡ some v) (seated : 1 ≤ length v.seats.readers) (emptied : Option Emptied) (met : Option MetMark)
      (emptied_is : (e : Emptied) → emptied ≡ Some e → KnowsEmptied layout s.words (mark_side v) e) (met_is : (x : MetMark) → met ≡ Some x → KnowsMet layout s.words (mark_side v) x) where
    abbrev k : Machine S
    k = state_of m kept.log

    abbrev found : ℕ
    found = slice_index s.words i

    abbrev ws : List ℕ
    ws = set s.words i found

    abbrev pub learner : CellView S A R
    learner = record v { trie = record v.trie { emptied = emptied; met_mark = met } }

    same : (j : ℕ) → slice_index ws j ≡ slice_index s.words j
    same j = ap (λ xs. slice_index xs j) (set-get_or s.words i 0)

    trie_after : Trie trie_side digest layout kept.published k ws (set s.views id learner)
    trie_after =
        let keeps_trie = keeps_words layout k k s.words ws (λ key. refl) (λ identity c. c) (λ identity e. e) (λ j h. same j) in
        let was = fits_kept digest layout.slots k k (trie_words layout s.words) (trie_words layout ws) keeps_trie v.trie v.trie (knows_same v.trie) (kept.trie.each id v at) in
        trie_kept trie_side digest layout kept.published k k s.words ws s.views (set s.views id learner) kept.trie keeps_trie (grown-set trie_side s.views id v learner at refl refl)
        (fits-set trie_side digest layout.slots k (trie_words layout ws) s.views id learner (record { stands = was.stands; leaf = was.leaf; seen = was.seen; claimed = was.claimed })
        (fits_all trie_side digest layout.slots k k (trie_words layout s.words) (trie_words layout ws) s.views keeps_trie kept.trie.each))

    marks_after : Marks mark_side layout kept.published ws (set s.views id learner)
    marks_after = subst (λ xs. Marks mark_side layout kept.published xs (set s.views id learner)) (sym (set-get_or s.words i 0))
        (marks-learned mark_side layout kept.published s.words s.views id v learner kept.marks at (record {
          marks = refl;
          emptied = emptied_is;
          met = met_is;
          unfreed = refl;
          locks = refl;
          loaded = refl;
          rests = record { rests = λ node rests. rests; protecting = refl };
        }))

    pub learns : (c : List (ℕ × Running S)) → IsCells m digest layout (stepped s i found id c learner keeps)
    learns c = framed m digest layout s (stepped s i found id c learner keeps) kept kept.published kept.log (length-set s.words i found)
        (subst (λ sides. Seats entry_seat layout.slots all_places kept.log sides) (sym (side_same seat_side s.views id v learner at refl)) kept.seats)
        (epochs_apart m digest layout s i found id v learner kept at refl (λ j h. same j))
        (pools-same layout (taken pool_side kept.published k s.views) (taken pool_side kept.published k (set s.views id learner)) s.words ws kept.pools
        (length-set s.words i found) (λ j h. same j) (taken-set pool_side kept.published k s.views id v learner at refl refl))
        trie_after
        (conns_apart m digest layout s i found id v learner kept at refl refl (λ j h. same j))
        (stored_apart m digest layout s i found id learner kept (kept.stored id v at) (λ j h. same j))
        (locks_apart m digest layout s i found id v learner kept at refl (λ j h. same j))
        (turns_behind m digest layout s i found id v learner kept at refl refl (λ j h. same j))
        (deaths_load m digest layout s i id v learner kept at refl refl (record { rests = λ conn dead bare rests. (rests, refl) }))
        (known_apart m digest layout s id v learner k kept at (λ conn x. x) refl (spares_all k))
        (notes_still m digest layout s i found id v learner kept at refl refl refl refl (λ j h. same j))
        marks_after
        (alone-set s.views id learner (alone_still v learner (kept.alone id v at) seated refl (λ none. record {
          stands = none.stands;
          leaf = none.leaf;
          seen = none.seen;
          meets = none.meets;
          answered = none.answered;
          locks = none.locks;
        })) kept.alone)

  -- what a word of a place under its lock tells of the node that is found empty
  digit_known : (s : State (Running S) (CellView S A R)) (v : CellView S A R) (p : Place) (was : Option Emptied) → v.trie.emptied ≡ was → (e : Emptied) →
      with_digit p (slice_index s.words (place_at layout p)) was ≡ Some e → KnowsEmptied layout s.words (mark_side v) e
  digit_known s v p None has e is = absurd cc
  digit_known s v (Places.Root digit) (Some x) has e is = known e (has ∙ is)
  digit_known s v (Places.Node node digit) (Some x) has e is = by_node (eqb x.node node) (eqb (slice_index s.words (place_at layout (Places.Node node digit))) 0) refl refl is
    where
      by_node : (a b : Bool) → eqb x.node node ≡ a → eqb (slice_index s.words (place_at layout (Places.Node node digit))) 0 ≡ b →
          cond a (cond b (Some (record x { digits = digit ∷ x.digits })) (Some x)) (Some x) ≡ Some e → KnowsEmptied layout s.words (mark_side v) e
      by_node true true here none is' =
          let there : x.node ≡ node = (Decides-eqb x.node node).0 here in
          let more : (record { node = x.node; parent = x.parent; digits = digit ∷ x.digits }) ≡ e = cc in
          subst (KnowsEmptied layout s.words (mark_side v)) more (digit_read x digit has (ap (λ n. slice_index s.words (place_at layout (Places.Node n digit))) there ∙ (Decides-eqb _ 0).0 none))
      by_node true false here none is' = known e (has ∙ is')
      by_node false b here none is' = known e (has ∙ is')

  -- and of a mark that stands there
  mark_known : (s : State (Running S) (CellView S A R)) (v : CellView S A R) (p : Place) → IsInTrie layout p → Contains v.trie.locks (lock_of p) →
      (x : MetMark) → met_in p (slice_index s.words (place_at layout p)) ≡ Some x → KnowsMet layout s.words (mark_side v) x
  mark_known s v p inside locked x is = by_word (eqb (word % 4) 3) refl is
    where
      word : ℕ
      word = slice_index s.words (place_at layout p)

      by_word : (b : Bool) → eqb (word % 4) 3 ≡ b → cond b (Some (record { node = word / 4; place = p; left = None })) None ≡ Some x → KnowsMet layout s.words (mark_side v) x
      by_word true e is' =
          let three : word % 4 ≡ 3 = (Decides-eqb (word % 4) 3).0 e in
          let there : (record { node = word / 4; place = p; left = None }) ≡ x = cc in
          subst (KnowsMet layout s.words (mark_side v)) there (mark_read p (word / 4) inside locked (grind (arith, three)))
      by_word false e is' = absurd cc

  pub may_load_cell : (st : Step (Running S)) (id n : ℕ) (p : Place) (me : Me (Running S) (CellView S A R)) →
      1 ≤ length me.0.seats.readers → me.0.seats.lives ≡ true → IsInTrie layout p → Contains me.0.trie.locks (lock_of p) →
      Allows (IsCells m digest layout) n id me (place_at layout p) (λ x. x) (LoadsCell m digest layout p st me)
  may_load_cell st id n p me seated lives inside locked s kept homes at bound =
      let i = place_at layout p in
      let found = slice_index s.words i in (
        learner s kept i id me.0 at seated (with_digit p found me.0.trie.emptied) (met_in p found) (digit_known s me.0 p me.0.trie.emptied refl) (mark_known s me.0 p inside locked),
        keeps,
        tt,
        learns s kept i id me.0 at seated (with_digit p found me.0.trie.emptied) (met_in p found) (digit_known s me.0 p me.0.trie.emptied refl) (mark_known s me.0 p inside locked) me.1,
        record {
          is = refl;
          exists = λ three. (kept.marks.placed p (found / 4) inside (grind (arith, three))).exists;
          stood = stood_so m digest layout s id me.0 i i kept at lives refl;
        },
      )

  -- a parent word tells where the node that is found empty hangs
  parent_known : (s : State (Running S) (CellView S A R)) (v : CellView S A R) (node : ℕ) (was : Option Emptied) → v.trie.emptied ≡ was →
      (e : Emptied) → with_parent node (parent_word layout s.words node) was ≡ Some e → KnowsEmptied layout s.words (mark_side v) e
  parent_known s v node None has e is = absurd cc
  parent_known s v node (Some x) has e is = by_node (eqb x.node node) refl is
    where
      by_node : (a : Bool) → eqb x.node node ≡ a → cond a (Some (record x { parent = Some (parent_word layout s.words node) })) (Some x) ≡ Some e → KnowsEmptied layout s.words (mark_side v) e
      by_node true here is' =
          let there : x.node ≡ node = (Decides-eqb x.node node).0 here in
          let more : (record { node = x.node; parent = Some (parent_word layout s.words node); digits = x.digits }) ≡ e = cc in
          subst (KnowsEmptied layout s.words (mark_side v)) more (parent_read x (parent_word layout s.words node) has (ap (parent_word layout s.words) there))
      by_node false here is' = known e (has ∙ is')

  pub may_load_parent : (st : Step (Running S)) (id n node : ℕ) (me : Me (Running S) (CellView S A R)) → 1 ≤ length me.0.seats.readers → me.0.seats.lives ≡ true → node < layout.nodes →
      Allows (IsCells m digest layout) n id me (field_at layout Nodes node parent_field) (λ x. x) (LoadsParent m digest layout node st me)
  may_load_parent st id n node me seated lives within s kept homes at bound =
      let i = field_at layout Nodes node parent_field in
      let found = slice_index s.words i in (
        learner s kept i id me.0 at seated (with_parent node found me.0.trie.emptied) me.0.trie.met_mark (parent_known s me.0 node me.0.trie.emptied refl) (λ x is. met_before x is),
        keeps,
        tt,
        learns s kept i id me.0 at seated (with_parent node found me.0.trie.emptied) me.0.trie.met_mark (parent_known s me.0 node me.0.trie.emptied refl) (λ x is. met_before x is) me.1,
        record { is = refl; stood = stood_so m digest layout s id me.0 i i kept at lives refl },
      )

  -- a node's state tells with which epoch the node of a mark was let go
  left_known : (s : State (Running S) (CellView S A R)) (kept : IsCells m digest layout s) (id : ℕ) (v : CellView S A R) → get_elem? s.views id ≡ some v →
      (node : ℕ) (was : Option MetMark) → v.trie.met_mark ≡ was → (x : MetMark) → with_left node (state_word layout s.words node) was ≡ Some x → KnowsMet layout s.words (mark_side v) x
  left_known s kept id v at node None has x is = absurd cc
  left_known s kept id v at node (Some y) has x is = by_node (eqb y.node node) (nat_lt (state_word layout s.words node) (2 ^ 63)) refl refl is
    where
      by_node : (a b : Bool) → eqb y.node node ≡ a → nat_lt (state_word layout s.words node) (2 ^ 63) ≡ b →
          cond a (Some (record y { left = cond b None (Some (state_word layout s.words node - 2 ^ 63)) })) (Some y) ≡ Some x → KnowsMet layout s.words (mark_side v) x
      by_node true true here low is' =
          let fits = kept.marks.met id v y at has in
          let there : (record { node = y.node; place = y.place; left = None }) ≡ x = cc in
          subst (KnowsMet layout s.words (mark_side v)) there (mark_read y.place y.node fits.inside fits.locked fits.stands)
      by_node true false here high is' =
          let there : y.node ≡ node = (Decides-eqb y.node node).0 here in
          let above : ¬ (state_word layout s.words node < 2 ^ 63) = not_from_Decides _ (Decides-ltb _ (2 ^ 63)) high in
          let more : (record { node = y.node; place = y.place; left = Some (state_word layout s.words node - 2 ^ 63) }) ≡ x = cc in
          subst (KnowsMet layout s.words (mark_side v)) more (left_read y (state_word layout s.words node - 2 ^ 63) has (ap (state_word layout s.words) there ∙ omega (arith, above)))
      by_node false b here low is' = met_before x (has ∙ is')

  pub may_load_state : (st : Step (Running S)) (id n node : ℕ) (me : Me (Running S) (CellView S A R)) → 1 ≤ length me.0.seats.readers → me.0.seats.lives ≡ true → node < layout.nodes →
      Allows (IsCells m digest layout) n id me (field_at layout Nodes node state_field) (λ x. x) (LoadsState m digest layout node st me)
  may_load_state st id n node me seated lives within s kept homes at bound =
      let i = field_at layout Nodes node state_field in
      let found = slice_index s.words i in (
        learner s kept i id me.0 at seated me.0.trie.emptied (with_left node found me.0.trie.met_mark) (λ e is. known e is) (left_known s kept id me.0 at node me.0.trie.met_mark refl),
        keeps,
        tt,
        learns s kept i id me.0 at seated me.0.trie.emptied (with_left node found me.0.trie.met_mark) (λ e is. known e is) (left_known s kept id me.0 at node me.0.trie.met_mark refl) me.1,
        record { is = refl; stood = stood_so m digest layout s id me.0 i i kept at lives refl },
      )
