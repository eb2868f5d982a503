-- The part on marks from its clauses, where one seat changes; and what it says of two places, of two seats, and of one that may be in a node.
use Rattle.std.{specs.List.Contains, proofs.Common.{◌≡◌, ◌≢◌, ◌⊎◌, ℕ, ◌<◌, ◌≤◌, true, Some, List, set, slice_index, sym, ap, ◌∙◌, subst, ⊎_elim, arith}}
use Rattle.std.proofs.lemmas.Bool.{cases_eq}
use mathlib.Core.Option.{some, some-injective}
use lib.ListN.{get_elem?}
use Rattle.atomic_table.proofs.Lists.{at_set, set_else}
use Rattle.npf_paths.specs.declared.place.Lock.TheVariants as Locking
use Rattle.npf_paths.specs.{declared.place.Place.Place, Places.lock_of}
use Rattle.npf_paths.specs.declared.place.Place.TheVariants as Places
use Rattle.npf_cells_words.specs.declared.{layout.{Layout.Layout, Pool.TheVariants.Nodes}, mark.{Emptied.Emptied, Marked.Marked, MetMark.MetMark}}
use Rattle.npf_cells_words.specs.{Codes.place_code, Layout.{epoch_word, field_at}, MarkWords.{state_word, parent_word, IsMarkOf, IsBareNode}}
use Rattle.npf_cells_words.{specs.Places.{place_at, IsInTrie}, proofs.CodeLemmas.codes_are_apart}
use Rattle.npf_seats.proofs.SumLemmas.{set_there}
use Rattle.npf_cells_lives.{specs.Deaths.{has_epoch, IsProtectedBy}, proofs.LockLemmas.locks_alone}
use Rattle.npf_cells_marks.specs.Marks.{MarkSide, RestsIn, IsPastNode, FitsPlaced, FitsMarked, FitsEmptied, FitsMet, HasMark, IsUnfreed, Marks}
use Rattle.npf_cells_marks.specs.MarksLaw.{MarkStandsOnce, MarkedHoldsBack, MarkerIsAlone}

-- a state has an epoch or none
pub no_epoch_twice : (state : ℕ) → has_epoch state ≡ 0 → has_epoch state ≡ 1 → ⊥
no_epoch_twice state none has = omega (arith, none, has)

-- the mark of a node with this place as its parent, which stands there
abbrev pub placed_at : Place → ℕ → Marked
placed_at p node = record { node = node; parent = place_code p; placed = true }

module _ {V : Type 0} (side_of : V → MarkSide) (layout : Layout) (published published' words words' : List ℕ) (views : List V) (i : ℕ) (v w : V) (at : get_elem? views i ≡ some v) where
  abbrev pub views' : List V
  views' = set views i w

  -- the part from its clauses, of the seat that changed and of the others
  pub marks-changed : ((p : Place) (node : ℕ) → IsInTrie layout p → IsMarkOf layout words' p node → FitsPlaced side_of layout published' words' views' p node) →
      ((p : Place) (node : ℕ) → IsInTrie layout p → IsMarkOf layout words' p node → Contains (side_of w).locks (Locking.Node node) → Contains (side_of w).marks (placed_at p node)) →
      ((j : ℕ) (u : V) (p : Place) (node : ℕ) → j ≢ i → get_elem? views j ≡ some u → IsInTrie layout p → IsMarkOf layout words' p node →
      Contains (side_of u).locks (Locking.Node node) → Contains (side_of u).marks (placed_at p node)) →
      ((m : Marked) → Contains (side_of w).marks m → FitsMarked side_of layout published' words' views' (side_of w) m) →
      ((j : ℕ) (u : V) (m : Marked) → j ≢ i → get_elem? views j ≡ some u → Contains (side_of u).marks m → FitsMarked side_of layout published' words' views' (side_of u) m) →
      ((e : Emptied) → (side_of w).emptied ≡ Some e → FitsEmptied layout published' words' (side_of w) e) →
      ((j : ℕ) (u : V) (e : Emptied) → j ≢ i → get_elem? views j ≡ some u → (side_of u).emptied ≡ Some e → FitsEmptied layout published' words' (side_of u) e) →
      ((x : MetMark) → (side_of w).met ≡ Some x → FitsMet layout words' (side_of w) x) →
      ((j : ℕ) (u : V) (x : MetMark) → j ≢ i → get_elem? views j ≡ some u → (side_of u).met ≡ Some x → FitsMet layout words' (side_of u) x) →
      ((node : ℕ) → Contains (side_of w).unfreed node → (node < layout.nodes) × (has_epoch (state_word layout words' node) ≡ 1)) →
      ((j : ℕ) (u : V) (node : ℕ) → j ≢ i → get_elem? views j ≡ some u → Contains (side_of u).unfreed node → (node < layout.nodes) × (has_epoch (state_word layout words' node) ≡ 1)) →
      ((node : ℕ) → node < layout.nodes → has_epoch (state_word layout words' node) ≡ 1 → HasMark layout words' node ⊎ IsUnfreed side_of views' node) → Marks side_of layout published' words' views'
  marks-changed placed held held_else marks marks_else emptied emptied_else met met_else unfreed unfreed_else states = record {
    placed = placed;
    held = λ j u p node e inside is c. ⊎_elim
        (λ (x : (j ≡ i) × (w ≡ u)). subst (λ (y : V). Contains (side_of y).marks (placed_at p node)) x.1
        (held p node inside is (subst (λ (y : V). Contains (side_of y).locks (Locking.Node node)) (sym x.1) c)))
        (λ (x : (j ≢ i) × (get_elem? views j ≡ some u)). held_else j u p node x.0 x.1 inside is c)
        (at_set views i j w u e);
    marks = λ j u m e c. ⊎_elim
        (λ (x : (j ≡ i) × (w ≡ u)). subst (λ (y : V). FitsMarked side_of layout published' words' views' (side_of y) m) x.1 (marks m (subst (λ (y : V). Contains (side_of y).marks m) (sym x.1) c)))
        (λ (x : (j ≢ i) × (get_elem? views j ≡ some u)). marks_else j u m x.0 x.1 c)
        (at_set views i j w u e);
    emptied = λ j u y e is. ⊎_elim
        (λ (x : (j ≡ i) × (w ≡ u)). subst (λ (z : V). FitsEmptied layout published' words' (side_of z) y) x.1 (emptied y (ap (λ (z : V). (side_of z).emptied) x.1 ∙ is)))
        (λ (x : (j ≢ i) × (get_elem? views j ≡ some u)). emptied_else j u y x.0 x.1 is)
        (at_set views i j w u e);
    met = λ j u y e is. ⊎_elim
        (λ (x : (j ≡ i) × (w ≡ u)). subst (λ (z : V). FitsMet layout words' (side_of z) y) x.1 (met y (ap (λ (z : V). (side_of z).met) x.1 ∙ is)))
        (λ (x : (j ≢ i) × (get_elem? views j ≡ some u)). met_else j u y x.0 x.1 is)
        (at_set views i j w u e);
    unfreed = λ j u node e c. ⊎_elim
        (λ (x : (j ≡ i) × (w ≡ u)). unfreed node (subst (λ (y : V). Contains (side_of y).unfreed node) (sym x.1) c))
        (λ (x : (j ≢ i) × (get_elem? views j ≡ some u)). unfreed_else j u node x.0 x.1 c)
        (at_set views i j w u e);
    states = states;
  }

  -- a node that some seat has still to free is that of the same seat, where this one has all that it had
  pub unfreed_on : (node : ℕ) → (Contains (side_of v).unfreed node → Contains (side_of w).unfreed node) → IsUnfreed side_of views node → IsUnfreed side_of views' node
  unfreed_on node still was = ⊎_elim
      (λ (mine : was.seat ≡ i).
      let view : was.view ≡ v = some-injective was.view v (sym was.there ∙ (ap (get_elem? views) mine ∙ at)) in
      record { seat = i; view = w; there = set_there views i v w at; has = still (subst (λ (y : V). Contains (side_of y).unfreed node) view was.has) })
      (λ (ne : was.seat ≢ i). record { seat = was.seat; view = was.view; there = set_else views i was.seat w ne ∙ was.there; has = was.has })
      (cases_eq was.seat i)

  module _ (goes : epoch_word words ≤ epoch_word words') where
    -- what is past in a node stays so, where the seat rests in it as before
    pub past_on : (node epoch : ℕ) → (RestsIn (side_of w) node → RestsIn (side_of v) node × ((side_of w).protecting ≡ (side_of v).protecting)) →
        IsPastNode side_of (epoch_word words) views node epoch → IsPastNode side_of (epoch_word words') views' node epoch
    past_on node epoch rests past = record {
      reached = (let was = past.reached in omega (arith, was, goes));
      rested = λ j u e r. ⊎_elim
          (λ (x : (j ≡ i) × (w ≡ u)).
          let mine = rests (subst (λ (y : V). RestsIn (side_of y) node) (sym x.1) r) in
          subst (λ (y : V). IsProtectedBy epoch (side_of y).protecting) x.1 (subst (IsProtectedBy epoch) (sym mine.1) (past.rested i v at mine.0)))
          (λ (x : (j ≢ i) × (get_elem? views j ≡ some u)). past.rested j u x.1 r)
          (at_set views i j w u e);
    }

    module _ (rests : (node : ℕ) → HasMark layout words node → RestsIn (side_of w) node → RestsIn (side_of v) node × ((side_of w).protecting ≡ (side_of v).protecting)) where
      pub placed_on : (p : Place) (node : ℕ) → IsInTrie layout p → IsMarkOf layout words p node →
          FitsPlaced side_of layout published words views p node → parent_word layout words' node ≡ parent_word layout words node →
          state_word layout words' node ≡ state_word layout words node → IsBareNode layout words' node → Contains published' node → FitsPlaced side_of layout published' words' views' p node
      placed_on p node inside stands was parent state bare listed = record {
        exists = was.exists;
        listed = listed;
        parent = parent ∙ was.parent;
        bare = bare;
        taken = subst (λ n. 1 ≤ n) (sym state) was.taken;
        left = λ epoch e. past_on node epoch (rests node (record { place = p; inside = inside; stands = stands })) (was.left epoch (sym state ∙ e));
      }

      pub marked_on : (side side' : MarkSide) (m : Marked) → FitsMarked side_of layout published words views side m →
          Contains side'.locks (Locking.Node m.node) → (1 ≤ side'.loaded → side'.loaded ≡ side.loaded) →
          Contains published' m.node → parent_word layout words' m.node ≡ parent_word layout words m.node → IsBareNode layout words' m.node →
          ((q : Place) → IsInTrie layout q → m.parent ≡ place_code q → slice_index words' (place_at layout q) ≡ slice_index words (place_at layout q)) →
          FitsMarked side_of layout published' words' views' side' m
      marked_on side side' m was locked loaded listed parent bare same = record {
        exists = was.exists;
        listed = listed;
        locked = locked;
        parent = parent ∙ was.parent;
        bare = bare;
        place = was.place;
        inside = was.inside;
        names = was.names;
        hangs = λ e. same was.place was.inside was.names ∙ was.hangs e;
        stands = λ e. same was.place was.inside was.names ∙ was.stands e;
        past = λ e some'.
            let one = loaded some' in
            subst (IsPastNode side_of (epoch_word words') views' m.node) (sym one)
            (past_on m.node side.loaded (rests m.node (record { place = was.place; inside = was.inside; stands = was.stands e })) (was.past e (subst (λ n. 1 ≤ n) one some')));
      }

  pub emptied_on : (side side' : MarkSide) (e : Emptied) → FitsEmptied layout published words side e → Contains side'.locks (Locking.Node e.node) →
      ((m : Marked) → Contains side'.marks m → m.node ≢ e.node) → Contains published' e.node →
      parent_word layout words' e.node ≡ parent_word layout words e.node → ((digit : ℕ) → Contains e.digits digit → digit < 16 →
      slice_index words' (field_at layout Nodes e.node digit) ≡ slice_index words (field_at layout Nodes e.node digit)) →
      FitsEmptied layout published' words' side' e
  emptied_on side side' e was locked unmarked listed parent same = record {
    exists = was.exists;
    listed = listed;
    locked = locked;
    unmarked = unmarked;
    parent = λ code is. parent ∙ was.parent code is;
    bare = λ digit c low. same digit c low ∙ was.bare digit c low;
  }

  pub met_on : (side side' : MarkSide) (x : MetMark) → FitsMet layout words side x → Contains side'.locks (lock_of x.place) →
      slice_index words' (place_at layout x.place) ≡ slice_index words (place_at layout x.place) →
      state_word layout words' x.node ≡ state_word layout words x.node → FitsMet layout words' side' x
  met_on side side' x was locked same state = record {
    inside = was.inside;
    exists = was.exists;
    locked = locked;
    stands = same ∙ was.stands;
    left = λ epoch e. state ∙ was.left epoch e;
  }

-- where each place has its word still, a bare node is bare
pub bare_on : (layout : Layout) (words words' : List ℕ) → ((p : Place) → IsInTrie layout p → slice_index words' (place_at layout p) ≡ slice_index words (place_at layout p)) →
    (node : ℕ) → node < layout.nodes → IsBareNode layout words node → IsBareNode layout words' node
bare_on layout words words' same node exists bare digit low = same (Places.Node node digit) (exists, low) ∙ bare digit low

-- the parent of a node whose mark stands names one place
pub stands_once : {V : Type 0} (side_of : V → MarkSide) (layout : Layout) (published words : List ℕ) (views : List V) (p q : Place) (node : ℕ) →
    Marks side_of layout published words views → IsInTrie layout p → IsInTrie layout q →
    IsMarkOf layout words p node → IsMarkOf layout words q node → p ≡ q
stands_once side_of layout published words views p q node kept inside inside' is is' =
    codes_are_apart layout p q inside inside' (sym (kept.placed p node inside is).parent ∙ (kept.placed q node inside' is').parent)

pub mark_stands_once : (layout : Layout) → MarkStandsOnce layout
mark_stands_once layout published words sides p q node kept inside inside' is is' = stands_once (λ x. x) layout published words sides p q node kept inside inside' is is'

-- who marked a node has its lock
pub marker_is_alone : (layout : Layout) → MarkerIsAlone layout
marker_is_alone layout published words sides i j v w m n kept locks at there mine theirs one = ⊎_elim
    (λ same. same)
    (λ ne.
    let first = kept.marks i v m at mine in
    let other = kept.marks j w n there theirs in
    absurd (locks_alone (λ (side : MarkSide). side.locks) layout words sides i j v w (Locking.Node m.node) locks first.exists at there first.locked
    (subst (λ node. Contains w.locks (Locking.Node node)) (sym one) other.locked) ne))
    (cases_eq i j)

-- who may be in a node that was let go is protected with its epoch or an earlier one
pub marked_holds_back : (layout : Layout) → MarkedHoldsBack layout
marked_holds_back layout published words sides p node epoch j protecting v kept inside is left there rests has within =
    let past = (kept.placed p node inside is).left epoch left in
    let early : protecting ≤ epoch = subst (IsProtectedBy epoch) has (past.rested j v there rests) in
    omega (arith, early, within)
