-- The part on marks stays through steps that leave its words and what the seat has of marks, and after which the seat is in no further node.
use Rattle.std.proofs.Common.{◌≡◌, ℕ, ◌<◌, ◌≤◌, Option, Some, None, List, set, slice_index, refl, sym, ap, subst, ⊎_elim, inl, inr, arith}
use Rattle.std.{proofs.lemmas.List.{set-get_or, get_or-set_other}, specs.List.Contains}
use mathlib.Core.Option.{some}
use lib.ListN.{get_elem?}
use Rattle.atomic_table.specs.Table.{State}
use Rattle.npf_types.specs.declared.key.Key.{Key}
use Rattle.npf_core.specs.Meaning.{Meaning}
use Rattle.npf_paths.specs.declared.place.{Lock.Lock, Place.Place}
use Rattle.npf_paths.specs.declared.place.Lock.TheVariants as Locking
use Rattle.npf_cells_words.specs.declared.{layout.{Layout.Layout, Pool.TheVariants.{Slots, Nodes}}, mark.{Emptied.Emptied, MetMark.MetMark}}
use Rattle.npf_cells_words.specs.{Layout.{epoch_word, root_at, field_at, state_field, parent_field}, MarkWords.{state_word, parent_word}}
use Rattle.npf_cells_words.specs.Places.{lock_at, place_at, IsInTrie, IsLockOf}
use Rattle.npf_cells_words.proofs.WordLemmas.{field_behind, lock_apart, lock_behind, not_place, one_word, parent_apart, parent_unlocked, place_behind, slot_apart, not_slot}
use Rattle.npf_cells_leaves.{specs.{declared.trie.{PathPlace.PathPlace, SeenCell.SeenCell, TrieSide.TrieSide}, Trie.HasNoWalk}, proofs.TrieLemmas.KnowsNoMore}
use Rattle.npf_cells_lives.specs.Turns.{Running}
use Rattle.npf_cells_marks.{specs.{Marks.{IsSomePlaceIn, RestsIn, Marks}, Steps.{ChangesPlace, ChangesState}}, proofs.StepLemmas.marks-same}
use Rattle.npf_cells_rule.specs.{declared.view.CellView.CellView, Cells.IsCells, Views.{point_place, seen_place, protecting_epoch, mark_side}}

-- what a seat has of marks and of locks stays, it found nothing more, and is in no further node
pub record MeetsNoMore (side side' : TrieSide) : Type 0 where
  pub stands : (point : PathPlace) → side'.stands ≡ Some point → side.stands ≡ Some point
  pub seen : (s : SeenCell) → side'.seen ≡ Some s → side.seen ≡ Some s
  pub locks : side'.locks ≡ side.locks
  pub marks : side'.marks ≡ side.marks
  pub emptied : (e : Emptied) → side'.emptied ≡ Some e → side.emptied ≡ Some e
  pub met_mark : (x : MetMark) → side'.met_mark ≡ Some x → side.met_mark ≡ Some x

pub meets_same : (side : TrieSide) → MeetsNoMore side side
meets_same side = record { stands = λ point e. e; seen = λ s e. e; locks = refl; marks = refl; emptied = λ e is. is; met_mark = λ x is. is }

pub meets_less : (side side' : TrieSide) → KnowsNoMore side side' → MeetsNoMore side side'
meets_less side side' less = record { stands = less.stands; seen = less.seen; locks = less.locks; marks = less.marks; emptied = less.emptied; met_mark = less.met_mark }

-- the words that the part reads stay: those of places, the states of nodes, and the parents of published ones
pub record SameMarkWords (layout : Layout) (published words words' : List ℕ) : Type 0 where
  pub goes : epoch_word words ≤ epoch_word words'
  pub places : (p : Place) → IsInTrie layout p → slice_index words' (place_at layout p) ≡ slice_index words (place_at layout p)
  pub states : (node : ℕ) → node < layout.nodes → state_word layout words' node ≡ state_word layout words node
  pub parents : (node : ℕ) → node < layout.nodes → Contains published node → parent_word layout words' node ≡ parent_word layout words node

-- which is so where the words behind the pools' stay
pub words_behind : (layout : Layout) (published words words' : List ℕ) → epoch_word words ≤ epoch_word words' →
    ((j : ℕ) → root_at layout ≤ j → slice_index words' j ≡ slice_index words j) → SameMarkWords layout published words words'
words_behind layout published words words' goes same = record {
  goes = goes;
  places = λ p inside. same (place_at layout p) (place_behind layout p);
  states = λ node exists. same (field_at layout Nodes node state_field) (field_behind layout Nodes node state_field);
  parents = λ node exists listed. same (field_at layout Nodes node parent_field) (field_behind layout Nodes node parent_field);
}

-- and by a step on a word of a slot
pub words_slot : (layout : Layout) (published words : List ℕ) (slot field n : ℕ) → SameMarkWords layout published words (set words (field_at layout Slots slot field) n)
words_slot layout published words slot field n = record {
  goes = (let same = other 0 (λ e. absurd (let far = field_behind layout Slots slot field in omega (arith, e, far))) in omega (arith, same));
  places = λ p inside. other (place_at layout p) (λ e. slot_apart layout p slot field inside (sym e));
  states = λ node exists. other (field_at layout Nodes node state_field) (λ e. not_slot layout slot field (Locking.Node node) exists (sym e));
  parents = λ node exists listed. other (field_at layout Nodes node parent_field) (λ e. absurd (omega (arith, exists, e)));
}
  where
    other : (j : ℕ) → (j ≡ field_at layout Slots slot field → ⊥) → slice_index (set words (field_at layout Slots slot field) n) j ≡ slice_index words j
    other j ne = get_or-set_other words (field_at layout Slots slot field) j n 0 ne

-- a lock whose word is a node's state is the node's
one_state : (layout : Layout) (lock : Lock) (node : ℕ) → IsLockOf layout lock → field_at layout Nodes node state_field ≡ lock_at layout lock → lock ≡ Locking.Node node
one_state layout (Locking.Root digit) node h e = absurd (omega (arith, h, e))
one_state layout (Locking.Node other) node h e = ap (λ x. Locking.Node x) (omega (arith, e))

-- a step on the word of a place, or of a lock, changes that of these words alone
pub place_changed : (layout : Layout) (words : List ℕ) (p : Place) (n : ℕ) → IsInTrie layout p → ChangesPlace layout words (set words (place_at layout p) n) p
place_changed layout words p n inside = record {
  epoch = other 0 (λ e. absurd (let far = place_behind layout p in omega (arith, e, far)));
  others = λ q there ne. other (place_at layout q) (λ e. ne (one_word layout q p there inside e));
  states = λ node exists. other (field_at layout Nodes node state_field) (lock_apart layout p (Locking.Node node) inside exists);
  parents = λ node exists. other (field_at layout Nodes node parent_field) (parent_apart layout p node inside);
}
  where
    other : (j : ℕ) → (j ≡ place_at layout p → ⊥) → slice_index (set words (place_at layout p) n) j ≡ slice_index words j
    other j ne = get_or-set_other words (place_at layout p) j n 0 ne

pub lock_changed : (layout : Layout) (words : List ℕ) (lock : Lock) (n : ℕ) → IsLockOf layout lock → ChangesState layout words (set words (lock_at layout lock) n) lock
lock_changed layout words lock n h = record {
  epoch = other 0 (λ e. absurd (let far = lock_behind layout lock in omega (arith, e, far)));
  places = λ p inside. other (place_at layout p) (not_place layout p lock inside h);
  others = λ node exists ne. other (field_at layout Nodes node state_field) (λ e. ne (one_state layout lock node h e));
  parents = λ node exists. other (field_at layout Nodes node parent_field) (parent_unlocked layout lock node h);
}
  where
    other : (j : ℕ) → (j ≡ lock_at layout lock → ⊥) → slice_index (set words (lock_at layout lock) n) j ≡ slice_index words j
    other j ne = get_or-set_other words (lock_at layout lock) j n 0 ne

-- and by a load
pub words_loaded : (layout : Layout) (published words : List ℕ) (i : ℕ) → SameMarkWords layout published words (set words i (slice_index words i))
words_loaded layout published words i = subst (SameMarkWords layout published words) (sym (set-get_or words i 0))
    (record { goes = omega arith; places = λ p inside. refl; states = λ node exists. refl; parents = λ node exists listed. refl })

place_less : (node : ℕ) (mine theirs : Option PathPlace) → ((point : PathPlace) → theirs ≡ Some point → mine ≡ Some point) →
    IsSomePlaceIn node (point_place theirs) → IsSomePlaceIn node (point_place mine)
place_less node mine None less within = absurd within
place_less node mine (Some point) less within = subst (λ o. IsSomePlaceIn node (point_place o)) (sym (less point refl)) within

sight_less : (node : ℕ) (mine theirs : Option SeenCell) → ((s : SeenCell) → theirs ≡ Some s → mine ≡ Some s) → IsSomePlaceIn node (seen_place theirs) → IsSomePlaceIn node (seen_place mine)
sight_less node mine None less within = absurd within
sight_less node mine (Some s) less within = subst (λ o. IsSomePlaceIn node (seen_place o)) (sym (less s refl)) within

module _ {S A R : Type 0} where
  -- a seat that knows no more places is in no further node
  pub in_no_more : (v w : CellView S A R) (node : ℕ) → MeetsNoMore v.trie w.trie → RestsIn (mark_side w) node → RestsIn (mark_side v) node
  in_no_more v w node less rests = ⊎_elim
      (λ (at : IsSomePlaceIn node (point_place w.trie.stands)). inl (place_less node v.trie.stands w.trie.stands less.stands at))
      (λ (saw : IsSomePlaceIn node (seen_place w.trie.seen)). inr (sight_less node v.trie.seen w.trie.seen less.seen saw))
      rests

  -- one that walked nowhere is in no node
  pub in_none : (v : CellView S A R) (node : ℕ) → HasNoWalk v.trie → ¬ (RestsIn (mark_side v) node)
  in_none v node none rests = ⊎_elim
      (λ (at : IsSomePlaceIn node (point_place v.trie.stands)). subst (λ o. IsSomePlaceIn node (point_place o)) none.stands at)
      (λ (saw : IsSomePlaceIn node (seen_place v.trie.seen)). subst (λ o. IsSomePlaceIn node (seen_place o)) none.seen saw)
      rests

module _ {S A R : Type 0} (m : Meaning S A R) (digest : Key → ℕ) (layout : Layout) (s : State (Running S) (CellView S A R)) (kept : IsCells m digest layout s) where
  -- the part stays where its words do, and the seat has as much of it and is in no further node
  pub marks_on : (words' : List ℕ) (id : ℕ) (v w : CellView S A R) → get_elem? s.views id ≡ some v → SameMarkWords layout kept.published s.words words' →
      MeetsNoMore v.trie w.trie → w.pools.unfreed ≡ v.pools.unfreed → (1 ≤ w.epochs.loaded → w.epochs.loaded ≡ v.epochs.loaded) → w.epochs.pin ≡ v.epochs.pin →
      Marks mark_side layout kept.published words' (set s.views id w)
  marks_on words' id v w at same less unfreed loaded pin = marks-same mark_side layout kept.published kept.published s.words words' s.views id v w kept.marks at (record {
    goes = same.goes;
    places = same.places;
    states = same.states;
    parents = same.parents;
    listed = λ node c. c;
    marks = less.marks;
    emptied = less.emptied;
    met = less.met_mark;
    unfreed = unfreed;
    locks = less.locks;
    loaded = λ mark c some'. loaded some';
    rests = λ node has rests. (in_no_more v w node less rests, ap protecting_epoch pin);
  })

  -- and where the seat walked nowhere, its pin may change too
  pub marks_out : (words' : List ℕ) (id : ℕ) (v w : CellView S A R) → get_elem? s.views id ≡ some v → SameMarkWords layout kept.published s.words words' →
      MeetsNoMore v.trie w.trie → w.pools.unfreed ≡ v.pools.unfreed → (1 ≤ w.epochs.loaded → w.epochs.loaded ≡ v.epochs.loaded) → HasNoWalk w.trie →
      Marks mark_side layout kept.published words' (set s.views id w)
  marks_out words' id v w at same less unfreed loaded none = marks-same mark_side layout kept.published kept.published s.words words' s.views id v w kept.marks at (record {
    goes = same.goes;
    places = same.places;
    states = same.states;
    parents = same.parents;
    listed = λ node c. c;
    marks = less.marks;
    emptied = less.emptied;
    met = less.met_mark;
    unfreed = unfreed;
    locks = less.locks;
    loaded = λ mark c some'. loaded some';
    rests = λ node has rests. absurd (in_none w node none rests);
  })
