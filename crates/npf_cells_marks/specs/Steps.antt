-- What each kind of step asks of the words and of the seats' sides, so that the part on marks stays. The words are those of before and after it, and
-- the views those of before, of which one changes.
use Rattle.std.specs.Prelude.{◌≡◌, ◌≢◌, ◌⊎◌, ℕ, ◌+◌, ◌^◌, ◌<◌, ◌≤◌, true, false, Some, None, List, ◌∷◌, Contains, slice_index}
use mathlib.Core.Option.{some}
use lib.ListN.{get_elem?}
use Rattle.npf_paths.specs.declared.cell.Cell.TheVariants as Cells
use Rattle.npf_paths.specs.declared.place.Lock.{Lock}
use Rattle.npf_paths.specs.declared.place.Lock.TheVariants as Locking
use Rattle.npf_paths.specs.declared.place.Place.{Place}
use Rattle.npf_paths.specs.declared.place.Place.TheVariants as Places
use Rattle.npf_paths.specs.CellWords.{cell_word}
use Rattle.npf_paths.specs.Places.{lock_of}
use Rattle.npf_cells_words.specs.declared.layout.Layout.{Layout}
use Rattle.npf_cells_words.specs.declared.mark.Emptied.{Emptied}
use Rattle.npf_cells_words.specs.declared.mark.Marked.{Marked}
use Rattle.npf_cells_words.specs.declared.mark.MetMark.{MetMark}
use Rattle.npf_cells_words.specs.Codes.{place_code}
use Rattle.npf_cells_words.specs.Layout.{epoch_word}
use Rattle.npf_cells_words.specs.MarkWords.{marked_state, state_word, parent_word, IsMarkOf}
use Rattle.npf_cells_words.specs.Places.{lock_at, place_at, IsInTrie, IsLockOf, IsPlaceIn}
use Rattle.npf_cells_lives.specs.Deaths.{IsProtectedBy}
use Rattle.npf_cells_marks.specs.Marks.{MarkSide, RestsIn, HasMark}

-- of the words that the part reads one may change: that of a place, or the state of what one lock is of
pub record ChangesPlace (layout : Layout) (words words' : List ℕ) (p : Place) : Type 0 where
  pub epoch : epoch_word words' ≡ epoch_word words
  pub others : (q : Place) → IsInTrie layout q → q ≢ p → slice_index words' (place_at layout q) ≡ slice_index words (place_at layout q)
  pub states : (node : ℕ) → node < layout.nodes → state_word layout words' node ≡ state_word layout words node
  pub parents : (node : ℕ) → node < layout.nodes → parent_word layout words' node ≡ parent_word layout words node

pub record ChangesState (layout : Layout) (words words' : List ℕ) (lock : Lock) : Type 0 where
  pub epoch : epoch_word words' ≡ epoch_word words
  pub places : (p : Place) → IsInTrie layout p → slice_index words' (place_at layout p) ≡ slice_index words (place_at layout p)
  pub others : (node : ℕ) → node < layout.nodes → lock ≢ Locking.Node node → state_word layout words' node ≡ state_word layout words node
  pub parents : (node : ℕ) → node < layout.nodes → parent_word layout words' node ≡ parent_word layout words node

-- a seat rests where it rested, with the same protection
pub record RestsSo (v w : MarkSide) : Type 0 where
  pub rests : (node : ℕ) → RestsIn w node → RestsIn v node
  pub protecting : w.protecting ≡ v.protecting

-- a step that leaves the words of places and states and the parents of published nodes, and what the seat has of marks; where a mark stands the seat
-- rests in no further node, and its protection stays while it rests there
pub record LeavesMarks (layout : Layout) (published published' words words' : List ℕ) (v w : MarkSide) : Type 0 where
  pub goes : epoch_word words ≤ epoch_word words'
  pub places : (p : Place) → IsInTrie layout p → slice_index words' (place_at layout p) ≡ slice_index words (place_at layout p)
  pub states : (node : ℕ) → node < layout.nodes → state_word layout words' node ≡ state_word layout words node
  pub parents : (node : ℕ) → node < layout.nodes → Contains published node → parent_word layout words' node ≡ parent_word layout words node
  pub listed : (node : ℕ) → Contains published node → Contains published' node
  pub marks : w.marks ≡ v.marks
  pub emptied : (e : Emptied) → w.emptied ≡ Some e → v.emptied ≡ Some e
  pub met : (x : MetMark) → w.met ≡ Some x → v.met ≡ Some x
  pub unfreed : w.unfreed ≡ v.unfreed
  pub locks : w.locks ≡ v.locks
  pub loaded : (m : Marked) → Contains w.marks m → 1 ≤ w.loaded → w.loaded ≡ v.loaded
  pub rests : (node : ℕ) → HasMark layout words node → RestsIn w node → RestsIn v node × (w.protecting ≡ v.protecting)

-- a load of the epoch, while whoever is in a node is protected with an epoch of the table
pub record LoadsEpoch {V : Type 0} (side_of : V → MarkSide) (words : List ℕ) (views : List V) (v w : V) : Type 0 where
  pub is : side_of w ≡ record (side_of v) { loaded = epoch_word words }
  pub now : (j : ℕ) (u : V) (node : ℕ) → get_elem? views j ≡ some u → RestsIn (side_of u) node → IsProtectedBy (epoch_word words) (side_of u).protecting

-- a lock that nobody has, and whose word is 0, is got
pub record GetsLock {V : Type 0} (side_of : V → MarkSide) (layout : Layout) (words words' : List ℕ) (views : List V) (lock : Lock) (v w : V) : Type 0 where
  pub exists : IsLockOf layout lock
  pub changes : ChangesState layout words words' lock
  pub free : slice_index words (lock_at layout lock) ≡ 0
  pub taken : slice_index words' (lock_at layout lock) ≡ 1
  pub marks : (side_of w).marks ≡ (side_of v).marks
  pub emptied : (side_of w).emptied ≡ (side_of v).emptied
  pub met : (side_of w).met ≡ (side_of v).met
  pub unfreed : (side_of w).unfreed ≡ (side_of v).unfreed
  pub locks : (side_of w).locks ≡ lock ∷ (side_of v).locks
  pub loaded : (side_of w).loaded ≡ (side_of v).loaded
  pub rests : RestsSo (side_of v) (side_of w)

-- how a lock is freed: with 0, where it is of no node that the seat marked, or, of one whose mark it put in its place, with the epoch that it loaded since
pub data IsFreedBy (v : MarkSide) (lock : Lock) : ℕ → Type 0 where
  freed : ((m : Marked) → Contains v.marks m → lock ≢ Locking.Node m.node) → IsFreedBy v lock 0
  let_go : (m : Marked) → Contains v.marks m → m.placed ≡ true → lock ≡ Locking.Node m.node → 1 ≤ v.loaded → IsFreedBy v lock (2 ^ 63 + v.loaded)

-- the seat frees a lock that it alone has: it forgets what it found under its locks, and the node, if it marked that
pub record FreesLock {V : Type 0} (side_of : V → MarkSide) (layout : Layout) (words words' : List ℕ) (views : List V) (i : ℕ) (lock : Lock) (state : ℕ) (v w : V) : Type 0 where
  pub exists : IsLockOf layout lock
  pub changes : ChangesState layout words words' lock
  pub held : slice_index words (lock_at layout lock) < 2 ^ 63
  pub stored : slice_index words' (lock_at layout lock) ≡ state
  pub by : IsFreedBy (side_of v) lock state
  pub mine : Contains (side_of v).locks lock
  pub alone : (j : ℕ) (u : V) → j ≢ i → get_elem? views j ≡ some u → ¬ (Contains (side_of u).locks lock)
  pub fewer : (other : Lock) → Contains (side_of w).locks other → Contains (side_of v).locks other × (other ≢ lock)
  pub left : (other : Lock) → Contains (side_of v).locks other → other ≢ lock → Contains (side_of w).locks other
  pub marks : (m : Marked) → Contains (side_of w).marks m → Contains (side_of v).marks m × (lock ≢ Locking.Node m.node)
  pub marked : (m : Marked) → Contains (side_of v).marks m → lock ≢ Locking.Node m.node → Contains (side_of w).marks m
  pub emptied : (side_of w).emptied ≡ None
  pub met : (side_of w).met ≡ None
  pub unfreed : (side_of w).unfreed ≡ (side_of v).unfreed
  pub loaded : (side_of w).loaded ≡ (side_of v).loaded
  pub rests : RestsSo (side_of v) (side_of w)

-- the seat marks the node that it found empty in each place, and that hangs in the place which its parent word names
pub record MarksNode {V : Type 0} (side_of : V → MarkSide) (layout : Layout) (words words' : List ℕ) (p : Place) (found : Emptied) (v w : V) : Type 0 where
  pub changes : ChangesState layout words words' (Locking.Node found.node)
  pub held : state_word layout words found.node < 2 ^ 63
  pub stored : state_word layout words' found.node ≡ marked_state
  pub has : (side_of v).emptied ≡ Some found
  pub all : (digit : ℕ) → digit < 16 → Contains found.digits digit
  pub inside : IsInTrie layout p
  pub parent : found.parent ≡ Some (place_code p)
  pub hangs : slice_index words (place_at layout p) ≡ cell_word (Cells.Node found.node)
  pub marks : (side_of w).marks ≡ (record { node = found.node; parent = place_code p; placed = false }) ∷ (side_of v).marks
  pub emptied : (side_of w).emptied ≡ None
  pub met : (side_of w).met ≡ (side_of v).met
  pub unfreed : (side_of w).unfreed ≡ (side_of v).unfreed
  pub locks : (side_of w).locks ≡ (side_of v).locks
  pub loaded : (side_of w).loaded ≡ (side_of v).loaded
  pub rests : RestsSo (side_of v) (side_of w)

-- the seat puts the mark of a node that it marked in the place where the node hangs, and forgets the epoch that it loaded
pub record PlacesMark {V : Type 0} (side_of : V → MarkSide) (layout : Layout) (words words' : List ℕ) (views : List V) (i : ℕ) (p : Place) (node : ℕ) (v w : V) : Type 0 where
  pub changes : ChangesPlace layout words words' p
  pub inside : IsInTrie layout p
  pub mine : Contains (side_of v).marks (record { node = node; parent = place_code p; placed = false })
  pub stored : IsMarkOf layout words' p node
  pub state : (1 ≤ state_word layout words node) × (state_word layout words node < 2 ^ 63)
  pub alone : (j : ℕ) (u : V) → j ≢ i → get_elem? views j ≡ some u → ¬ (Contains (side_of u).locks (Locking.Node node))
  pub marks : (m : Marked) → Contains (side_of w).marks m → (Contains (side_of v).marks m × (m.node ≢ node)) ⊎ (m ≡ record { node = node; parent = place_code p; placed = true })
  pub marked : (m : Marked) → Contains (side_of v).marks m → m.node ≢ node → Contains (side_of w).marks m
  pub placed : Contains (side_of w).marks (record { node = node; parent = place_code p; placed = true })
  pub emptied : (side_of w).emptied ≡ (side_of v).emptied
  pub met : (side_of w).met ≡ (side_of v).met
  pub unfreed : (side_of w).unfreed ≡ (side_of v).unfreed
  pub locks : (side_of w).locks ≡ (side_of v).locks
  pub loaded : (side_of w).loaded ≡ 0
  pub rests : RestsSo (side_of v) (side_of w)

-- the seat clears the mark that it met under the place's lock, of a node that was let go with an epoch: the node is that seat's, and what it now knows to
-- be empty is the place itself, if that is one of a node
pub record GetsNodeBack {V : Type 0} (side_of : V → MarkSide) (layout : Layout) (published published' words words' : List ℕ) (views : List V) (i : ℕ) (p : Place) (node epoch : ℕ) (v w : V) : Type 0 where
  pub changes : ChangesPlace layout words words' p
  pub has : (side_of v).met ≡ Some (record { node = node; place = p; left = Some epoch })
  pub stored : slice_index words' (place_at layout p) ≡ 0
  pub nobodys : (j : ℕ) (u : V) → get_elem? views j ≡ some u → ¬ (Contains (side_of u).locks (Locking.Node node))
  pub alone : (j : ℕ) (u : V) → j ≢ i → get_elem? views j ≡ some u → ¬ (Contains (side_of u).locks (lock_of p))
  pub left : (other : ℕ) → Contains published other → other ≢ node → Contains published' other
  pub hung : (other : ℕ) → IsPlaceIn other p → Contains published other
  pub marks : (side_of w).marks ≡ (side_of v).marks
  pub emptied : (e : Emptied) → (side_of w).emptied ≡ Some e → IsPlaceIn e.node p × (e.parent ≡ None) × ((digit : ℕ) → Contains e.digits digit → p ≡ Places.Node e.node digit)
  pub met : (side_of w).met ≡ None
  pub unfreed : (side_of w).unfreed ≡ node ∷ (side_of v).unfreed
  pub locks : (side_of w).locks ≡ (side_of v).locks
  pub loaded : (side_of w).loaded ≡ (side_of v).loaded
  pub rests : RestsSo (side_of v) (side_of w)

-- the seat frees the state of a node that it got back, which isn't published and is no other seat's
pub record FreesState {V : Type 0} (side_of : V → MarkSide) (layout : Layout) (published words words' : List ℕ) (views : List V) (i : ℕ) (node : ℕ) (v w : V) : Type 0 where
  pub changes : ChangesState layout words words' (Locking.Node node)
  pub mine : Contains (side_of v).unfreed node
  pub stored : state_word layout words' node ≡ 0
  pub unlisted : ¬ (Contains published node)
  pub alone : (j : ℕ) (u : V) → j ≢ i → get_elem? views j ≡ some u → ¬ (Contains (side_of u).unfreed node)
  pub marks : (side_of w).marks ≡ (side_of v).marks
  pub emptied : (side_of w).emptied ≡ (side_of v).emptied
  pub met : (side_of w).met ≡ (side_of v).met
  pub fewer : (other : ℕ) → Contains (side_of w).unfreed other → Contains (side_of v).unfreed other × (other ≢ node)
  pub freed : (other : ℕ) → Contains (side_of v).unfreed other → other ≢ node → Contains (side_of w).unfreed other
  pub locks : (side_of w).locks ≡ (side_of v).locks
  pub loaded : (side_of w).loaded ≡ (side_of v).loaded
  pub rests : RestsSo (side_of v) (side_of w)

-- the seat stores in a place under its lock, of a node that it hasn't marked: neither a node nor a mark stood there, and no mark does then. What it knows to be
-- empty after it is the place itself, if that is one of a node, and nothing was stored
pub record StoresInPlace {V : Type 0} (side_of : V → MarkSide) (layout : Layout) (published published' words words' : List ℕ) (views : List V) (i : ℕ) (p : Place) (v w : V) : Type 0 where
  pub changes : ChangesPlace layout words words' p
  pub inside : IsInTrie layout p
  pub locked : Contains (side_of v).locks (lock_of p)
  pub alone : (j : ℕ) (u : V) → j ≢ i → get_elem? views j ≡ some u → ¬ (Contains (side_of u).locks (lock_of p))
  pub no_node : (n : ℕ) → slice_index words (place_at layout p) ≢ cell_word (Cells.Node n)
  pub no_mark : (n : ℕ) → ¬ (IsMarkOf layout words p n)
  pub markless : (n : ℕ) → ¬ (IsMarkOf layout words' p n)
  pub unmarked : (m : Marked) → Contains (side_of v).marks m → ¬ (IsPlaceIn m.node p)
  pub listed : (n : ℕ) → Contains published n → Contains published' n
  pub hung : (n : ℕ) → IsPlaceIn n p → Contains published n
  pub marks : (side_of w).marks ≡ (side_of v).marks
  pub emptied : (e : Emptied) → (side_of w).emptied ≡ Some e → IsPlaceIn e.node p × (e.parent ≡ None) × ((digit : ℕ) → Contains e.digits digit → p ≡ Places.Node e.node digit) × (slice_index words' (place_at layout p) ≡ 0)
  pub met : (side_of w).met ≡ (side_of v).met
  pub unfreed : (side_of w).unfreed ≡ (side_of v).unfreed
  pub locks : (side_of w).locks ≡ (side_of v).locks
  pub loaded : (m : Marked) → Contains (side_of w).marks m → 1 ≤ (side_of w).loaded → (side_of w).loaded ≡ (side_of v).loaded
  pub rests : RestsSo (side_of v) (side_of w)

-- the seat stores what is no mark in a place of a node of its own, which isn't published, and in which no published node hangs
pub record StoresInOwn {V : Type 0} (side_of : V → MarkSide) (layout : Layout) (published words words' : List ℕ) (p : Place) (own : ℕ) (v w : V) : Type 0 where
  pub changes : ChangesPlace layout words words' p
  pub inside : IsInTrie layout p
  pub within : IsPlaceIn own p
  pub unlisted : ¬ (Contains published own)
  pub unnamed : (n : ℕ) → Contains published n → parent_word layout words n ≢ place_code p
  pub markless : (n : ℕ) → ¬ (IsMarkOf layout words' p n)
  pub same : side_of w ≡ side_of v

-- what a seat knows of an empty node after a load: what it knew, that nothing stands in one more of its places, or what its parent word says
pub data KnowsEmptied (layout : Layout) (words : List ℕ) (side : MarkSide) : Emptied → Type 0 where
  known : (e : Emptied) → side.emptied ≡ Some e → KnowsEmptied layout words side e
  digit_read : (e : Emptied) (digit : ℕ) → side.emptied ≡ Some e → slice_index words (place_at layout (Places.Node e.node digit)) ≡ 0 → KnowsEmptied layout words side (record { node = e.node; parent = e.parent; digits = digit ∷ e.digits })
  parent_read : (e : Emptied) (code : ℕ) → side.emptied ≡ Some e → parent_word layout words e.node ≡ code → KnowsEmptied layout words side (record { node = e.node; parent = Some code; digits = e.digits })

-- and of a mark: what it knew, that it stands in a place under the place's lock, or with which epoch its node was let go
pub data KnowsMet (layout : Layout) (words : List ℕ) (side : MarkSide) : MetMark → Type 0 where
  met_before : (x : MetMark) → side.met ≡ Some x → KnowsMet layout words side x
  mark_read : (p : Place) (node : ℕ) → IsInTrie layout p → Contains side.locks (lock_of p) → IsMarkOf layout words p node → KnowsMet layout words side (record { node = node; place = p; left = None })
  left_read : (x : MetMark) (epoch : ℕ) → side.met ≡ Some x → state_word layout words x.node ≡ 2 ^ 63 + epoch → KnowsMet layout words side (record { node = x.node; place = x.place; left = Some epoch })

-- a load by which the seat learns no more than this
pub record LearnsOfMarks {V : Type 0} (side_of : V → MarkSide) (layout : Layout) (words : List ℕ) (v w : V) : Type 0 where
  pub marks : (side_of w).marks ≡ (side_of v).marks
  pub emptied : (e : Emptied) → (side_of w).emptied ≡ Some e → KnowsEmptied layout words (side_of v) e
  pub met : (x : MetMark) → (side_of w).met ≡ Some x → KnowsMet layout words (side_of v) x
  pub unfreed : (side_of w).unfreed ≡ (side_of v).unfreed
  pub locks : (side_of w).locks ≡ (side_of v).locks
  pub loaded : (side_of w).loaded ≡ (side_of v).loaded
  pub rests : RestsSo (side_of v) (side_of w)
