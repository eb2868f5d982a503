-- The part of the rule on marks. A node in whose places nothing stands is marked by who has its lock, and then its mark takes its place, until
-- the table's epoch is two more than one that it had since; whoever may still be in the node is protected from that epoch on or from an
-- earlier one. Then a pass may clear the mark, and the node is that pass's. The kinds of step that do so are those of npf_cells_returns.
use Rattle.std.specs.Prelude.{◌≡◌, ◌≢◌, ◌⊎◌, ℕ, ◌+◌, ◌^◌, ◌<◌, ◌≤◌, true, false, Option, Some, None, List, Contains, slice_index}
use mathlib.Core.Option.{some}
use lib.ListN.{get_elem?}
use Rattle.npf_paths.specs.declared.cell.Cell.TheVariants as Cells
use Rattle.npf_paths.specs.declared.place.Lock.{Lock}
use Rattle.npf_paths.specs.declared.place.Lock.TheVariants as Locking
use Rattle.npf_paths.specs.declared.place.Place.{Place}
use Rattle.npf_paths.specs.CellWords.{cell_word}
use Rattle.npf_paths.specs.Places.{lock_of}
use Rattle.npf_cells_words.specs.declared.layout.Layout.{Layout}
use Rattle.npf_cells_words.specs.declared.layout.Pool.TheVariants.{Nodes}
use Rattle.npf_cells_words.specs.declared.mark.Emptied.{Emptied}
use Rattle.npf_cells_words.specs.declared.mark.Marked.{Marked}
use Rattle.npf_cells_words.specs.declared.mark.MetMark.{MetMark}
use Rattle.npf_cells_words.specs.Codes.{place_code}
use Rattle.npf_cells_words.specs.Layout.{epoch_word, field_at}
use Rattle.npf_cells_words.specs.MarkWords.{state_word, parent_word, IsMarkOf, IsBareNode}
use Rattle.npf_cells_words.specs.Places.{place_at, IsInTrie, IsPlaceIn}
use Rattle.npf_cells_lives.specs.Deaths.{has_epoch, IsProtectedBy}

-- a seat as this part sees it: the nodes that it marked and hasn't let go, the node that it has locked and found empty so far, the mark that it
-- met, the nodes that it got back and whose state it hasn't freed, its locks, the epoch that it loaded since it last put a mark in a place (0
-- where it loaded none), the epoch that it is protected with, and the places where it stands and that it saw last
pub record MarkSide : Type 0 where
  pub marks : List Marked
  pub emptied : Option Emptied
  pub met : Option MetMark
  pub unfreed : List ℕ
  pub locks : List Lock
  pub loaded : ℕ
  pub protecting : Option ℕ
  pub stands : Option Place
  pub saw : Option Place

-- the place, if there is one, is one of the node's; so the seat may still be in the node
abbrev pub IsSomePlaceIn : ℕ → Option Place → Type 0
IsSomePlaceIn node None = ⊥
IsSomePlaceIn node (Some p) = IsPlaceIn node p

abbrev pub RestsIn : MarkSide → ℕ → Type 0
RestsIn side node = IsSomePlaceIn node side.stands ⊎ IsSomePlaceIn node side.saw

-- the table has reached the epoch, and whoever may be in the node is protected with it or an earlier one
pub record IsPastNode {V : Type 0} (side_of : V → MarkSide) (now : ℕ) (views : List V) (node epoch : ℕ) : Type 0 where
  pub reached : epoch ≤ now
  pub rested : (j : ℕ) (v : V) → get_elem? views j ≡ some v → RestsIn (side_of v) node → IsProtectedBy epoch (side_of v).protecting

-- what the part says of a node whose mark stands in a place: it was published, names the place, has nothing in its places, and its lock isn't
-- free; and once it was let go with an epoch, that is past
pub record FitsPlaced {V : Type 0} (side_of : V → MarkSide) (layout : Layout) (published words : List ℕ) (views : List V) (p : Place) (node : ℕ) : Type 0 where
  pub exists : node < layout.nodes
  pub listed : Contains published node
  pub parent : parent_word layout words node ≡ place_code p
  pub bare : IsBareNode layout words node
  pub taken : 1 ≤ state_word layout words node
  pub left : (epoch : ℕ) → state_word layout words node ≡ 2 ^ 63 + epoch → IsPastNode side_of (epoch_word words) views node epoch

-- what it says of a node that a seat marked: it has the lock; the node hangs in the place that its parent names, or its mark stands there, and
-- then the epoch that was loaded since is past
pub record FitsMarked {V : Type 0} (side_of : V → MarkSide) (layout : Layout) (published words : List ℕ) (views : List V) (side : MarkSide) (m : Marked) : Type 0 where
  pub exists : m.node < layout.nodes
  pub listed : Contains published m.node
  pub locked : Contains side.locks (Locking.Node m.node)
  pub parent : parent_word layout words m.node ≡ m.parent
  pub bare : IsBareNode layout words m.node
  pub place : Place
  pub inside : IsInTrie layout place
  pub names : m.parent ≡ place_code place
  pub hangs : m.placed ≡ false → slice_index words (place_at layout place) ≡ cell_word (Cells.Node m.node)
  pub stands : m.placed ≡ true → IsMarkOf layout words place m.node
  pub past : m.placed ≡ true → 1 ≤ side.loaded → IsPastNode side_of (epoch_word words) views m.node side.loaded

-- what it says of a node that a seat found empty so far: it has the lock, the node was published and isn't among those that it marked, its parent
-- is as it was loaded, and nothing stands in the places that were found so
pub record FitsEmptied (layout : Layout) (published words : List ℕ) (side : MarkSide) (e : Emptied) : Type 0 where
  pub exists : e.node < layout.nodes
  pub listed : Contains published e.node
  pub locked : Contains side.locks (Locking.Node e.node)
  pub unmarked : (m : Marked) → Contains side.marks m → m.node ≢ e.node
  pub parent : (code : ℕ) → e.parent ≡ Some code → parent_word layout words e.node ≡ code
  pub bare : (digit : ℕ) → Contains e.digits digit → digit < 16 → slice_index words (field_at layout Nodes e.node digit) ≡ 0

-- what it says of a mark that a seat met: it has the place's lock, the mark stands there, and the node was let go with the epoch that was loaded
pub record FitsMet (layout : Layout) (words : List ℕ) (side : MarkSide) (x : MetMark) : Type 0 where
  pub inside : IsInTrie layout x.place
  pub exists : x.node < layout.nodes
  pub locked : Contains side.locks (lock_of x.place)
  pub stands : IsMarkOf layout words x.place x.node
  pub left : (epoch : ℕ) → x.left ≡ Some epoch → state_word layout words x.node ≡ 2 ^ 63 + epoch

-- a mark of the node stands somewhere
pub record HasMark (layout : Layout) (words : List ℕ) (node : ℕ) : Type 0 where
  pub place : Place
  pub inside : IsInTrie layout place
  pub stands : IsMarkOf layout words place node

-- some seat got the node back, and hasn't freed its state
pub record IsUnfreed {V : Type 0} (side_of : V → MarkSide) (views : List V) (node : ℕ) : Type 0 where
  pub seat : ℕ
  pub view : V
  pub there : get_elem? views seat ≡ some view
  pub has : Contains (side_of view).unfreed node

-- over views of which each has a side: each mark that stands in a place is right, and who has the lock of its node marked it; what passes marked,
-- found empty and met is so; and a node's state has an epoch only while its mark stands, or a pass got it back and hasn't freed it
pub record Marks {V : Type 0} (side_of : V → MarkSide) (layout : Layout) (published words : List ℕ) (views : List V) : Type 0 where
  pub placed : (p : Place) (node : ℕ) → IsInTrie layout p → IsMarkOf layout words p node → FitsPlaced side_of layout published words views p node
  pub held : (j : ℕ) (v : V) (p : Place) (node : ℕ) → get_elem? views j ≡ some v → IsInTrie layout p → IsMarkOf layout words p node → Contains (side_of v).locks (Locking.Node node) →
      Contains (side_of v).marks (record { node = node; parent = place_code p; placed = true })
  pub marks : (j : ℕ) (v : V) (m : Marked) → get_elem? views j ≡ some v → Contains (side_of v).marks m → FitsMarked side_of layout published words views (side_of v) m
  pub emptied : (j : ℕ) (v : V) (e : Emptied) → get_elem? views j ≡ some v → (side_of v).emptied ≡ Some e → FitsEmptied layout published words (side_of v) e
  pub met : (j : ℕ) (v : V) (x : MetMark) → get_elem? views j ≡ some v → (side_of v).met ≡ Some x → FitsMet layout words (side_of v) x
  pub unfreed : (j : ℕ) (v : V) (node : ℕ) → get_elem? views j ≡ some v → Contains (side_of v).unfreed node → (node < layout.nodes) × (has_epoch (state_word layout words node) ≡ 1)
  pub states : (node : ℕ) → node < layout.nodes → has_epoch (state_word layout words node) ≡ 1 → HasMark layout words node ⊎ IsUnfreed side_of views node
