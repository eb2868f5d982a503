-- What it takes to mark a node, to put its mark in its place, to clear the mark and to free its state, and what each changes in a pass's own view.
use Rattle.std.specs.Prelude.{◌≡◌, ℕ, ◌+◌, ◌^◌, ◌≤◌, ◌<◌, ◌==◌, true, false, Option, Some, None, List, ◌∷◌, Contains, filter, map, if◌then◌else◌}
use Rattle.atomic_table.specs.Table.{Me, Step}
use Rattle.npf_paths.specs.declared.place.Lock.{Lock}
use Rattle.npf_paths.specs.declared.place.Lock.TheVariants as Locking
use Rattle.npf_paths.specs.declared.place.Place.{Place}
use Rattle.npf_paths.specs.Places.{lock_of}
use Rattle.npf_cells_words.specs.declared.layout.Layout.{Layout}
use Rattle.npf_cells_words.specs.declared.mark.Emptied.{Emptied}
use Rattle.npf_cells_words.specs.declared.mark.Marked.{Marked}
use Rattle.npf_cells_words.specs.Codes.{place_code}
use Rattle.npf_cells_words.specs.Places.{IsInTrie, lock_at}
use Rattle.npf_seats.specs.Sums.{others_than}
use Rattle.npf_cells_leaves.specs.declared.trie.TrieSide.{TrieSide}
use Rattle.npf_cells_lives.specs.declared.pools.PoolSide.{PoolSide}
use Rattle.npf_cells_rule.specs.declared.view.CellView.{CellView}
use Rattle.npf_cells_rule.specs.Views.{unloaded, with_pools, with_trie}
use Rattle.npf_cells_holds.specs.UnlinkKinds.{emptied_at}

-- a node may be marked where nothing was found in any of its 16 places under its lock, and the pass has that lock and the lock of the place that
-- the parent word names
pub record MayMarkNode {S A R : Type 0} (layout : Layout) (v : CellView S A R) (node : ℕ) : Type 0 where
  pub found : Emptied
  pub has : v.trie.emptied ≡ Some found
  pub there : found.node ≡ node
  pub own : Contains v.trie.locks (Locking.Node node)
  pub all : (digit : ℕ) → digit < 16 → Contains found.digits digit
  pub place : Place
  pub inside : IsInTrie layout place
  pub parent : found.parent ≡ Some (place_code place)
  pub locked : Contains v.trie.locks (lock_of place)

abbrev pub parent_said : Option ℕ → ℕ
parent_said None = 0
parent_said (Some code) = code

abbrev pub marked_by : Option Emptied → List Marked → List Marked
marked_by None marks = marks
marked_by (Some e) marks = (record { node = e.node; parent = parent_said e.parent; placed = false }) ∷ marks

abbrev pub marking : TrieSide → TrieSide
marking side = record side { marks = marked_by side.emptied side.marks; emptied = None }

-- its mark may be put in its place by who marked it and has the lock of that place, and who then forgets the epoch that it loaded
pub record MayMarkPlace {S A R : Type 0} (v : CellView S A R) (p : Place) (node : ℕ) : Type 0 where
  pub marked : Contains v.trie.marks (record { node = node; parent = place_code p; placed = false })
  pub locked : Contains v.trie.locks (lock_of p)

abbrev pub placed_mark : ℕ → Marked → Marked
placed_mark node m = if m.node == node then record m { placed = true } else m

abbrev pub placing : {S A R F : Type 0} → ℕ → Me F (CellView S A R) → Me F (CellView S A R)
placing node me = (record me.0 { epochs = unloaded me.0.epochs; trie = record me.0.trie { seen = None; meets = None; marks = map (placed_mark node) me.0.trie.marks } }, me.1)

-- a mark may be cleared that the pass met in the place under the place's lock, with then the epoch with which its node was let go, where it has loaded
-- one of at least two more
pub record MayClearMark {S A R : Type 0} (v : CellView S A R) (p : Place) (node : ℕ) : Type 0 where
  pub epoch : ℕ
  pub met : v.trie.met_mark ≡ Some (record { node = node; place = p; left = Some epoch })
  pub locked : Contains v.trie.locks (lock_of p)
  pub later : epoch + 2 ≤ v.epochs.loaded

abbrev pub regaining : {S A R F : Type 0} → Place → ℕ → Me F (CellView S A R) → Me F (CellView S A R)
regaining p node me = (
  record me.0 {
    pools = record me.0.pools { unfreed = node ∷ me.0.pools.unfreed };
    trie = record me.0.trie { seen = None; meets = None; met_mark = None; emptied = emptied_at p; regained = me.0.trie.regained + 1 };
  },
  me.1,
)

-- the state of a node that the pass got back is freed: then the node is one that it owns
abbrev pub freeing_node : ℕ → PoolSide → PoolSide
freeing_node node side = record side { unfreed = others_than node side.unfreed; nodes = node ∷ side.nodes }

-- the kinds, as what they tell
pub record MarksEmptied {S A R F : Type 0} (step : Step F) (me : Me F (CellView S A R)) (value : ℕ) (next : Me F (CellView S A R)) : Type 0 where
  pub is : next ≡ with_trie me (marking me.0.trie)

pub record MarksPlace {S A R F : Type 0} (node : ℕ) (step : Step F) (me : Me F (CellView S A R)) (value : ℕ) (next : Me F (CellView S A R)) : Type 0 where
  pub is : next ≡ placing node me

pub record RegainsNode {S A R F : Type 0} (p : Place) (node : ℕ) (step : Step F) (me : Me F (CellView S A R)) (value : ℕ) (next : Me F (CellView S A R)) : Type 0 where
  pub is : next ≡ regaining p node me

pub record FreesNode {S A R F : Type 0} (node : ℕ) (step : Step F) (me : Me F (CellView S A R)) (value : ℕ) (next : Me F (CellView S A R)) : Type 0 where
  pub is : next ≡ with_pools me (freeing_node node me.0.pools)
