-- What a load of a place for a key that is to be held changes in a pass's own view, and what it tells.
use Rattle.std.specs.Prelude.{◌≡◌, ◌⊎◌, ℕ, ◌<◌, true, false, Some, List, [], ◌∷◌, Contains}
use Rattle.atomic_table.specs.Table.{Me, Step}
use Rattle.npf_types.specs.declared.key.Key.{Key}
use Rattle.npf_types.specs.declared.key.Way.{Way}
use Rattle.npf_core.specs.declared.conn_id.ConnId.{ConnId}
use Rattle.npf_core.specs.declared.entry.Entry.{Entry}
use Rattle.npf_core.specs.declared.found.Found.{Found}
use Rattle.npf_core.specs.declared.held.Held.{Held}
use Rattle.npf_core.specs.History.{state_of}
use Rattle.npf_core.specs.Machine.{HoldsNone, is_key}
use Rattle.npf_core.specs.Meaning.{Meaning}
use Rattle.npf_connections.specs.Adding.{AddsOwn}
use Rattle.npf_connections.specs.Entries.{hold_entries}
use Rattle.npf_connections.specs.Pass.{IsPass}
use Rattle.npf_paths.specs.declared.cell.Cell.{Cell}
use Rattle.npf_paths.specs.declared.cell.Cell.TheVariants.{Empty, Leaf, Node, Mark}
use Rattle.npf_paths.specs.declared.place.Place.{Place}
use Rattle.npf_paths.specs.CellWords.{cell_of}
use Rattle.npf_cells_words.specs.declared.layout.Layout.{Layout}
use Rattle.npf_cells_leaves.specs.declared.trie.LoadedLeaf.{LoadedLeaf}
use Rattle.npf_cells_leaves.specs.declared.trie.TrieSide.{TrieSide}
use Rattle.npf_cells_rule.specs.declared.view.CellView.{CellView}
use Rattle.npf_cells_rule.specs.Passes.{cell_pass}
use Rattle.npf_cells_rule.specs.Views.{with_trie}
use Rattle.npf_cells_holds.specs.LookKinds.{level_at, sighting, descending, IsLeafIn, FitsLayout}

-- the pass may hold a key of that way for the connection: it is building it, and has seen it take none
pub record MayHoldSo {S A R : Type 0} (m : Meaning S A R) (v : CellView S A R) (id : ConnId) (way : Way) : Type 0 where
  pub built : Contains v.pools.builds id
  pub bare : HoldsNone (state_of m v.seats.history) id way

-- a hold begins a new stay: what was answered before it may be freed
abbrev pub renewed : TrieSide → TrieSide
renewed side = record side { answered = [] }

-- who holds the leaf's key
abbrev pub leaf_holder : LoadedLeaf → Found
leaf_holder leaf = record { id = record { slot = leaf.slot; inc = leaf.inc }; way = leaf.way }

-- the pass after a load that found the leaf of another key, which meets this one at that level
abbrev pub meeting : Key → Place → Cell → ℕ → LoadedLeaf → TrieSide → TrieSide
meeting key p cell level leaf side = record (sighting key level p cell (renewed side)) { leaf = Some leaf; meets = Some (record { key = key; other = leaf.key; level = level }) }

-- and after one that found a leaf of this key: it has seen this history, and was answered the leaf's connection
abbrev pub taken_by : {S A R : Type 0} → CellView S A R → Key → Place → Cell → List (Entry S A R) → LoadedLeaf → CellView S A R
taken_by v key p cell history leaf = record v {
  seats = record v.seats { history = history };
  trie = record (sighting key (level_at v.trie p) p cell v.trie) { leaf = Some leaf; answered = (leaf_holder leaf).id ∷ [] };
}

-- the pass tried to hold the key, which is Taken by who holds the leaf's: this ends its history
pub record HasMetHolder {S A R F : Type 0} (m : Meaning S A R) (id : ConnId) (key : Key) (way : Way) (p : Place) (cell : Cell) (leaf : LoadedLeaf) (old now : Me F (CellView S A R)) : Type 0 where
  pub adds : AddsOwn (cell_pass old.0) now.0.seats.history (hold_entries (cell_pass old.0) id key way (Held.Taken (leaf_holder leaf)))
  pub legal : IsPass m (cell_pass now.0)
  pub is : now ≡ (taken_by old.0 key p cell now.0.seats.history leaf, old.1)

-- a load that found a leaf: of this key, or of another
pub record MeetsLeaf {S A R F : Type 0} (m : Meaning S A R) (id : ConnId) (key : Key) (way : Way) (p : Place) (cell : Cell) (slot : ℕ) (leaf_way : Way) (old now : Me F (CellView S A R)) : Type 0 where
  pub leaf : LoadedLeaf
  pub is_leaf : IsLeafIn slot leaf_way leaf
  pub same : is_key leaf.key key ≡ true → HasMetHolder m id key way p cell leaf old now
  pub other : is_key leaf.key key ≡ false → now ≡ with_trie old (meeting key p cell (level_at old.0.trie p) leaf old.0.trie)

-- a load of a place of the path of a key that is to be held: a node leads on, unless the level is the last; a leaf ends the call or is
-- met; and where nothing stands only that is seen
pub record HoldsAt {S A R F : Type 0} (m : Meaning S A R) (digest : Key → ℕ) (layout : Layout) (id : ConnId) (key : Key) (way : Way) (p : Place) (cell : Cell) (old now : Me F (CellView S A R)) : Type 0 where
  pub fits : FitsLayout layout cell
  pub leads : (node : ℕ) → cell ≡ Node node → (level_at old.0.trie p < 94) × (now ≡ with_trie old (descending digest key p (level_at old.0.trie p) node (renewed old.0.trie)))
  pub meets : (slot : ℕ) (leaf_way : Way) → cell ≡ Leaf slot leaf_way → MeetsLeaf m id key way p cell slot leaf_way old now
  pub nothing : (cell ≡ Empty) ⊎ (cell ≡ Mark) → now ≡ with_trie old (sighting key (level_at old.0.trie p) p cell (renewed old.0.trie))

-- the kind, as what it tells
pub record LoadsForHold {S A R F : Type 0} (m : Meaning S A R) (digest : Key → ℕ) (layout : Layout) (id : ConnId) (key : Key) (way : Way) (p : Place) (step : Step F) (me : Me F (CellView S A R)) (found : ℕ) (next : Me F (CellView S A R)) : Type 0 where
  pub holds : HoldsAt m digest layout id key way p (cell_of found) me next
