-- The trie where an emptied node is taken off, in which nobody is.
use Rattle.std.specs.Prelude.{◌≡◌, ◌≢◌, ℕ, ◌+◌, Some, List, Contains}
use mathlib.Core.Option.{some}
use lib.ListN.{get_elem?}
use Rattle.npf_types.specs.declared.key.Key.{Key}
use Rattle.npf_types.specs.declared.key.Way.{Way}
use Rattle.npf_core.specs.declared.conn_id.ConnId.{ConnId}
use Rattle.npf_core.specs.Machine.{Machine}
use Rattle.npf_paths.specs.declared.cell.Cell.TheVariants.{Empty}
use Rattle.npf_paths.specs.declared.place.Place.{Place}
use Rattle.npf_paths.specs.Places.{lock_of}
use Rattle.npf_paths_pruning.specs.Pruning.{PrunesNode}
use Rattle.npf_cells_words.specs.declared.layout.Layout.{Layout}
use Rattle.npf_cells_words.specs.Codes.{place_code}
use Rattle.npf_cells_words.specs.Places.{IsPlaceIn}
use Rattle.npf_seats.specs.Sums.{occurs, others_than}
use Rattle.npf_cells_leaves.specs.declared.trie.LoadedLeaf.{LoadedLeaf}
use Rattle.npf_cells_leaves.specs.declared.trie.PathPlace.{PathPlace}
use Rattle.npf_cells_leaves.specs.declared.trie.SeenCell.{SeenCell}
use Rattle.npf_cells_leaves.specs.declared.trie.TrieSide.{TrieSide}
use Rattle.npf_cells_leaves.specs.Trie.{TrieWords, trie_words, all_grown, all_regained, Trie}

-- the node comes off the place that it names as its parent, where nothing stands then; the words of slots and of parents stay
pub record TakesNodeOff (t t' : TrieWords) (p : Place) (node : ℕ) : Type 0 where
  pub prunes : PrunesNode t.cell t'.cell p node
  pub emptied : t'.cell p ≡ Empty
  pub keys : (slot : ℕ) (way : Way) → t'.key slot way ≡ t.key slot way
  pub incs : (slot : ℕ) → t'.inc slot ≡ t.inc slot
  pub parents : (other : ℕ) → t'.parent other ≡ t.parent other
  pub names : t.parent node ≡ place_code p

-- a seat learned nothing of the trie, is not in the node, and saw nothing of the place under the place's lock
pub record StaysOutside (p : Place) (node : ℕ) (side side' : TrieSide) : Type 0 where
  pub stands : (point : PathPlace) → side'.stands ≡ Some point → (side.stands ≡ Some point) × ¬ (IsPlaceIn node point.place)
  pub leaf : (leaf : LoadedLeaf) → side'.leaf ≡ Some leaf → side.leaf ≡ Some leaf
  pub seen : (saw : SeenCell) → side'.seen ≡ Some saw → (side.seen ≡ Some saw) × ¬ (IsPlaceIn node saw.place)
  pub apart : (saw : SeenCell) → side'.seen ≡ Some saw → Contains side.locks (lock_of saw.place) → saw.place ≢ p
  pub locks : side'.locks ≡ side.locks
  pub answered : (id : ConnId) → Contains side'.answered id → Contains side.answered id

-- what a seat was before
pub record WasOutside (p : Place) (node : ℕ) (sides : List TrieSide) (j : ℕ) (side' : TrieSide) : Type 0 where
  pub side : TrieSide
  pub there : get_elem? sides j ≡ some side
  pub stays : StaysOutside p node side side'

-- the node is published no more, and some seat counts that it got one back
pub record CountsBack (node : ℕ) (published : List ℕ) (sides sides' : List TrieSide) : Type 0 where
  pub once : occurs node published ≡ 1
  pub grown : all_grown (λ x. x) sides' ≡ all_grown (λ x. x) sides
  pub regained : all_regained (λ x. x) sides' ≡ all_regained (λ x. x) sides + 1

-- then the part on the trie holds still, of the nodes but this one
abbrev pub TakingOffKeepsTrie : (S : Type 0) → (Key → ℕ) → Layout → Type 0
TakingOffKeepsTrie S digest layout = (published : List ℕ) (k : Machine S) (words words' : List ℕ) (sides sides' : List TrieSide) (p : Place) (node : ℕ) →
    Trie (λ x. x) digest layout published k words sides → TakesNodeOff (trie_words layout words) (trie_words layout words') p node → CountsBack node published sides sides' →
    ((j : ℕ) (side' : TrieSide) → get_elem? sides' j ≡ some side' → WasOutside p node sides j side') → Trie (λ x. x) digest layout (others_than node published) k words' sides'
