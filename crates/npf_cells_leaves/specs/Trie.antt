-- The part of the rule on the trie: who holds a key stands where the key's path ends.
use Rattle.std.specs.Prelude.{◌≡◌, ◌≢◌, ◌⊎◌, ℕ, ◌+◌, ◌<◌, Option, Some, None, List, [], ◌∷◌, Contains, length, sum_by, slice_index, if◌then◌else◌}
use mathlib.Core.Option.{some}
use lib.ListN.{get_elem?}
use Rattle.npf_types.specs.declared.key.Key.{Key}
use Rattle.npf_types.specs.declared.key.Way.{Way}
use Rattle.npf_core.specs.declared.conn_id.ConnId.{ConnId}
use Rattle.npf_core.specs.declared.found.Found.{Found}
use Rattle.npf_core.specs.declared.stage.Stage.TheVariants.{Dead}
use Rattle.npf_core.specs.Machine.{Machine, stage_of, IsClaimed, is_key}
use Rattle.npf_paths.specs.declared.cell.Cell.{Cell}
use Rattle.npf_paths.specs.declared.cell.Cell.TheVariants.{Empty, Leaf, Node, Mark}
use Rattle.npf_paths.specs.declared.place.Lock.{Lock}
use Rattle.npf_paths.specs.declared.place.Place.{Place}
use Rattle.npf_paths.specs.Digits.{digit_of}
use Rattle.npf_paths.specs.LevelLaw.{MeetsAtOneLevel}
use Rattle.npf_paths.specs.Paths.{AreDigits, IsOnPath, EndsAt}
use Rattle.npf_paths.specs.Places.{lock_of}
use Rattle.npf_cells_words.specs.declared.layout.Layout.{Layout}
use Rattle.npf_cells_words.specs.declared.layout.Pool.TheVariants.{Slots, Nodes}
use Rattle.npf_cells_words.specs.Layout.{inc_field, parent_field, key_field, field_at}
use Rattle.npf_cells_words.specs.MarkWords.{shown_of}
use Rattle.npf_cells_words.specs.Places.{place_at, is_in_trie}
use Rattle.npf_cells_leaves.specs.Parents.{Parents}
use Rattle.npf_cells_leaves.specs.declared.trie.LoadedLeaf.{LoadedLeaf}
use Rattle.npf_cells_leaves.specs.declared.trie.PathPlace.{PathPlace}
use Rattle.npf_cells_leaves.specs.declared.trie.SeenCell.{SeenCell}
use Rattle.npf_cells_leaves.specs.declared.trie.TrieSide.{TrieSide}

-- what stands in a place, where a mark stands for its node; nothing stands in one that the table doesn't have
abbrev pub cell_in : Layout → List ℕ → Place → Cell
cell_in layout words p = if is_in_trie layout p then shown_of (slice_index words (place_at layout p)) else Empty

-- one word of the key of a way, and all five as a key
abbrev pub key_word : Layout → List ℕ → ℕ → Way → ℕ → ℕ
key_word layout words slot way place = slice_index words (field_at layout Slots slot (key_field way + place))

abbrev pub key_in : Layout → List ℕ → ℕ → Way → Key
key_in layout words slot way = record {
  0 = key_word layout words slot way 0 ∷ key_word layout words slot way 1 ∷ key_word layout words slot way 2 ∷ key_word layout words slot way 3 ∷ key_word layout words slot way 4 ∷ [];
}

-- what the trie is made of: what stands in each place, the parent of each node, and the keys and the incarnation of each slot
pub record TrieWords : Type 0 where
  pub cell : Place → Cell
  pub parent : ℕ → ℕ
  pub key : ℕ → Way → Key
  pub inc : ℕ → ℕ

-- as the words of a table have it
abbrev pub trie_words : Layout → List ℕ → TrieWords
trie_words layout words = record {
  cell = cell_in layout words;
  parent = λ node. slice_index words (field_at layout Nodes node parent_field);
  key = key_in layout words;
  inc = λ slot. slice_index words (field_at layout Slots slot inc_field);
}

-- the digits that lead a key, which is hashed so
abbrev pub digits_of : (Key → ℕ) → Key → ℕ → ℕ
digits_of digest key level = digit_of (digest key) key level

-- the connection of a leaf, by its slot's words
abbrev pub leaf_found : TrieWords → ℕ → Way → Found
leaf_found t slot way = record { id = record { slot = slot; inc = t.inc slot }; way = way }

-- who holds the key, where its path ends with this cell
abbrev pub holder_at : TrieWords → Cell → Key → Option Found
holder_at t Empty key = None
holder_at t (Leaf slot way) key = if is_key (t.key slot way) key then Some (leaf_found t slot way) else None
holder_at t (Node node) key = None
holder_at t Mark key = None

-- a leaf is of one of so many slots, whose connection holds the key of its words
pub record IsRightLeaf (slots : ℕ) (holder : Key → Option Found) (t : TrieWords) (slot : ℕ) (way : Way) : Type 0 where
  pub exists : slot < slots
  pub held : holder (t.key slot way) ≡ Some (leaf_found t slot way)

-- a node that a path meets at this level is one of so many, was published, and isn't as deep as the last level
pub record IsRightNode (nodes : ℕ) (published : List ℕ) (level node : ℕ) : Type 0 where
  pub exists : node < nodes
  pub published_once : Contains published node
  pub within : level < 94

-- a leaf that a pass loaded is still right, or its connection is Dead, which may have given the key up; and its slot has still the words that it had
pub record StaysLeaf {S : Type 0} (slots : ℕ) (k : Machine S) (t : TrieWords) (leaf : LoadedLeaf) : Type 0 where
  pub right : IsRightLeaf slots k.holder t leaf.slot leaf.way ⊎ (stage_of k (record { slot = leaf.slot; inc = leaf.inc }) ≡ Dead)
  pub key : t.key leaf.slot leaf.way ≡ leaf.key
  pub inc : t.inc leaf.slot ≡ leaf.inc

-- a place that a pass saw is still on the key's path, and where it has the lock the same stands there; a mark that was seen says nothing more
pub record StaysSighted (digest : Key → ℕ) (t : TrieWords) (locks : List Lock) (s : SeenCell) : Type 0 where
  pub on_path : IsOnPath (digits_of digest s.key) t.cell s.level s.place
  pub locked : Contains locks (lock_of s.place) → s.cell ≢ Mark → t.cell s.place ≡ s.cell

-- what the part says of one seat: it stands on a key's path, the leaf that it loaded stays, what it saw under a lock still stands there,
-- and what it was answered is claimed
pub record FitsTrie {S : Type 0} (digest : Key → ℕ) (slots : ℕ) (k : Machine S) (t : TrieWords) (side : TrieSide) : Type 0 where
  pub stands : (point : PathPlace) → side.stands ≡ Some point → IsOnPath (digits_of digest point.key) t.cell point.level point.place
  pub leaf : (leaf : LoadedLeaf) → side.leaf ≡ Some leaf → StaysLeaf slots k t leaf
  pub seen : (s : SeenCell) → side.seen ≡ Some s → StaysSighted digest t side.locks s
  pub claimed : (id : ConnId) → Contains side.answered id → IsClaimed (stage_of k id)

-- a node hangs on a path: it stands in a place that the path meets
pub record IsHung (cell : Place → Cell) (node : ℕ) : Type 0 where
  pub digits : ℕ → ℕ
  pub are : AreDigits digits
  pub level : ℕ
  pub place : Place
  pub on_path : IsOnPath digits cell level place
  pub there : cell place ≡ Node node

-- how many nodes passes published in all
abbrev pub all_grown : {V : Type 0} → (V → TrieSide) → List V → ℕ
all_grown side_of views = sum_by (λ v. (side_of v).grown) views

-- and how many of these passes got back
abbrev pub all_regained : {V : Type 0} → (V → TrieSide) → List V → ℕ
all_regained side_of views = sum_by (λ v. (side_of v).regained) views

-- over views of which each has a side: the end of each key's path says who holds it; what paths meet is right, a leaf on its own key's
-- path, a node where its parent says, and each place at one level; each published node hangs on a path, and seats count it; and each seat
-- fits
pub record Trie {S V : Type 0} (side_of : V → TrieSide) (digest : Key → ℕ) (layout : Layout) (published : List ℕ) (k : Machine S) (words : List ℕ) (views : List V) : Type 0 where
  pub ends : (key : Key) (level : ℕ) (p : Place) → EndsAt (digits_of digest key) (trie_words layout words).cell level p →
      k.holder key ≡ holder_at (trie_words layout words) ((trie_words layout words).cell p) key
  pub leaves : (digits : ℕ → ℕ) (level : ℕ) (p : Place) (slot : ℕ) (way : Way) → AreDigits digits → IsOnPath digits (trie_words layout words).cell level p →
      (trie_words layout words).cell p ≡ Leaf slot way → IsRightLeaf layout.slots k.holder (trie_words layout words) slot way
  pub nodes : (digits : ℕ → ℕ) (level : ℕ) (p : Place) (node : ℕ) → AreDigits digits → IsOnPath digits (trie_words layout words).cell level p →
      (trie_words layout words).cell p ≡ Node node → IsRightNode layout.nodes published level node
  pub homes : (digits : ℕ → ℕ) (level : ℕ) (p : Place) (slot : ℕ) (way : Way) → AreDigits digits → IsOnPath digits (trie_words layout words).cell level p →
      (trie_words layout words).cell p ≡ Leaf slot way → IsOnPath (digits_of digest ((trie_words layout words).key slot way)) (trie_words layout words).cell level p
  pub levels : MeetsAtOneLevel (trie_words layout words).cell
  pub parents : Parents (trie_words layout words).cell (trie_words layout words).parent
  pub hang : (node : ℕ) → Contains published node → IsHung (trie_words layout words).cell node
  pub counted : length published + all_regained side_of views ≡ all_grown side_of views
  pub each : (j : ℕ) (v : V) → get_elem? views j ≡ some v → FitsTrie digest layout.slots k (trie_words layout words) (side_of v)

-- a pass that knows nothing of the trie
abbrev pub unread_side : TrieSide
unread_side = record { stands = None; leaf = None; seen = None; meets = None; locks = []; answered = []; marks = []; emptied = None; met_mark = None; places = 0; words = 0; published = 0; grown = 0; regained = 0 }

-- what a pass read of the trie in its stay is nothing to the next one
abbrev pub forgetting : TrieSide → TrieSide
forgetting side = record side { stands = None; leaf = None; seen = None; meets = None; answered = []; emptied = None; met_mark = None }

-- a pass that isn't protected walked nowhere, was answered nothing, and has no lock
pub record HasNoWalk (side : TrieSide) : Type 0 where
  pub stands : side.stands ≡ None
  pub leaf : side.leaf ≡ None
  pub seen : side.seen ≡ None
  pub meets : side.meets ≡ None
  pub answered : side.answered ≡ []
  pub locks : side.locks ≡ []
