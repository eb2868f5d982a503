-- What a store in a place of the trie changes in a pass's own view, and what it tells.
use Rattle.std.specs.List.{list_any}
use Rattle.std.specs.Prelude.{◌≡◌, ◌≢◌, ℕ, ◌+◌, ◌<◌, ◌==◌, true, false, Option, Some, None, List, [], ◌∷◌, Contains, length, slice_index, filter, if◌then◌else◌}
use denote.Bor.{Bor}
use Rattle.atomic_table.specs.Table.{Me, Step}
use Rattle.npf_types.specs.declared.key.Key.{Key}
use Rattle.npf_types.specs.declared.key.Way.{Way}
use Rattle.npf_core.specs.declared.conn_id.ConnId.{ConnId}
use Rattle.npf_core.specs.declared.entry.Entry.{Entry}
use Rattle.npf_core.specs.declared.held.Held.{Held}
use Rattle.npf_core.specs.Machine.{is_key}
use Rattle.npf_core.specs.Meaning.{Meaning}
use Rattle.npf_connections.specs.Adding.{AddsOwn}
use Rattle.npf_connections.specs.Entries.{hold_entries}
use Rattle.npf_connections.specs.Pass.{IsPass}
use Rattle.npf_paths.specs.declared.cell.Cell.{Cell}
use Rattle.npf_paths.specs.declared.cell.Cell.TheVariants.{Empty, Leaf, Node, Mark}
use Rattle.npf_paths.specs.declared.place.Place.{Place}
use Rattle.npf_paths.specs.CellWords.{cell_of}
use Rattle.npf_paths.specs.Growing.{IsBranch}
use Rattle.npf_paths.specs.LevelLaw.{AreApart}
use Rattle.npf_paths.specs.Paths.{IsEnd}
use Rattle.npf_cells_words.specs.declared.layout.Layout.{Layout}
use Rattle.npf_cells_words.specs.declared.layout.Pool.TheVariants.{Slots, Nodes}
use Rattle.npf_cells_words.specs.declared.mark.Marked.{Marked}
use Rattle.npf_cells_words.specs.Layout.{parent_field, key_field, note_field, field_at}
use Rattle.npf_cells_words.specs.Codes.{place_code}
use Rattle.npf_cells_words.specs.Places.{place_at, IsPlaceIn}
use Rattle.npf_cells_leaves.specs.Sights.{SeesLocked}
use Rattle.npf_cells_leaves.specs.declared.trie.LoadedLeaf.{LoadedLeaf}
use Rattle.npf_cells_leaves.specs.declared.trie.TrieSide.{TrieSide}
use Rattle.npf_cells_leaves.specs.Parents.{foot_place, NameParents}
use Rattle.npf_cells_leaves.specs.Trie.{digits_of}
use Rattle.npf_cells_lives.specs.declared.pools.Note.{Note}
use Rattle.npf_cells_lives.specs.declared.pools.StoredWord.{StoredWord}
use Rattle.npf_cells_lives.specs.declared.turn.Turn.{Turn}
use Rattle.npf_cells_lives.specs.Notes.{notes_but, with_ahead}
use Rattle.npf_cells_lives.specs.Stored.{stored_value}
use Rattle.npf_cells_rule.specs.declared.view.CellView.{CellView}
use Rattle.npf_cells_rule.specs.Passes.{cell_pass}
use Rattle.npf_cells_rule.specs.Views.{with_trie}
use Rattle.npf_cells_holds.specs.declared.aim.Aim.{Aim}
use Rattle.npf_cells_holds.specs.HoldKinds.{MayHoldSo, renewed}
use Rattle.npf_cells_holds.specs.LookKinds.{StandsOnPath, level_at}

-- what is aimed at, behind the reference
abbrev pub aim_now : Option (Bor Aim) → Option Aim
aim_now None = None
aim_now (Some aim) = Some aim.now

-- the words of that way's key in the slot are this key's, as the pass stored them
pub record HasStoredKey (layout : Layout) (stored : List StoredWord) (slot : ℕ) (way : Way) (key : Key) : Type 0 where
  pub five : length key.0 ≡ 5
  pub words : (i : ℕ) → i < 5 → stored_value layout stored (field_at layout Slots slot (key_field way + i)) ≡ Some (slice_index key.0 i)

-- the cell that a word says that the pass stored; a mark where it stored none
abbrev pub stored_cell : Option ℕ → Cell
stored_cell None = Mark
stored_cell (Some word) = cell_of word

-- what stands in a place of a node that the pass owns
abbrev pub cell_stored : Layout → List StoredWord → Place → Cell
cell_stored layout stored p = stored_cell (stored_value layout stored (place_at layout p))

-- what the pass stored as the node's parent
abbrev pub IsParentStored : Layout → List StoredWord → ℕ → ℕ → Type 0
IsParentStored layout stored node code = stored_value layout stored (field_at layout Nodes node parent_field) ≡ Some code

-- the nodes that lead on to both leaves, one a level, down to and with the one at which the two keys part: each the pass's own, and none
-- there twice; and each names the place that is to have it, of which the first is this one
pub record GrowsNodes {S A R : Type 0} (digest : Key → ℕ) (layout : Layout) (v : CellView S A R) (slot : ℕ) (way : Way) (key : Key) (leaf : LoadedLeaf) (p : Place) (level first : ℕ) (nodes : List ℕ) : Type 0 where
  pub branch : IsBranch (digits_of digest key) (digits_of digest leaf.key) (cell_stored layout v.pools.stored) (Leaf slot way) (Leaf leaf.slot leaf.way) (level + 1) first nodes
  pub owned : (node : ℕ) → Contains nodes node → Contains v.pools.nodes node
  pub apart : AreApart nodes
  pub parents : NameParents (digits_of digest key) (IsParentStored layout v.pools.stored) (level + 1) p nodes

-- what may be put in the place for a key: the connection's leaf where nothing stood, or new nodes where the leaf of another key did
pub data PutsFor {S A R : Type 0} (digest : Key → ℕ) (layout : Layout) (v : CellView S A R) (id : ConnId) (key : Key) (way : Way) (p : Place) : Cell → List ℕ → Type 0 where
  fills : SeesLocked v.trie p Empty → PutsFor digest layout v id key way p (Leaf id.slot way) []
  grows : (leaf : LoadedLeaf) (first : ℕ) (nodes : List ℕ) → v.trie.leaf ≡ Some leaf → is_key leaf.key key ≡ false → SeesLocked v.trie p (Leaf leaf.slot leaf.way) →
      GrowsNodes digest layout v id.slot way key leaf p (level_at v.trie p) first nodes → PutsFor digest layout v id key way p (Node first) nodes

-- the pass stored this as the note of that way
abbrev pub HasNoted : List Note → ℕ → Way → ℕ → Type 0
HasNoted notes slot way value = Contains notes (record { slot = slot; field = note_field way; value = value })

-- the pass is ahead of no note, and it is ahead of this one
abbrev pub IsSettled : {S : Type 0} → Option (Turn S) → Type 0
IsSettled {S} turn = (t : Turn S) → turn ≡ Some t → t.ahead ≡ None

pub record IsAheadTo {S : Type 0} (turn : Option (Turn S)) (slot : ℕ) (way : Way) (value : ℕ) : Type 0 where
  pub mine : Turn S
  pub has : turn ≡ Some mine
  pub there : mine.slot ≡ slot
  pub ahead : mine.ahead ≡ Some (record { field = note_field way; value = value })

-- a pass that moves the leaf of another key down, to the foot of new nodes, has its slot's turn, and is ahead of its note with that place
abbrev pub MovesLeaf : {S A R : Type 0} → (Key → ℕ) → CellView S A R → Place → List ℕ → Type 0
MovesLeaf digest v p [] = IsSettled v.turn
MovesLeaf digest v p (node ∷ nodes) = (leaf : LoadedLeaf) → v.trie.leaf ≡ Some leaf →
    IsAheadTo v.turn leaf.slot leaf.way (place_code (foot_place (digits_of digest leaf.key) (level_at v.trie p + 1) p (node ∷ nodes)))

-- the place is none of a node that was marked
abbrev pub IsUnmarkedPlace : List Marked → Place → Type 0
IsUnmarkedPlace marks p = (m : Marked) → Contains marks m → ¬ (IsPlaceIn m.node p)

-- what a store for a key asks: the pass may hold the key, stands at the place of its path, and has stored the key, the incarnation
-- and, as the note of the way, where the leaf will stand
pub record MayPublishFor {S A R : Type 0} (m : Meaning S A R) (digest : Key → ℕ) (layout : Layout) (v : CellView S A R) (id : ConnId) (key : Key) (way : Way) (p : Place) (cell : Cell) : Type 0 where
  pub hold : MayHoldSo m v id way
  pub stands : StandsOnPath digest v.trie key p
  pub exists : id.slot < layout.slots
  pub key_stored : HasStoredKey layout v.pools.stored id.slot way key
  pub inc_stored : ¬ Contains v.pools.unstored id.slot
  pub nodes : List ℕ
  pub puts : PutsFor digest layout v id key way p cell nodes
  pub noted : HasNoted v.pools.notes id.slot way (place_code (foot_place (digits_of digest key) (level_at v.trie p + 1) p nodes))
  pub moves : MovesLeaf digest v p nodes
  pub unmarked : IsUnmarkedPlace v.trie.marks p

-- what any store in a place asks: without an aim what stands there may be stored again, unless it is a node or a mark, in a node that the pass hasn't marked
abbrev pub MayPublish : {S A R : Type 0} → Meaning S A R → (Key → ℕ) → Layout → CellView S A R → Place → Cell → Option Aim → Type 0
MayPublish m digest layout v p cell None = SeesLocked v.trie p cell × IsEnd cell × (cell ≢ Mark) × IsUnmarkedPlace v.trie.marks p
MayPublish m digest layout v p cell (Some (Aim.Look n key)) = ⊥
MayPublish m digest layout v p cell (Some (Aim.Hold id key way)) = MayPublishFor m digest layout v id key way p cell

-- nodes without those that were published
abbrev pub nodes_but : List ℕ → List ℕ → List ℕ
nodes_but published = filter (λ node. if list_any (λ x. x == node) published then false else true)

-- the pass after a store, and after one for a key: it has seen this history, is in a new stay, and these nodes aren't its own any more but counted,
-- nor is the note of the way; it is ahead of none
abbrev pub publishing : TrieSide → TrieSide
publishing side = record side { seen = None; meets = None; emptied = None; published = side.published + 1 }

abbrev pub published_for : {S A R : Type 0} → CellView S A R → List (Entry S A R) → ConnId → Way → List ℕ → CellView S A R
published_for v history id way nodes = record v {
  seats = record v.seats { history = history };
  pools = record v.pools { nodes = nodes_but nodes v.pools.nodes; stored = []; notes = notes_but id.slot (note_field way) v.pools.notes };
  trie = record (publishing (renewed v.trie)) { grown = v.trie.grown + length nodes };
  turn = with_ahead None v.turn;
}

-- the pass holds the key for the connection, by new nodes or none: this ends its history
pub record HasHeld {S A R F : Type 0} (m : Meaning S A R) (digest : Key → ℕ) (layout : Layout) (id : ConnId) (key : Key) (way : Way) (p : Place) (cell : Cell) (old now : Me F (CellView S A R)) : Type 0 where
  pub nodes : List ℕ
  pub puts : PutsFor digest layout old.0 id key way p cell nodes
  pub adds : AddsOwn (cell_pass old.0) now.0.seats.history (hold_entries (cell_pass old.0) id key way Held.Done)
  pub legal : IsPass m (cell_pass now.0)
  pub is : now ≡ (published_for old.0 now.0.seats.history id way nodes, old.1)

-- the pass after any store
abbrev pub Published : {S A R F : Type 0} → Meaning S A R → (Key → ℕ) → Layout → Place → Cell → Option Aim → Me F (CellView S A R) → Me F (CellView S A R) → Type 0
Published m digest layout p cell None old now = now ≡ with_trie old (publishing old.0.trie)
Published m digest layout p cell (Some (Aim.Look n key)) old now = ⊥
Published m digest layout p cell (Some (Aim.Hold id key way)) old now = HasHeld m digest layout id key way p cell old now

-- the kinds, as what they tell
pub record StoresAgain {S A R F : Type 0} (step : Step F) (me : Me F (CellView S A R)) (value : ℕ) (next : Me F (CellView S A R)) : Type 0 where
  pub is : next ≡ with_trie me (publishing me.0.trie)

pub record PublishesFor {S A R F : Type 0} (m : Meaning S A R) (digest : Key → ℕ) (layout : Layout) (id : ConnId) (key : Key) (way : Way) (p : Place) (cell : Cell) (step : Step F) (me : Me F (CellView S A R)) (value : ℕ) (next : Me F (CellView S A R)) : Type 0 where
  pub held : HasHeld m digest layout id key way p cell me next
