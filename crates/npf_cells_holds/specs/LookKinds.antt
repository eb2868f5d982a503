-- What loads of the trie's words change in a pass's own view, and what each tells.
use Rattle.std.specs.Prelude.{◌≡◌, ℕ, ◌+◌, ◌<◌, Option, Some, None, List, [], ◌∷◌, ◌++◌, length, slice_index, if◌then◌else◌}
use mathlib.Core.Option.{some}
use lib.ListN.{get_elem?}
use Rattle.atomic_table.specs.Table.{Me, Step, State}
use Rattle.npf_types.specs.declared.key.Key.{Key}
use Rattle.npf_types.specs.declared.key.Way.{Way}
use Rattle.npf_core.specs.declared.act.Act.TheVariants.{Look}
use Rattle.npf_core.specs.declared.entry.Entry.{Entry}
use Rattle.npf_core.specs.declared.found.Found.{Found}
use Rattle.npf_core.specs.declared.reply.Reply.TheVariants.{ToLook}
use Rattle.npf_core.specs.History.{state_of}
use Rattle.npf_core.specs.Machine.{Holds, is_key}
use Rattle.npf_core.specs.Meaning.{Meaning}
use Rattle.npf_connections.specs.Adding.{AddsOwn}
use Rattle.npf_connections.specs.Answered.{found_ids}
use Rattle.npf_connections.specs.Entries.{entry_of}
use Rattle.npf_connections.specs.Pass.{IsPass}
use Rattle.npf_paths.specs.declared.cell.Cell.{Cell}
use Rattle.npf_paths.specs.declared.cell.Cell.TheVariants.{Empty, Leaf, Node, Mark}
use Rattle.npf_paths.specs.declared.place.Place.{Place}
use Rattle.npf_paths.specs.declared.place.Place.TheVariants as Places
use Rattle.npf_paths.specs.CellWords.{cell_of}
use Rattle.npf_paths.specs.Paths.{IsEnd}
use Rattle.npf_cells_words.specs.declared.layout.Layout.{Layout}
use Rattle.npf_cells_words.specs.declared.layout.Pool.TheVariants.{Slots}
use Rattle.npf_cells_words.specs.Layout.{key_field, field_at}
use Rattle.npf_cells_leaves.specs.declared.trie.LoadedLeaf.{LoadedLeaf}
use Rattle.npf_cells_leaves.specs.declared.trie.PathPlace.{PathPlace}
use Rattle.npf_cells_leaves.specs.declared.trie.TrieSide.{TrieSide}
use Rattle.npf_cells_leaves.specs.Trie.{digits_of}
use Rattle.npf_cells_lives.specs.declared.pools.StoredWord.{StoredWord}
use Rattle.npf_cells_lives.specs.declared.turn.Turn.{Turn}
use Rattle.npf_cells_lives.specs.Deaths.{last_id}
use Rattle.npf_cells_lives.specs.Stored.{stored_value}
use Rattle.npf_cells_lives.specs.Turns.{Running, stage_phase}
use Rattle.npf_cells_rule.specs.declared.view.CellView.{CellView}
use Rattle.npf_cells_rule.specs.Cells.{IsCells}
use Rattle.npf_cells_rule.specs.Passes.{cell_pass}
use Rattle.npf_cells_rule.specs.Views.{with_trie}

-- the pass stands at this place of the key's path: each path begins in the root
abbrev pub StandsOnPath : (Key → ℕ) → TrieSide → Key → Place → Type 0
StandsOnPath digest side key (Places.Root digit) = digit ≡ digits_of digest key 0
StandsOnPath digest side key (Places.Node node digit) = (level : ℕ) × (side.stands ≡ Some (record { key = key; level = level; place = Places.Node node digit }))

-- at which level the place is where a pass stands
abbrev pub level_of : Option PathPlace → ℕ
level_of None = 0
level_of (Some point) = point.level

abbrev pub level_at : TrieSide → Place → ℕ
level_at side (Places.Root digit) = 0
level_at side (Places.Node node digit) = level_of side.stands

-- a load of a place of the trie is counted, and the pass knows what it saw
abbrev pub sighting : Key → ℕ → Place → Cell → TrieSide → TrieSide
sighting key level p cell side = record side { seen = Some (record { key = key; level = level; place = p; cell = cell }); meets = None; places = side.places + 1 }

-- a node on the key's path leads to the node's place of the key's next digit
abbrev pub descending : (Key → ℕ) → Key → Place → ℕ → ℕ → TrieSide → TrieSide
descending digest key p level node side = record (sighting key level p (Node node) side) {
  stands = Some (record { key = key; level = level + 1; place = Places.Node node (digits_of digest key (level + 1)) });
}

-- what a leaf that a pass loaded says of a key's holder
abbrev pub holder_by : LoadedLeaf → Key → Option Found
holder_by leaf key = if is_key leaf.key key then Some (record { id = record { slot = leaf.slot; inc = leaf.inc }; way = leaf.way }) else None

-- the leaf is of this way of the slot's connection, and its key has five words
pub record IsLeafIn (slot : ℕ) (way : Way) (leaf : LoadedLeaf) : Type 0 where
  pub slot_is : leaf.slot ≡ slot
  pub way_is : leaf.way ≡ way
  pub five : length leaf.key.0 ≡ 5

-- what the end of a path says of the key's holder: where a leaf stands, by its words, which the pass can load from then on
abbrev pub TellsHolder : Cell → Key → Option Found → Option LoadedLeaf → Option LoadedLeaf → Type 0
TellsHolder Empty key found old now = (found ≡ None) × (now ≡ old)
TellsHolder (Leaf slot way) key found old now = (leaf : LoadedLeaf) × (now ≡ Some leaf) × IsLeafIn slot way leaf × (found ≡ holder_by leaf key)
TellsHolder (Node node) key found old now = ⊥
TellsHolder Mark key found old now = (found ≡ None) × (now ≡ old)

-- the pass after a look that ended: it has seen this history, and was answered this
abbrev pub looked : {S A R : Type 0} → CellView S A R → Key → Place → Cell → List (Entry S A R) → Option LoadedLeaf → Option Found → CellView S A R
looked v key p cell history leaf found = record v {
  seats = record v.seats { history = history };
  trie = record (sighting key (level_at v.trie p) p cell v.trie) { leaf = leaf; answered = found_ids found ++ v.trie.answered };
}

-- the pass looked for the key, for this packet: its look ends its history, with the reply that the cell gives
pub record HasLooked {S A R F : Type 0} (m : Meaning S A R) (n : ℕ) (key : Key) (p : Place) (cell : Cell) (old now : Me F (CellView S A R)) : Type 0 where
  pub found : Option Found
  pub adds : AddsOwn (cell_pass old.0) now.0.seats.history (entry_of (cell_pass old.0) (Look n key) (ToLook found) ∷ [])
  pub legal : IsPass m (cell_pass now.0)
  pub tells : TellsHolder cell key found old.0.trie.leaf now.0.trie.leaf
  pub is : now ≡ (looked old.0 key p cell now.0.seats.history now.0.trie.leaf found, old.1)

-- what may stand in a place of such a table
abbrev pub FitsLayout : Layout → Cell → Type 0
FitsLayout layout Empty = Unit {0}
FitsLayout layout (Leaf slot way) = slot < layout.slots
FitsLayout layout (Node node) = node < layout.nodes
FitsLayout layout Mark = Unit {0}

-- a load of a place of the key's path: a node leads on, unless the level is the last, and any other cell ends the look
pub record LooksAt {S A R F : Type 0} (m : Meaning S A R) (digest : Key → ℕ) (layout : Layout) (n : ℕ) (key : Key) (p : Place) (cell : Cell) (old now : Me F (CellView S A R)) : Type 0 where
  pub fits : FitsLayout layout cell
  pub leads : (node : ℕ) → cell ≡ Node node → (level_at old.0.trie p < 94) × (now ≡ with_trie old (descending digest key p (level_at old.0.trie p) node old.0.trie))
  pub ends : IsEnd cell → HasLooked m n key p cell old now

-- the kinds, as what they tell
pub record LoadsPlace {S A R F : Type 0} (m : Meaning S A R) (digest : Key → ℕ) (layout : Layout) (n : ℕ) (key : Key) (p : Place) (step : Step F) (me : Me F (CellView S A R)) (found : ℕ) (next : Me F (CellView S A R)) : Type 0 where
  pub looks : LooksAt m digest layout n key p (cell_of found) me next

-- the leaf that the pass loaded last is of this way of the slot's connection
abbrev pub IsLeafOf : TrieSide → ℕ → Way → Type 0
IsLeafOf side slot way = (leaf : LoadedLeaf) × (side.leaf ≡ Some leaf) × (leaf.slot ≡ slot) × (leaf.way ≡ way)

-- the pass has the slot's turn, and got it while the slot's connection was Live
abbrev pub HasLiveTurn : {S : Type 0} → Option (Turn S) → ℕ → Type 0
HasLiveTurn {S} turn slot = (t : Turn S) × (turn ≡ Some t) × (t.slot ≡ slot) × (stage_phase t.was.stage ≡ 1)

-- a load of a word of a key
abbrev pub reading : TrieSide → TrieSide
reading side = record side { words = side.words + 1 }

-- the word is that of the leaf's key, where the pass loaded this leaf last
abbrev pub ShowsKey : TrieSide → ℕ → Way → ℕ → ℕ → Type 0
ShowsKey side slot way word found = (leaf : LoadedLeaf) → side.leaf ≡ Some leaf → leaf.slot ≡ slot → leaf.way ≡ way → found ≡ slice_index leaf.key.0 word

-- and it is what the pass stored there, where it stored anything
abbrev pub ShowsStoredKey : Layout → List StoredWord → ℕ → Way → ℕ → ℕ → Type 0
ShowsStoredKey layout stored slot way word found = (n : ℕ) → stored_value layout stored (field_at layout Slots slot (key_field way + word)) ≡ Some n → found ≡ n

-- in a state of the table in which the seat knew and had this, it is that of the key which the slot's last connection held that way, where it held one
pub record TellsHeldKey {S A R : Type 0} (m : Meaning S A R) (digest : Key → ℕ) (layout : Layout) (view : CellView S A R) (slot : ℕ) (way : Way) (word found : ℕ) : Type 0 where
  pub state : State (Running S) (CellView S A R)
  pub rule : IsCells m digest layout state
  pub seated : get_elem? state.views view.seats.number ≡ some view
  pub held : (key : Key) → Holds (state_of m rule.log) (last_id (state_of m rule.log) slot) way key → (length key.0 ≡ 5) × (found ≡ slice_index key.0 word)

pub record LoadsKey {S A R : Type 0} (m : Meaning S A R) (digest : Key → ℕ) (layout : Layout) (slot : ℕ) (way : Way) (word : ℕ) (step : Step (Running S)) (me : Me (Running S) (CellView S A R)) (found : ℕ) (next : Me (Running S) (CellView S A R)) : Type 0 where
  pub is : next ≡ with_trie me (reading me.0.trie)
  pub shows : ShowsKey me.0.trie slot way word found
  pub stored : ShowsStoredKey layout me.0.pools.stored slot way word found
  pub tells : TellsHeldKey m digest layout me.0 slot way word found
