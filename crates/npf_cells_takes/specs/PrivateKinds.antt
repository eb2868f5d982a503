-- What loads and stores of a pass's own words change in its view, and what each tells.
use Rattle.std.specs.Prelude.{◌≡◌, ◌≢◌, ◌⊎◌, ℕ, max, ◌+◌, ◌-◌, ◌%◌, ◌^◌, ◌≤◌, ◌<◌, ◌==◌, ◌&&◌, Bool, true, false, Option, Some, None, List, ◌∷◌, Contains, filter, if◌then◌else◌, nat_lt}
use Rattle.atomic_table.specs.Table.{Me, Step}
use Rattle.npf_types.specs.declared.key.Key.{Key}
use Rattle.npf_types.specs.declared.key.Way.{Way}
use Rattle.npf_core.specs.declared.conn_id.ConnId.{ConnId}
use Rattle.npf_core.specs.declared.found.Found.{Found}
use Rattle.npf_core.specs.declared.stage.Stage.TheVariants.{Dead}
use Rattle.npf_core.specs.History.{state_of}
use Rattle.npf_core.specs.Machine.{HoldsNone, stage_of}
use Rattle.npf_core.specs.Meaning.{Meaning}
use Rattle.npf_paths.specs.declared.cell.Cell.TheVariants.{Leaf}
use Rattle.npf_paths.specs.declared.place.Place.{Place}
use Rattle.npf_cells_words.specs.declared.layout.Layout.{Layout}
use Rattle.npf_cells_words.specs.Codes.{place_code}
use Rattle.npf_cells_words.specs.declared.layout.Pool.{Pool}
use Rattle.npf_cells_words.specs.declared.layout.Pool.TheVariants.{Slots, Nodes}
use Rattle.npf_cells_words.specs.Layout.{state_field, inc_field, phase_field, key_field, notes_field, note_field}
use Rattle.npf_seats.specs.Sums.{others_than}
use Rattle.npf_cells_leaves.specs.Sights.{SeesLocked}
use Rattle.npf_cells_leaves.specs.declared.trie.LoadedLeaf.{LoadedLeaf}
use Rattle.npf_cells_leaves.specs.declared.trie.TrieSide.{TrieSide}
use Rattle.npf_cells_lives.specs.declared.pools.PoolSide.{PoolSide}
use Rattle.npf_cells_lives.specs.declared.turn.Turn.{Turn}
use Rattle.npf_cells_lives.specs.Deaths.{IsKeyless, has_epoch, ids_elsewhere}
use Rattle.npf_cells_lives.specs.Notes.{notes_but, with_ahead}
use Rattle.npf_cells_lives.specs.Turns.{stage_phase}
use Rattle.npf_cells_rule.specs.declared.view.CellView.{CellView}
use Rattle.npf_cells_rule.specs.Views.{with_pools}

-- what the word of an incarnation shows who is building a connection in the slot: its incarnation, and the one before it where that
-- isn't stored yet
pub record ShowsInc (side : PoolSide) (slot found : ℕ) : Type 0 where
  pub stored : (id : ConnId) → Contains side.builds id → id.slot ≡ slot → ¬ Contains side.unstored slot → found ≡ id.inc
  pub before : (id : ConnId) → Contains side.builds id → id.slot ≡ slot → Contains side.unstored slot → found + 1 ≡ id.inc
  pub most : (id : ConnId) → Contains side.builds id → id.slot ≡ slot → id.inc ≤ 2 ^ 64 - 1

-- what it shows who loaded a leaf of the slot: the incarnation that the leaf then had
abbrev pub ShowsLeafInc : TrieSide → ℕ → ℕ → Type 0
ShowsLeafInc side slot found = (leaf : LoadedLeaf) → side.leaf ≡ Some leaf → leaf.slot ≡ slot → found ≡ leaf.inc

-- and who has the slot's turn: that of the connection that was Live or Dead there
abbrev pub ShowsTurnInc : {S : Type 0} → Option (Turn S) → ℕ → ℕ → Type 0
ShowsTurnInc turn slot found = (t : Turn _) → turn ≡ Some t → t.slot ≡ slot → stage_phase t.was.stage ≢ 0 → found ≡ t.was.inc

-- the pass has the turn of a slot whose connection was Live or Dead
abbrev pub HasTurnIn : {S : Type 0} → Option (Turn S) → ℕ → Type 0
HasTurnIn turn slot = (t : Turn _) × (turn ≡ Some t) × (t.slot ≡ slot) × (stage_phase t.was.stage ≢ 0)

-- the leaf that the pass loaded last is of the slot's connection
abbrev pub HasLeafIn : TrieSide → ℕ → Type 0
HasLeafIn side slot = (leaf : LoadedLeaf) × (side.leaf ≡ Some leaf) × (leaf.slot ≡ slot)

-- in a node that it owns a pass may store in each word but the state, whose lock another pass may have; and in its places no mark
pub record MayStoreInNode (side : PoolSide) (node field value : ℕ) : Type 0 where
  pub owned : Contains side.nodes node
  pub stateless : field ≢ state_field
  pub markless : field < 16 → value % 4 ≢ 3

-- in a connection that it is building a pass may store in each word but the turn, the phase and the notes: as incarnation the connection's,
-- and a key word only where the connection holds no key of that way
pub record MayStoreInSlot {S A R : Type 0} (m : Meaning S A R) (v : CellView S A R) (slot field value : ℕ) : Type 0 where
  pub id : ConnId
  pub built : Contains v.pools.builds id
  pub there : id.slot ≡ slot
  pub turnless : 1 ≤ field
  pub phaseless : field ≢ phase_field
  pub noteless : field < notes_field
  pub inc : field ≡ inc_field → value ≡ id.inc
  pub keyless : (way : Way) → key_field way ≤ field → field < key_field way + 5 → HoldsNone (state_of m v.seats.history) id way

-- a connection's phase may be stored under its slot's turn
pub record MayStorePhase {S A R : Type 0} (v : CellView S A R) (slot field : ℕ) : Type 0 where
  pub turn : Turn S
  pub has : v.turn ≡ Some turn
  pub there : turn.slot ≡ slot
  pub phase : field ≡ phase_field

-- the pass has seen the connection Dead and without keys
pub record HasSeenBare {S A R : Type 0} (m : Meaning S A R) (v : CellView S A R) (id : ConnId) : Type 0 where
  pub dead : stage_of (state_of m v.seats.history) id ≡ Dead
  pub keyless : IsKeyless (state_of m v.seats.history) id

-- the epoch that the pass loaded since it last killed anything may be stored, with the top bit, in the first note of a connection that it killed and that holds no key: it lets the connection go
pub record MayLetGo {S A R : Type 0} (m : Meaning S A R) (v : CellView S A R) (slot field value : ℕ) : Type 0 where
  pub id : ConnId
  pub killed : Contains v.pools.kills id
  pub there : id.slot ≡ slot
  pub note : field ≡ notes_field
  pub bare : HasSeenBare m v id
  pub loaded : 1 ≤ v.epochs.loaded
  pub epoch : value ≡ 2 ^ 63 + v.epochs.loaded

-- a note may be stored freely of a way of which the connection that the pass is building holds no key
pub record MayStoreNote {S A R : Type 0} (m : Meaning S A R) (v : CellView S A R) (slot field value : ℕ) : Type 0 where
  pub id : ConnId
  pub built : Contains v.pools.builds id
  pub there : id.slot ≡ slot
  pub way : Way
  pub note : field ≡ note_field way
  pub bare : HoldsNone (state_of m v.seats.history) id way
  pub low : value < 2 ^ 63

-- under a slot's turn the note of a leaf may be stored that the pass sees under the lock of its place: the number of another place, to which
-- it is about to move the leaf
pub record MayStoreAhead {S A R : Type 0} (v : CellView S A R) (slot : ℕ) (way : Way) (value : ℕ) : Type 0 where
  pub turn : Turn S
  pub has : v.turn ≡ Some turn
  pub there : turn.slot ≡ slot
  pub settled : turn.ahead ≡ None
  pub from : Place
  pub sees : SeesLocked v.trie from (Leaf slot way)
  pub to : Place
  pub names : value ≡ place_code to
  pub low : value < 2 ^ 63

-- the first note of a connection that the pass reclaimed may be set to 0
abbrev pub MayClear : {S A R : Type 0} → CellView S A R → ConnId → Type 0
MayClear v id = Contains v.pools.reclaims id

-- in a place of either pool
abbrev pub MayStore : {S A R : Type 0} → Meaning S A R → CellView S A R → Pool → ℕ → ℕ → ℕ → Type 0
MayStore m v Slots slot field value = MayStoreInSlot m v slot field value ⊎ (MayStorePhase v slot field ⊎ (MayStoreNote m v slot field value ⊎ MayLetGo m v slot field value))
MayStore m v Nodes node field value = MayStoreInNode v.pools node field value

-- what the pass still has to store: an incarnation that it stores no longer
abbrev pub owing : Pool → ℕ → ℕ → List ℕ → List ℕ
owing Slots slot field unstored = if field == inc_field then others_than slot unstored else unstored
owing Nodes node field unstored = unstored

-- the pass knows what it stored
abbrev pub storing : Pool → ℕ → ℕ → ℕ → PoolSide → PoolSide
storing pool place field value side = record side {
  unstored = owing pool place field side.unstored;
  stored = (record { pool = pool; place = place; field = field; value = value }) ∷ side.stored;
}

-- a turn whose phase was stored
abbrev pub with_phase : {S : Type 0} → ℕ → Option (Turn S) → Option (Turn S)
with_phase value None = None
with_phase value (Some turn) = Some (record turn { phase = value })

-- the connection of the slot isn't the pass's any more, nor is it remembered which of its keys it gave up; it was let go with this epoch
abbrev pub letting_go : ℕ → ℕ → PoolSide → PoolSide
letting_go slot epoch side = record side {
  kills = ids_elsewhere slot side.kills;
  gave_up = filter (λ (g : Found). if g.id.slot == slot then false else true) side.gave_up;
  dated = max side.dated epoch;
}

-- its first note has no epoch any more
abbrev pub clearing : ConnId → PoolSide → PoolSide
clearing id side = record side { reclaims = ids_elsewhere id.slot side.reclaims; cleared = id ∷ side.cleared }

-- a note that has an epoch
abbrev pub is_epoch_note : ℕ → ℕ → Bool
is_epoch_note field value = (field == notes_field) && (has_epoch value == 1)

-- the pass after a store of a note of which it is free, and of one of which it is then ahead
abbrev pub noted_in : {S A R F : Type 0} → ℕ → ℕ → ℕ → Me F (CellView S A R) → Me F (CellView S A R)
noted_in slot field value me = with_pools me (record me.0.pools { notes = (record { slot = slot; field = field; value = value }) ∷ notes_but slot field me.0.pools.notes })

abbrev pub leading : {S A R F : Type 0} → ℕ → ℕ → Me F (CellView S A R) → Me F (CellView S A R)
leading field value me = (record me.0 { turn = with_ahead (Some (record { field = field; value = value })) me.0.turn }, me.1)

-- the pass after a store in one of its words: it knows what it stored, of a phase by its turn; and by an epoch in a note it lets go
abbrev pub stored_in : {S A R F : Type 0} → Pool → ℕ → ℕ → ℕ → Me F (CellView S A R) → Me F (CellView S A R)
stored_in Slots slot field value me =
    if field == phase_field then (record me.0 { turn = with_phase value me.0.turn }, me.1)
    else if nat_lt field notes_field then with_pools me (storing Slots slot field value me.0.pools)
    else if is_epoch_note field value then with_pools me (letting_go slot (value - 2 ^ 63) me.0.pools)
    else noted_in slot field value me
stored_in Nodes node field value me = with_pools me (storing Nodes node field value me.0.pools)

-- the kinds, as what they tell
pub record LoadsInc {S A R F : Type 0} (slot : ℕ) (step : Step F) (me : Me F (CellView S A R)) (found : ℕ) (next : Me F (CellView S A R)) : Type 0 where
  pub is : next ≡ me
  pub shows : ShowsInc me.0.pools slot found
  pub leaf : ShowsLeafInc me.0.trie slot found
  pub turn : ShowsTurnInc me.0.turn slot found

pub record StoresPrivate {S A R F : Type 0} (m : Meaning S A R) (digest : Key → ℕ) (layout : Layout) (pool : Pool) (place field : ℕ) (step : Step F) (me : Me F (CellView S A R)) (value : ℕ) (next : Me F (CellView S A R)) : Type 0 where
  pub is : next ≡ stored_in pool place field value me

pub record StoresAhead {S A R F : Type 0} (way : Way) (step : Step F) (me : Me F (CellView S A R)) (value : ℕ) (next : Me F (CellView S A R)) : Type 0 where
  pub is : next ≡ leading (note_field way) value me

pub record ClearsNote {S A R F : Type 0} (conn : ConnId) (step : Step F) (me : Me F (CellView S A R)) (value : ℕ) (next : Me F (CellView S A R)) : Type 0 where
  pub is : next ≡ with_pools me (clearing conn me.0.pools)
