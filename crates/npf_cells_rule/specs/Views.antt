-- The sides of a view, and views of which one side changes.
use Rattle.std.specs.Prelude.{ℕ, Option, Some, None, List, []}
use Rattle.atomic_table.specs.Table.{Me}
use Rattle.npf_core.specs.declared.conn_id.ConnId.{ConnId}
use Rattle.npf_core.specs.declared.entry.Entry.{Entry}
use Rattle.npf_core.specs.declared.found.Found.{Found}
use Rattle.npf_core.specs.History.{state_of}
use Rattle.npf_core.specs.Machine.{Machine}
use Rattle.npf_core.specs.Meaning.{Meaning}
use Rattle.npf_paths.specs.declared.place.Lock.{Lock}
use Rattle.npf_paths.specs.declared.place.Place.{Place}
use Rattle.npf_seats.specs.declared.side.SeatSide.{SeatSide}
use Rattle.npf_seats.specs.Moves.{spent_seat}
use Rattle.npf_cells_pins.specs.declared.pin.EpochSide.{EpochSide}
use Rattle.npf_cells_pins.specs.declared.pin.Pin.{Pin}
use Rattle.npf_cells_pins.specs.declared.pin.Pin.TheVariants.{Idle, Pinned, Protected}
use Rattle.npf_cells_pins.specs.Epochs.{ReaderView, idle_side}
use Rattle.npf_cells_leaves.specs.declared.trie.LoadedLeaf.{LoadedLeaf}
use Rattle.npf_cells_leaves.specs.declared.trie.PathPlace.{PathPlace}
use Rattle.npf_cells_leaves.specs.declared.trie.SeenCell.{SeenCell}
use Rattle.npf_cells_leaves.specs.declared.trie.TrieSide.{TrieSide}
use Rattle.npf_cells_leaves.specs.Trie.{unread_side}
use Rattle.npf_cells_lives.specs.declared.pools.PoolSide.{PoolSide}
use Rattle.npf_cells_lives.specs.declared.turn.Turn.{Turn}
use Rattle.npf_cells_lives.specs.Deaths.{DeathSide}
use Rattle.npf_cells_lives.specs.Pools.{empty_handed}
use Rattle.npf_cells_marks.specs.Marks.{MarkSide}
use Rattle.npf_cells_rule.specs.declared.view.CellView.{CellView}

abbrev pub seat_side : {S A R : Type 0} → CellView S A R → SeatSide ℕ (Entry S A R)
seat_side v = v.seats

abbrev pub reader_view : {S A R : Type 0} → CellView S A R → ReaderView
reader_view v = record { places = v.seats.readers; side = v.epochs }

abbrev pub pool_side : {S A R : Type 0} → CellView S A R → PoolSide
pool_side v = v.pools

abbrev pub trie_side : {S A R : Type 0} → CellView S A R → TrieSide
trie_side v = v.trie

-- the locks that a pass has
abbrev pub lock_side : {S A R : Type 0} → CellView S A R → List Lock
lock_side v = v.trie.locks

-- the connections as a pass has seen them
abbrev pub seen_side : {S A R : Type 0} → Meaning S A R → CellView S A R → Machine S
seen_side m v = state_of m v.seats.history

-- the turn that a pass has
abbrev pub turn_side : {S A R : Type 0} → CellView S A R → Option (Turn S)
turn_side v = v.turn

-- what the part on deaths sees of it
abbrev pub protecting_epoch : Pin → Option ℕ
protecting_epoch Idle = None
protecting_epoch (Pinned epoch) = None
protecting_epoch (Protected pinned epoch) = Some epoch

abbrev pub leaf_id : Option LoadedLeaf → Option ConnId
leaf_id None = None
leaf_id (Some leaf) = Some (record { slot = leaf.slot; inc = leaf.inc })

-- which dead connections a pass has, of which it gave keys up, the greatest epoch with which it let one go, and the nodes that it got back
-- and hasn't freed
pub record DeadHand : Type 0 where
  pub kills : List ConnId
  pub gave_up : List Found
  pub reclaims : List ConnId
  pub cleared : List ConnId
  pub dated : ℕ
  pub unfreed : List ℕ

abbrev pub dead_hand : PoolSide → DeadHand
dead_hand side = record { kills = side.kills; gave_up = side.gave_up; reclaims = side.reclaims; cleared = side.cleared; dated = side.dated; unfreed = side.unfreed }

abbrev pub death_side : {S A R : Type 0} → CellView S A R → DeathSide
death_side v = record {
  kills = v.pools.kills;
  reclaims = v.pools.reclaims;
  cleared = v.pools.cleared;
  dated = v.pools.dated;
  loaded = v.epochs.loaded;
  protecting = protecting_epoch v.epochs.pin;
  answered = v.trie.answered;
  leaf = leaf_id v.trie.leaf;
}

-- and that on marks: where the pass stands, and which place it saw last
abbrev pub point_place : Option PathPlace → Option Place
point_place None = None
point_place (Some point) = Some point.place

abbrev pub seen_place : Option SeenCell → Option Place
seen_place None = None
seen_place (Some s) = Some s.place

abbrev pub mark_side : {S A R : Type 0} → CellView S A R → MarkSide
mark_side v = record {
  marks = v.trie.marks;
  emptied = v.trie.emptied;
  met = v.trie.met_mark;
  unfreed = v.pools.unfreed;
  locks = v.trie.locks;
  loaded = v.epochs.loaded;
  protecting = protecting_epoch v.epochs.pin;
  stands = point_place v.trie.stands;
  saw = seen_place v.trie.seen;
}

-- the pass after a step that changes only what it knows of the epoch
abbrev pub with_epochs : {S A R F : Type 0} → Me F (CellView S A R) → EpochSide → Me F (CellView S A R)
with_epochs me side = (record me.0 { epochs = side }, me.1)

-- who kills, or gives a key up, forgets the epoch that it loaded: what it lets go later is from before an epoch that it loaded since
abbrev pub unloaded : EpochSide → EpochSide
unloaded side = record side { loaded = 0; scanned = []; behind = [] }

-- the pass after a step that changes only what it knows of the trie
abbrev pub with_trie : {S A R F : Type 0} → Me F (CellView S A R) → TrieSide → Me F (CellView S A R)
with_trie me side = (record me.0 { trie = side }, me.1)

-- what is left of a pass that was joined into another
abbrev pub nothing_left : {S A R : Type 0} → CellView S A R
nothing_left = record { seats = spent_seat 0; epochs = idle_side; pools = empty_handed; trie = unread_side; turn = None }

-- the pass after a step that changes only what it knows and has of the pools
abbrev pub with_pools : {S A R F : Type 0} → Me F (CellView S A R) → PoolSide → Me F (CellView S A R)
with_pools me side = (record me.0 { pools = side }, me.1)
