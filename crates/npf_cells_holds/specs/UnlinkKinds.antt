-- What it takes to give up a key of a killed connection, and what that changes in the pass's own view and tells.
use Rattle.std.specs.Prelude.{◌≡◌, ◌≢◌, ◌↔◌, ℕ, Option, Some, None, List, [], ◌∷◌, Contains}
use Rattle.atomic_table.specs.Table.{Me, Step}
use Rattle.npf_types.specs.declared.key.Key.{Key}
use Rattle.npf_types.specs.declared.key.Way.{Way}
use Rattle.npf_core.specs.declared.act.Act.TheVariants.{Unhold}
use Rattle.npf_core.specs.declared.conn_id.ConnId.{ConnId}
use Rattle.npf_core.specs.declared.entry.Entry.{Entry}
use Rattle.npf_core.specs.declared.reply.Reply.TheVariants.{Nothing}
use Rattle.npf_core.specs.History.{state_of}
use Rattle.npf_core.specs.declared.stage.Stage.TheVariants.{Dead}
use Rattle.npf_core.specs.Machine.{stage_of, Holds, HoldsSome}
use Rattle.npf_core.specs.Meaning.{Meaning}
use Rattle.npf_connections.specs.Adding.{AddsOwn}
use Rattle.npf_connections.specs.Entries.{entry_of}
use Rattle.npf_connections.specs.Pass.{IsPass}
use Rattle.npf_paths.specs.declared.place.Place.{Place}
use Rattle.npf_paths.specs.declared.place.Place.TheVariants as Places
use Rattle.npf_paths.specs.Places.{lock_of}
use Rattle.npf_cells_words.specs.declared.mark.Emptied.{Emptied}
use Rattle.npf_cells_words.specs.Codes.{place_code}
use Rattle.npf_cells_words.specs.Layout.{note_field}
use Rattle.npf_cells_lives.specs.declared.pools.PoolSide.{PoolSide}
use Rattle.npf_cells_lives.specs.declared.turn.Turn.{Turn}
use Rattle.npf_cells_rule.specs.declared.view.CellView.{CellView}
use Rattle.npf_cells_rule.specs.Passes.{cell_pass}
use Rattle.npf_cells_rule.specs.Views.{unloaded}
use Rattle.npf_cells_holds.specs.PublishKinds.{publishing}

-- the pass killed the connection, and hasn't given its key of that way up; it has the slot's turn, under which the way's note named the place, and
-- the place's lock. So the connection's leaf stands there, and the connection holds a key of that way
pub record MayUnlink {S A R : Type 0} (v : CellView S A R) (p : Place) (id : ConnId) (way : Way) : Type 0 where
  pub killed : Contains v.pools.kills id
  pub held : ¬ Contains v.pools.gave_up (record { id = id; way = way })
  pub turn : Turn S
  pub has : v.turn ≡ Some turn
  pub there : turn.slot ≡ id.slot
  pub settled : turn.ahead ≡ None
  pub named : turn.said ≡ Some (record { field = note_field way; value = place_code p })
  pub locked : Contains v.trie.locks (lock_of p)

-- the key of that way is given up
abbrev pub giving_up : ConnId → Way → PoolSide → PoolSide
giving_up id way side = record side { gave_up = (record { id = id; way = way }) ∷ side.gave_up }

-- a place of a node in which nothing stands any more, as a pass knows it that emptied it
abbrev pub emptied_at : Place → Option Emptied
emptied_at (Places.Root digit) = None
emptied_at (Places.Node node digit) = Some (record { node = node; parent = None; digits = digit ∷ [] })

-- the pass after it: it has seen this history, and forgot the epoch that it loaded; and it knows that the place is empty
abbrev pub unlinked : {S A R : Type 0} → CellView S A R → List (Entry S A R) → ConnId → Way → Place → CellView S A R
unlinked v history id way p = record v {
  seats = record v.seats { history = history };
  epochs = unloaded v.epochs;
  pools = giving_up id way v.pools;
  trie = record (publishing v.trie) { emptied = emptied_at p };
}

-- the pass gave the key up: this ends its history. By what it had seen the connection held a key of that way; and by what it has now seen it is Dead
-- still, and holds its other keys as before
pub record HasUnlinked {S A R F : Type 0} (m : Meaning S A R) (id : ConnId) (way : Way) (p : Place) (old now : Me F (CellView S A R)) : Type 0 where
  pub held : HoldsSome (state_of m old.0.seats.history) id way
  pub dead : stage_of (state_of m now.0.seats.history) id ≡ Dead
  pub others : (other : Way) (key : Key) → other ≢ way → Holds (state_of m old.0.seats.history) id other key ↔ Holds (state_of m now.0.seats.history) id other key
  pub adds : AddsOwn (cell_pass old.0) now.0.seats.history (entry_of (cell_pass old.0) (Unhold id way) Nothing ∷ [])
  pub legal : IsPass m (cell_pass old.0) → IsPass m (cell_pass now.0)
  pub is : now ≡ (unlinked old.0 now.0.seats.history id way p, old.1)

-- the kind, as what it tells
pub record Unlinks {S A R F : Type 0} (m : Meaning S A R) (conn : ConnId) (way : Way) (p : Place) (step : Step F) (me : Me F (CellView S A R)) (value : ℕ) (next : Me F (CellView S A R)) : Type 0 where
  pub unlinked : HasUnlinked m conn way p me next
