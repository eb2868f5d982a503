-- What giving up a key of a killed connection leaves.
use Rattle.std.specs.Prelude.{◌≡◌, ◌≢◌, ◌≤◌, ◌↔◌, ℕ, Bool, true, false, Option, None, List, [], ◌∷◌, filter, map}
use Rattle.atomic_table.specs.Table.{Me}
use Rattle.npf_types.specs.declared.key.Key.{Key}
use Rattle.npf_types.specs.declared.key.Way.{Way}
use Rattle.npf_types.specs.declared.key.Way.TheVariants.{Forward, Backward, Port}
use Rattle.npf_core.specs.declared.act.Act.TheVariants.{Unhold}
use Rattle.npf_core.specs.declared.conn_id.ConnId.{ConnId}
use Rattle.npf_core.specs.declared.entry.Entry.{Entry}
use Rattle.npf_core.specs.declared.reply.Reply.TheVariants.{Nothing}
use Rattle.npf_core.specs.History.{state_of}
use Rattle.npf_core.specs.declared.stage.Stage.TheVariants.{Dead}
use Rattle.npf_core.specs.Machine.{stage_of, Holds, HoldsNone, HoldsSome}
use Rattle.npf_core.specs.Meaning.{Meaning}
use Rattle.npf_connections.specs.Adding.{AddsOwn}
use Rattle.npf_connections.specs.Entries.{entry_of}
use Rattle.npf_connections.specs.Pass.{Pass, IsPass}
use Rattle.npf_connections.specs.Ways.{HoldsThese, all_ways}
use Rattle.npf_cells_holds.specs.PublishKinds.{publishing}
use Rattle.npf_cells_holds.specs.UnlinkKinds.{giving_up}
use Rattle.npf_paths.specs.declared.place.Lock.{Lock}
use Rattle.npf_cells_pins.specs.declared.pin.EpochSide.{EpochSide}
use Rattle.npf_cells_pins.specs.declared.pin.Pin.{Pin}
use Rattle.npf_cells_lives.specs.declared.pools.Note.{Note}
use Rattle.npf_cells_lives.specs.declared.turn.Turn.{Turn}
use Rattle.npf_cells_lives.specs.Turns.{Running}
use Rattle.npf_cells_rule.specs.declared.view.CellView.{CellView}
use Rattle.npf_cells_rule.specs.Passes.{cell_pass}
use Rattle.npf_cells_rule.specs.Views.{unloaded}
use Rattle.npf_cells_takes.specs.PrivateKinds.{HasSeenBare}
use Rattle.npf_turn.specs.Done.{HasLetGo}
use Rattle.npf_turn.specs.TakingOff.{EpochsGoOn}

-- the pass after it gave a key up, has seen this history, and knows this of the epoch: it counts the store in the trie, and has no lock and no turn
abbrev pub without_key : {S A R : Type 0} → CellView S A R → List (Entry S A R) → EpochSide → ConnId → Way → CellView S A R
without_key v history epochs id way = record v {
  seats = record v.seats { history = history };
  epochs = epochs;
  pools = giving_up id way v.pools;
  trie = record (publishing v.trie) { locks = []; emptied = None; met_mark = None };
  turn = None;
}

-- the connection held a key of that way, and gave it up: this ends the history. It is Dead still, and holds its other keys as before
pub record GivesUpKey {S A R : Type 0} (m : Meaning S A R) (id : ConnId) (way : Way) (old now : Me (Running S) (CellView S A R)) : Type 0 where
  pub held : HoldsSome (state_of m old.0.seats.history) id way
  pub dead : stage_of (state_of m now.0.seats.history) id ≡ Dead
  pub others : (other : Way) (key : Key) → other ≢ way → Holds (state_of m old.0.seats.history) id other key ↔ Holds (state_of m now.0.seats.history) id other key
  pub adds : AddsOwn (cell_pass old.0) now.0.seats.history (entry_of (cell_pass old.0) (Unhold id way) Nothing ∷ [])
  pub legal : IsPass m (cell_pass old.0) → IsPass m (cell_pass now.0)
  pub is : now ≡ (without_key old.0 now.0.seats.history now.0.epochs id way, [])
  pub epochs : EpochsGoOn (unloaded old.0.epochs) now.0.epochs

-- or it held none, and nothing was done
pub record HasNoKey {S A R : Type 0} (m : Meaning S A R) (id : ConnId) (way : Way) (old now : Me (Running S) (CellView S A R)) : Type 0 where
  pub dead : stage_of (state_of m old.0.seats.history) id ≡ Dead
  pub none : HoldsNone (state_of m old.0.seats.history) id way
  pub is : now ≡ (record old.0 { turn = None }, [])

-- whether it held one
abbrev pub HasEndedKey : {S A R : Type 0} → Meaning S A R → ConnId → Way → Bool → Me (Running S) (CellView S A R) → Me (Running S) (CellView S A R) → Type 0
HasEndedKey m id way true old now = GivesUpKey m id way old now
HasEndedKey m id way false old now = HasNoKey m id way old now

-- the pass that has seen this history, and knows this of the epoch
abbrev pub seen_with : {S A R : Type 0} → CellView S A R → List (Entry S A R) → EpochSide → CellView S A R
seen_with v history epochs = record v { seats = record v.seats { history = history }; epochs = epochs }

-- the pass after both: only in what a key that was given up changes
abbrev pub key_ended : {S A R : Type 0} → Bool → ConnId → Way → CellView S A R → CellView S A R
key_ended true id way v = without_key v v.seats.history (unloaded v.epochs) id way
key_ended false id way v = record v { turn = None }

-- the entries by which keys of these ways are given up
abbrev pub unhold_entries : {S A R : Type 0} → Pass (Entry S A R) → ConnId → (Way → Bool) → List (Entry S A R)
unhold_entries pass id held = map (λ way. entry_of pass (Unhold id way) Nothing) (filter held all_ways)

-- the pass gave all keys of the connection up, one after the other, which ends its history; by what it has seen the connection is Dead and holds none
pub record HasEndedKeys {S A R : Type 0} (m : Meaning S A R) (id : ConnId) (old now : Me (Running S) (CellView S A R)) : Type 0 where
  pub held : Way → Bool
  pub holds : HoldsThese (state_of m old.0.seats.history) id held
  pub adds : AddsOwn (cell_pass old.0) now.0.seats.history (unhold_entries (cell_pass old.0) id held)
  pub legal : IsPass m (cell_pass old.0) → IsPass m (cell_pass now.0)
  pub bare : HasSeenBare m now.0 id
  pub is : now ≡ (seen_with (key_ended (held Port) id Port (key_ended (held Backward) id Backward (key_ended (held Forward) id Forward old.0))) now.0.seats.history now.0.epochs, [])
  pub pin : now.0.epochs.pin ≡ old.0.epochs.pin
  pub raises : now.0.epochs.raises ≡ old.0.epochs.raises
  pub greatest : old.0.epochs.greatest ≤ now.0.epochs.greatest
  pub known : old.0.epochs.known ≤ now.0.epochs.known

-- a pass that killed nothing, and remembers no key that it gave up
pub record HasNoKills {S A R : Type 0} (v : CellView S A R) : Type 0 where
  pub kills : v.pools.kills ≡ []
  pub gave_up : v.pools.gave_up ≡ []

-- what ending a connection leaves of a pass: how it reads, what it has and builds, what it was answered, and what it stored and reclaimed
pub record Hands (S : Type 0) : Type 0 where
  pub pin : Pin
  pub nodes : List ℕ
  pub builds : List ConnId
  pub unstored : List ℕ
  pub notes : List Note
  pub reclaims : List ConnId
  pub cleared : List ConnId
  pub answered : List ConnId
  pub locks : List Lock
  pub turn : Option (Turn S)

abbrev pub hands : {S A R : Type 0} → CellView S A R → Hands S
hands v = record {
  pin = v.epochs.pin;
  nodes = v.pools.nodes;
  builds = v.pools.builds;
  unstored = v.pools.unstored;
  notes = v.pools.notes;
  reclaims = v.pools.reclaims;
  cleared = v.pools.cleared;
  answered = v.trie.answered;
  locks = v.trie.locks;
  turn = v.turn;
}

-- the pass gave all keys of the connection up, and let it go. Where it killed nothing else, it has no kills then
pub record HasEnded {S A R : Type 0} (m : Meaning S A R) (id : ConnId) (old now : Me (Running S) (CellView S A R)) : Type 0 where
  pub between : Me (Running S) (CellView S A R)
  pub keys : HasEndedKeys m id old between
  pub gone : HasLetGo id between now
  pub same : hands now.0 ≡ hands old.0
  pub leaves : old.0.pools.kills ≡ id ∷ [] → old.0.pools.gave_up ≡ [] → HasNoKills now.0
