-- How the connections of a text are put into a new table.
-- READ 2 of docs/READING.md
use Rattle.std.specs.Prelude.{◌≡◌, ◌<◌, ◌≤◌, ◌+◌, ℕ, Bool, Option, Some, None, List, [], ◌∷◌, ◌++◌, Contains, map}
use Rattle.std.specs.List.{flat_map}
use Rattle.npf_types.specs.declared.key.Key.{Key}
use Rattle.npf_types.specs.declared.key.Way.{Way}
use Rattle.npf_types.specs.declared.key.Way.TheVariants.{Forward, Backward, Port}
use Rattle.npf_types.specs.declared.name.Name.{Name}
use Rattle.npf_core.specs.declared.act.Act.{Act}
use Rattle.npf_core.specs.declared.act.Act.TheVariants.{Claim, Hold, Start}
use Rattle.npf_core.specs.declared.act.Why.TheVariants.{Abandoned}
use Rattle.npf_core.specs.declared.conn_id.ConnId.{ConnId}
use Rattle.npf_core.specs.declared.entry.Entry.{Entry}
use Rattle.npf_core.specs.declared.held.Held.{Held}
use Rattle.npf_core.specs.declared.reply.Reply.{Reply}
use Rattle.npf_core.specs.declared.reply.Reply.TheVariants.{Nothing, ToClaim, ToHold}
use Rattle.npf_core.specs.History.{IsPrefix, state_of}
use Rattle.npf_core.specs.Machine.{Machine, IsClaimed}
use Rattle.npf_connections.specs.Entries.{end_entries}
use Rattle.npf_connections.specs.Pass.{Pass}
use Rattle.npf_flow.specs.declared.flow.Flow.{Flow}
use Rattle.npf_flow.specs.declared.step.FlowArg.{FlowArg}
use Rattle.npf_flow.specs.declared.step.FlowReply.{FlowReply}
use Rattle.npf_flow.specs.Flows.{flow_law}
use Rattle.npf_saved.specs.declared.saved.Saved.{Saved}
use Rattle.npf_saved_file.specs.declared.fault.SavedFault.{SavedFault}
use Rattle.npf_saved_file.specs.declared.fault.SavedFault.TheVariants.{BadSaved, OtherInterfaces, TooManySaved, SavedNoNode, NoMemory}
use Rattle.npf_saved_file.specs.Refusal.{MayLoad, RefusesSaved}
use Rattle.npf_connsave.specs.Saves.{AreSavedOf, IsSavedText}

-- an entry of a table of flows, and what a pass over one shows
abbrev pub FlowEntry : Type 0
FlowEntry = Entry Flow FlowArg FlowReply

abbrev pub View : Type 0
View = Pass FlowEntry

abbrev pub entry : ℕ → Act Flow FlowArg → Reply FlowReply → FlowEntry
entry seat act reply = record { seat = seat; act = act; reply = reply }

-- the identity is given its key of this way, if it has one
abbrev pub hold_entries_of : ℕ → ConnId → Way → Option Key → List FlowEntry
hold_entries_of seat id way None = []
hold_entries_of seat id way (Some key) = entry seat (Hold id key way) (ToHold Held.Done) ∷ []

-- the identity is given the connection's keys
abbrev pub key_entries : ℕ → ConnId → Saved → List FlowEntry
key_entries seat id saved =
    hold_entries_of seat id Forward (Some saved.forward) ++ (hold_entries_of seat id Port saved.port ++ hold_entries_of seat id Backward saved.backward)

-- the connection is claimed as this identity, is given its keys, and starts, with the number of no packet
abbrev pub load_entries : ℕ → ConnId → Saved → List FlowEntry
load_entries seat id saved =
    entry seat (Claim 0 id.slot) (ToClaim id) ∷ (key_entries seat id saved ++ entry seat (Start id 0 saved.flow) Nothing ∷ [])

-- a connection is claimed as this identity, is given these keys, and is abandoned
abbrev pub left_entries : View → ConnId → List FlowEntry → (Way → Bool) → List FlowEntry
left_entries pass id held ways = entry pass.number (Claim 0 id.slot) (ToClaim id) ∷ (held ++ end_entries pass id Abandoned ways)

-- connections with the identities as which they were loaded
abbrev pub loaded_entries : ℕ → List (ConnId × Saved) → List FlowEntry
loaded_entries seat made = flat_map (λ one. load_entries seat one.0 one.1) made

abbrev pub loaded_conns : List (ConnId × Saved) → List Saved
loaded_conns made = map (λ one. one.1) made

-- the text's connections were loaded, one behind the other, and by nothing else; so the table's text is that text
pub record LoadsSaved (names : List Name) (text : List ℕ) (old new : View) : Type 0 where
  pub made : List (ConnId × Saved)
  pub may : MayLoad text names old.slots (loaded_conns made)
  pub entries : new.history ≡ loaded_entries old.number made
  pub same : IsSavedText (state_of flow_law new.history) names text

-- nobody holds one of these keys
abbrev pub AreFree : Machine Flow → List Key → Type 0
AreFree k keys = (key : Key) → Contains keys key → k.holder key ≡ None

-- the pass is the same one of its table, in or out as it was, and neither its count of full sweeps nor its epoch fell
pub record StaysSole (old new : View) : Type 0 where
  pub slots : new.slots ≡ old.slots
  pub number : new.number ≡ old.number
  pub entered : new.entered ≡ old.entered
  pub places : new.places ≡ old.places
  pub joined : new.joined ≡ old.joined
  pub sweeps : old.sweeps ≤ new.sweeps
  pub epoch : old.epoch ≤ new.epoch

-- these were loaded into the new table, and nothing else
pub record StartsAll (old new : View) (all : List Saved) : Type 0 where
  pub made : List (ConnId × Saved)
  pub conns : loaded_conns made ≡ all
  pub entries : new.history ≡ loaded_entries old.number made
  pub saved : AreSavedOf (state_of flow_law new.history) all

-- there was no node for the key
pub record RefusesKey (old new : View) : Type 0 where
  pub same : new.history ≡ old.history
  pub sweeps : old.sweeps + 1 ≤ new.sweeps

-- some of the connection's keys were held, and there was no node for the next
pub record RefusesKeys (old new : View) (id : ConnId) (saved : Saved) : Type 0 where
  pub held : List FlowEntry
  pub part : IsPrefix held (key_entries old.number id saved)
  pub entries : new.history ≡ old.history ++ held
  pub sweeps : old.sweeps + 1 ≤ new.sweeps

-- each slot is claimed
abbrev pub AllClaimed : Machine Flow → ℕ → Type 0
AllClaimed k slots = (slot : ℕ) → slot < slots → IsClaimed (k.slot slot).stage

-- the connection was loaded, and nothing else
pub record StartsOne (old new : View) (saved : Saved) : Type 0 where
  pub id : ConnId
  pub entries : new.history ≡ old.history ++ load_entries old.number id saved

-- some of the connection's keys were held, there was no node for the next, and the connection was abandoned
pub record LeavesOne (old new : View) (saved : Saved) : Type 0 where
  pub id : ConnId
  pub held : List FlowEntry
  pub ways : Way → Bool
  pub part : IsPrefix held (key_entries old.number id saved)
  pub entries : new.history ≡ old.history ++ left_entries old id held ways
  pub sweeps : old.sweeps + 1 ≤ new.sweeps

-- some of these were loaded, and there was no node for a key of the next, which was abandoned
pub record LeavesFront (old new : View) (all : List Saved) : Type 0 where
  pub made : List (ConnId × Saved)
  pub id : ConnId
  pub saved : Saved
  pub held : List FlowEntry
  pub ways : Way → Bool
  pub front : IsPrefix (loaded_conns made ++ saved ∷ []) all
  pub part : IsPrefix held (key_entries old.number id saved)
  pub entries : new.history ≡ loaded_entries old.number made ++ left_entries old id held ways
  pub sweeps : old.sweeps + 1 ≤ new.sweeps

-- why a text isn't loaded: without a node for a key a front of its connections stays, and else the table wasn't asked
abbrev pub RefusesLoaded : List Name → List ℕ → View → View → SavedFault → Type 0
RefusesLoaded names text old new SavedNoNode = (all : List Saved) × MayLoad text names old.slots all × LeavesFront old new all
RefusesLoaded names text old new (BadSaved line) = RefusesSaved text names old.slots (BadSaved line) × (new ≡ old)
RefusesLoaded names text old new (OtherInterfaces line) = RefusesSaved text names old.slots (OtherInterfaces line) × (new ≡ old)
RefusesLoaded names text old new (TooManySaved count) = RefusesSaved text names old.slots (TooManySaved count) × (new ≡ old)
RefusesLoaded names text old new NoMemory = new ≡ old
