-- What a run does, whatever the interleaving of its workers and of its control task.
use Rattle.std.specs.Prelude.{◌≡◌, ◌≤◌, ◌<◌, ◌⊎◌, ◌+◌, ℕ, false, ◌==◌, if◌then◌else◌, List, [], ◌∷◌, ◌++◌, Option, Some, None, All, length, take, drop, filter, slice_index, Contains}
use Rattle.std.specs.List.Sorted.{IsNonDecreasing}
use Rattle.npf_types.specs.declared.key.Way.{Way}
use Rattle.npf_core.specs.declared.act.Act.TheVariants.{Kill, Unhold, Free}
use Rattle.npf_core.specs.declared.act.Why.TheVariants.{Expired}
use Rattle.npf_core.specs.declared.conn_id.ConnId.{ConnId}
use Rattle.npf_core.specs.History.{IsPrefix, Legal, state_of}
use Rattle.npf_core.specs.Machine.{stage_of, IsLive, IsAlive}
use Rattle.npf_connections.specs.Collecting.{HasNoDead}
use Rattle.npf_connections.specs.Expiring.{WasNotDue}
use Rattle.npf_connections.specs.Pass.{Pass}
use Rattle.npf_connections.specs.Worn.{ClaimsLast, last_epoch}
use Rattle.npf_flow.specs.Flows.{flow_law}
use Rattle.npf_model.specs.Configuration.{Configuration}
use Rattle.npf_engine.specs.declared.outcome.Outcome.{Outcome}
use Rattle.npf_engine.specs.Arrival.{Arrival}
use Rattle.npf_engine.specs.Handles.{IsExplained}
use Rattle.npf_engine.specs.Histories.{FlowEntry, History, carries, entries_of}
use Rattle.npf_engine.specs.Outcome.{passes, sent_of, lacks_node}
use Rattle.npf_traffic.specs.declared.packet.Packet.{Packet}
use Rattle.npf_traffic.specs.declared.phase.Command.{Command}
use Rattle.npf_traffic.specs.declared.phase.Command.TheVariants.{Expire}
use Rattle.npf_traffic.specs.declared.phase.Phase.{Phase}
use Rattle.npf_traffic.specs.declared.phase.Spread.{Spread}
use Rattle.npf_traffic.specs.Phases.{published_by}
use Rattle.npf_runner.specs.Spread.{IsWorkerOf}

-- a packet with its number as it arrives
abbrev pub arriving : ℕ → Packet → Arrival
arriving n packet = record {
  number = n;
  time = packet.time;
  link = packet.link;
  ifid = packet.ifid;
  dir = packet.dir;
  held = packet.held;
  bytes = packet.bytes;
}

-- no entry of the history carries a number from 1 to this one
abbrev pub IsUnnumbered : ℕ → History → Type 0
IsUnnumbered last history = (n : ℕ) (entry : FlowEntry) → 1 ≤ n → n ≤ last → Contains history entry → carries n entry.act ≡ false

-- the number is one of those from `first` to `last`
pub record IsBetween (first last number : ℕ) : Type 0 where
  pub low : first ≤ number
  pub high : number ≤ last

-- a packet that asked a configuration asked one of these
abbrev pub AsksBetween : ℕ → ℕ → Option ℕ → Type 0
AsksBetween first last None = Unit {0}
AsksBetween first last (Some number) = IsBetween first last number

-- the numbers that one worker's packets asked, in order, where the packets went to these workers
abbrev pub asked_by : ℕ → List ℕ → List (Option ℕ) → List ℕ
asked_by worker (other ∷ workers) (Some number ∷ asked) =
    if other == worker then number ∷ asked_by worker workers asked else asked_by worker workers asked
asked_by worker (other ∷ workers) (None ∷ asked) = asked_by worker workers asked
asked_by worker [] asked = []
asked_by worker (other ∷ workers) [] = []

-- Each packet that asked a configuration asked the last one published when its phase began, or one that the phase's commands publish,
-- and each worker's numbers don't fall.
pub record AreFresh (first last : ℕ) (workers : List ℕ) (asked : List (Option ℕ)) : Type 0 where
  pub each : All (AsksBetween first last) asked
  pub rises : (worker : ℕ) → IsNonDecreasing (asked_by worker workers asked)

-- at some point of the history all entries of the earlier packet stand, and none of the later one
pub record IsBefore (history : History) (earlier later : ℕ) : Type 0 where
  pub point : History
  pub begins : IsPrefix point history
  pub done : entries_of earlier point ≡ entries_of earlier history
  pub none_yet : entries_of later point ≡ []

-- Each worker takes its packets in order: of two that went to one worker the earlier one stands before the later one, where the packets
-- are numbered from `first` on and went to these workers.
abbrev pub AreInTurn : History → ℕ → List ℕ → Type 0
AreInTurn history first workers =
    (i j : ℕ) → i < j → j < length workers → slice_index workers i ≡ slice_index workers j →
    IsBefore history (first + i) (first + j)

module _ (configs : List Configuration) (workers : ℕ) (spread : Spread) (slots : ℕ) (history : History) where
  -- The packet goes to this worker, asked this configuration if any, and has this outcome, in a phase that ends at this point. It is as it
  -- was but for its bytes, which changed only if it passed.
  pub record IsAnswered (end : History) (n : ℕ) (packet : Packet) (worker : ℕ) (asked : Option ℕ) (outcome : Outcome) (output : Packet) : Type 0 where
    pub dealt : IsWorkerOf spread workers (arriving n packet) worker
    pub explained : IsExplained configs slots history end (arriving n packet) asked outcome (sent_of outcome output.bytes)
    pub kept : passes outcome ≡ false → output.bytes ≡ packet.bytes
    pub same : output ≡ record packet { bytes = output.bytes }

  -- each packet is answered so, numbered from n on
  abbrev pub AreAnswered : History → ℕ → List Packet → List ℕ → List (Option ℕ) → List Outcome → List Packet → Type 0
  AreAnswered end n [] [] [] [] [] = Unit {0}
  AreAnswered end n (packet ∷ packets) (worker ∷ rest) (asks ∷ asked) (outcome ∷ outcomes) (output ∷ outputs) =
      IsAnswered end n packet worker asks outcome output × AreAnswered end (n + 1) packets rest asked outcomes outputs
  AreAnswered end n _ _ _ _ _ = ⊥

-- the entry is one of a packet of these numbers
pub record IsOfPacket (history : History) (first count : ℕ) (entry : FlowEntry) : Type 0 where
  pub number : ℕ
  pub low : first ≤ number
  pub high : number < first + count
  pub has : Contains (entries_of number history) entry

-- the entry kills a connection as expired, at a time that the commands name
pub record IsExpiry (commands : List Command) (entry : FlowEntry) : Type 0 where
  pub id : ConnId
  pub time : ℕ
  pub act : entry.act ≡ Kill id (Expired time)
  pub named : Contains commands (Expire time)

-- the entry gives back a key, or a slot
abbrev pub GivesBack : FlowEntry → Type 0
GivesBack entry = ((id : ConnId) × (way : Way) × (entry.act ≡ Unhold id way)) ⊎ ((id : ConnId) × (entry.act ≡ Free id))

-- An expiry of a phase: what was Live at its start, and at its end is neither Dead nor freed, was not due at the time at some point
-- between.
abbrev pub LeavesNoDue : History → History → ℕ → Type 0
LeavesNoDue start end time =
    (id : ConnId) → IsLive (stage_of (state_of flow_law start) id) → IsAlive (stage_of (state_of flow_law end) id) →
    WasNotDue flow_law start end id time

-- What stands between two points of the whole history is this phase's: entries of its packets, numbered from `first` on, expiries that
-- its commands name, and what was given back; and its expiries left nothing due.
pub record IsPhase (history start end : History) (first : ℕ) (phase : Phase) : Type 0 where
  pub added : History
  pub goes_on : end ≡ start ++ added
  pub only : (entry : FlowEntry) → Contains added entry →
      IsOfPacket history first phase.packets entry ⊎ IsExpiry phase.commands entry ⊎ GivesBack entry
  pub expires : (time : ℕ) → Contains phase.commands (Expire time) → LeavesNoDue start end time

module _ (configs : List Configuration) (workers : ℕ) (spread : Spread) (old new : Pass FlowEntry) where
  -- A phase that began at a point of the history, with the packet of this number as its first, and with this configuration as the last that
  -- was published. At its end no connection is Dead, unless the run ends with the last epoch, or a last incarnation was claimed by the
  -- phase's end.
  pub record PlaysPhase (start end : History) (first last : ℕ) (phase : Phase) (packets outputs : List Packet) (outcomes : List Outcome) : Type 0 where
    pub dealt : List ℕ
    pub asked : List (Option ℕ)
    pub answered : AreAnswered configs workers spread old.slots new.history end first packets dealt asked outcomes outputs
    pub fresh : AreFresh last (last + published_by phase.commands) dealt asked
    pub in_turn : AreInTurn new.history first dealt
    pub made : IsPhase new.history start end first phase
    pub clean : new.epoch < last_epoch → ¬ ClaimsLast end → HasNoDead (state_of flow_law end)

  -- the phases from a point of the history on, each from the end of the one before
  abbrev pub PlaysFrom : History → ℕ → ℕ → List Phase → List Packet → List Packet → List Outcome → Type 0
  PlaysFrom start first last [] packets outputs outcomes =
      (start ≡ new.history) × (packets ≡ []) × (outputs ≡ []) × (outcomes ≡ [])
  PlaysFrom start first last (phase ∷ phases) packets outputs outcomes =
      (end : History)
      × PlaysPhase start end first last phase (take phase.packets packets) (take phase.packets outputs) (take phase.packets outcomes)
      × PlaysFrom end (first + phase.packets) (last + published_by phase.commands) phases
      (drop phase.packets packets) (drop phase.packets outputs) (drop phase.packets outcomes)

  -- A run: its history is legal, and its phases follow one another from the history at entry on. For each packet that the table had no
  -- node for, the count of sweeps rose by at least one.
  pub record PlaysPhases (phases : List Phase) (packets outputs : List Packet) (outcomes : List Outcome) : Type 0 where
    pub legal : Legal flow_law old.slots new.history
    pub phased : PlaysFrom old.history 1 0 phases packets outputs outcomes
    pub sweeps : old.sweeps + length (filter lacks_node outcomes) ≤ new.sweeps
